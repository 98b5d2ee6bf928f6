-- What needs no hash: lengths at the shipped set, the rest at D 3.
--
-- shipped, cube, leaf_numbers    the shipped set; a set with D 3, and its leaves
-- hiding i                       an exchange that hides leaf i, its messages empty
-- pairs                          the pairs of two leaves
-- lengths-are                    of a run: message 2; message 5 for leaf 0 and n−1; work area; the extractor's output
-- exchange1-lengths-are, ..      of one, two and three runs that hide leaf 0, n−1 and n: messages 1, 2, 3 and 5, the
--                                extractor's output
-- coordinates-are                of each leaf, on axes 1 to 3
-- siblings-are                   of each leaf: the nodes, from the root side down
-- compared-are                   layers and numbers in the order in which the extractor compares, leaves 2 and 5 hidden
-- axes-are                       of each pair, the first axis on which it differs
use Rattle.std.specs.Prelude.{◌≡◌, refl, List, [], ◌∷◌, map, ℕ}
use Rattle.parameters.specs.declared.Parameters.{Parameters}
use Rattle.layout.specs.Layout.{levels, coordinate, message2_length, message5_length, work_length, output_length}
use Rattle.exchange.specs.Tree.{siblings}
use Rattle.exchange.specs.Opening.{Exchange}
use Rattle.exchange.specs.Extractor.{compared, axis}
use Rattle.test_standin.specs.Definitions.{definitions}
use Rattle.test_exchange.specs.Definitions.{exchange_lengths}

abbrev shipped : Parameters
shipped = record { m = 230; k = 126; w = 79; axes = 8; t = 3 }

lengths-are :
    message2_length shipped ∷ message5_length shipped 0 ∷ message5_length shipped 255 ∷ work_length shipped ∷ output_length shipped ∷ []
    ≡ 24 ∷ 480 ∷ 184 ∷ 5120 ∷ 8488 ∷ []
unfolding definitions
lengths-are = refl

abbrev cube : Parameters
cube = record { m = 2; k = 1; w = 1; axes = 3; t = 1 }

exchange1-lengths-are :
    exchange_lengths cube 1 (0 ∷ [])
    ≡ 64 ∷ 8 ∷ 32 ∷ 95 ∷ 263 ∷ []
unfolding definitions
exchange1-lengths-are = refl

exchange2-lengths-are :
    exchange_lengths cube 2 (0 ∷ 7 ∷ [])
    ≡ 96 ∷ 16 ∷ 64 ∷ 183 ∷ 526 ∷ []
unfolding definitions
exchange2-lengths-are = refl

exchange3-lengths-are :
    exchange_lengths cube 3 (0 ∷ 7 ∷ 8 ∷ [])
    ≡ 128 ∷ 24 ∷ 96 ∷ 278 ∷ 789 ∷ []
unfolding definitions
exchange3-lengths-are = refl

abbrev leaf_numbers : List ℕ
leaf_numbers = 0 ∷ 1 ∷ 2 ∷ 3 ∷ 4 ∷ 5 ∷ 6 ∷ 7 ∷ []

coordinates-are :
    map (λ i. coordinate cube 1 i ∷ coordinate cube 2 i ∷ coordinate cube 3 i ∷ []) leaf_numbers
    ≡ (1 ∷ 1 ∷ 1 ∷ []) ∷ (2 ∷ 1 ∷ 1 ∷ []) ∷ (1 ∷ 2 ∷ 1 ∷ []) ∷ (2 ∷ 2 ∷ 1 ∷ []) ∷ (1 ∷ 1 ∷ 2 ∷ []) ∷ (2 ∷ 1 ∷ 2 ∷ []) ∷ (1 ∷ 2 ∷ 2 ∷ []) ∷ (2 ∷ 2 ∷ 2 ∷ []) ∷ []
unfolding definitions
coordinates-are = refl

siblings-are :
    map (λ i. map (λ s. s.0) (siblings (λ s n. []) [] (levels cube) 1 [] i)) leaf_numbers
    ≡ (3 ∷ 5 ∷ 9 ∷ []) ∷ (3 ∷ 5 ∷ 8 ∷ []) ∷ (3 ∷ 4 ∷ 11 ∷ []) ∷ (3 ∷ 4 ∷ 10 ∷ []) ∷ (2 ∷ 7 ∷ 13 ∷ []) ∷ (2 ∷ 7 ∷ 12 ∷ []) ∷ (2 ∷ 6 ∷ 15 ∷ []) ∷ (2 ∷ 6 ∷ 14 ∷ []) ∷ []
unfolding definitions
siblings-are = refl

abbrev hiding : ℕ → Exchange
hiding i = record { prefix = []; h = []; message2 = []; message3 = []; leaf = i; message5 = [] }

compared-are :
    map (λ n. n.0 ∷ n.1 ∷ []) (compared cube (hiding 2) (hiding 5))
    ≡ (7 ∷ 0 ∷ []) ∷ (6 ∷ 1 ∷ []) ∷ (6 ∷ 2 ∷ []) ∷ (6 ∷ 3 ∷ []) ∷ (5 ∷ 0 ∷ []) ∷ (4 ∷ 0 ∷ []) ∷ (4 ∷ 1 ∷ []) ∷ (4 ∷ 3 ∷ []) ∷ (4 ∷ 4 ∷ []) ∷ (4 ∷ 6 ∷ []) ∷ (4 ∷ 7 ∷ []) ∷ []
unfolding definitions
compared-are = refl

abbrev pairs : List (ℕ × ℕ)
pairs = (0, 1) ∷ (0, 2) ∷ (0, 3) ∷ (0, 4) ∷ (0, 5) ∷ (0, 6) ∷ (0, 7) ∷ (1, 2) ∷ (1, 3) ∷ (1, 4) ∷ (1, 5) ∷ (1, 6) ∷ (1, 7) ∷ (2, 3) ∷ (2, 4) ∷ (2, 5) ∷ (2, 6) ∷ (2, 7) ∷ (3, 4) ∷ (3, 5) ∷ (3, 6) ∷ (3, 7) ∷ (4, 5) ∷ (4, 6) ∷ (4, 7) ∷ (5, 6) ∷ (5, 7) ∷ (6, 7) ∷ []

axes-are :
    map (λ n. axis cube (hiding n.0) (hiding n.1)) pairs
    ≡ 1 ∷ 2 ∷ 1 ∷ 3 ∷ 1 ∷ 2 ∷ 1 ∷ 1 ∷ 2 ∷ 1 ∷ 3 ∷ 1 ∷ 2 ∷ 1 ∷ 2 ∷ 1 ∷ 3 ∷ 1 ∷ 1 ∷ 2 ∷ 1 ∷ 3 ∷ 1 ∷ 2 ∷ 1 ∷ 1 ∷ 2 ∷ 1 ∷ []
unfolding definitions
axes-are = refl
