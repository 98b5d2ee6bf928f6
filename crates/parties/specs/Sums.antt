-- The sums that the work area holds: of all leaves, and on every axis of all parties but the last one, whose leaves sum to what is left.
-- 'On axis j, party c sums the leaves whose coordinate j is c.' Axes, parties and leaves count from 0. A hidden leaf is in no sum; a
-- number that is no leaf's hides none.
--
-- rank p q                the number of the sum at index q among those of the parties, axis by axis for one party after another
-- axis_at p q, party_at p q the axis and the party whose sum stands at index q, unless that is D
-- in_sum p q i             leaf i is in the sum at index q; all leaves are in that at index D
-- disclosed_at p hidden q  the test for the leaves of the sum at index q, but for the hidden leaf
-- sum_at p d q             the sum at index q of the sums d
-- added_on p j i s d       the sums d with s added to that of leaf i's party on axis j, unless it is the last party
-- added_leaf p i s d       the sums d with s added to all that leaf i is in
-- party_sums p s hidden    the sums of the disclosed leaves' shares s i, one after another
-- less total f n          total less f 0 to f (n−1)
-- with_last p total f c    f c, and for the last party what the others leave of the total
-- with_aux p d aux         the sums d with aux added into the sum of all leaves, at its place in a share
use Rattle.std.specs.Prelude.{Bool, ◌&&◌, ◌||◌, not, cond, List, ℕ, zero, suc, ◌+◌, ◌-◌, ◌*◌, ◌/◌, ◌%◌, eqb, ltb}
use Rattle.lists.specs.Part.{part}
use Rattle.lists.specs.Sum.{xor_list, xor_at}
use Rattle.parameters.specs.declared.Parameters.{Parameters}
use Rattle.layout.specs.Layout.{others, sum_count, sum_index, leaves, digit, at_x, share_length}
use Rattle.exchange.specs.Sequences.{joined}
use Rattle.exchange.specs.Parties.{total, party_of}
pub mod Index
pub mod Adding
pub mod Leaves
pub mod Front

unfoldable pub rank : Parameters → ℕ → ℕ
rank p q = q - cond (ltb q p.axes) 0 1

abbrev pub axis_at : Parameters → ℕ → ℕ
axis_at p q = rank p q % p.axes

abbrev pub party_at : Parameters → ℕ → ℕ
party_at p q = rank p q / p.axes

unfoldable pub in_sum : Parameters → ℕ → ℕ → Bool
in_sum p q i = eqb q p.axes || party_of p (axis_at p q) (party_at p q) i

abbrev pub disclosed_at : Parameters → ℕ → ℕ → ℕ → Bool
disclosed_at p hidden q i = in_sum p q i && not (eqb i hidden)

abbrev pub sum_at : Parameters → List ℕ → ℕ → List ℕ
sum_at p d q = part d (q * share_length p) (share_length p)

unfoldable pub added_on : Parameters → ℕ → ℕ → List ℕ → List ℕ → List ℕ
added_on p j i s d = cond (ltb (digit p j i) (others p)) (xor_at d (sum_index p j (digit p j i) * share_length p) s) d

unfoldable pub added_leaf : Parameters → ℕ → List ℕ → List ℕ → List ℕ
added_leaf p i s d = joined (λ q. cond (in_sum p q i) (xor_list (sum_at p d q) s) (sum_at p d q)) (sum_count p)

unfoldable pub party_sums : Parameters → (ℕ → List ℕ) → ℕ → List ℕ
party_sums p s hidden = joined (λ q. total p (disclosed_at p hidden q) s (leaves p)) (sum_count p)

unfoldable pub less : List ℕ → (ℕ → List ℕ) → ℕ → List ℕ
less total f zero = total
less total f (suc n) = xor_list (less total f n) (f n)

unfoldable pub with_last : Parameters → List ℕ → (ℕ → List ℕ) → ℕ → List ℕ
with_last p total f c = cond (ltb c (others p)) (f c) (less total f (others p))

abbrev pub with_aux : Parameters → List ℕ → List ℕ → List ℕ
with_aux p d aux = xor_at d (p.axes * share_length p + at_x p) aux
