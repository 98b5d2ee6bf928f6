-- A leaf: its state, its share, its commitment.
--
-- state pre i seed         layer 2: 'gives seed (16) and rho (16)'; the two together are the leaf's state
-- share p pre i st aux     layer 3: 'gives a (4t), b (4t), x_A (k), Q (w), P (w), c (4t). Leaf n−1 takes only a and b (8t bytes)
--                          from it'; the rest of its share is aux
-- commitment p pre i st aux   layer 4: 'gives the leaf commitment (32)'
use Rattle.std.specs.Prelude.{cond, List, ◌++◌, ℕ, take}
use Rattle.parameters.specs.declared.Parameters.{Parameters}
use Rattle.layout.specs.Layout.{is_last, share_length, at_x}
use Rattle.exchange.specs.Strings.{string2, string3, string4}

module _ (hash : List ℕ → ℕ → List ℕ) where
  unfoldable pub state : List ℕ → ℕ → List ℕ → List ℕ
  state prefix i seed = hash (string2 prefix i seed) 32

  unfoldable pub share : Parameters → List ℕ → ℕ → List ℕ → List ℕ → List ℕ
  share p prefix i st aux =
      cond (is_last p i) (hash (string3 prefix i (take 16 st)) (at_x p) ++ aux) (hash (string3 prefix i (take 16 st)) (share_length p))

  unfoldable pub commitment : Parameters → List ℕ → ℕ → List ℕ → List ℕ → List ℕ
  commitment p prefix i st aux = hash (string4 p prefix i st aux) 32
