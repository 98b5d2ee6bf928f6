-- The seed tree level by level: the leaves one level further down are the children of the leaves, in order.
--
-- descended hash pre v ss   the children of the seeds ss, whose nodes are v, v + 1 and so on: left, right, left, right ..
-- grown hash pre c v d      the same in bytes, of the first c seeds of the buffer d
use Rattle.std.specs.Prelude.{List, [], ◌∷◌, ◌++◌, ℕ, zero, suc, ◌+◌, take, drop}
use Rattle.exchange.specs.Tree.{children, left_seed, right_seed}
pub mod Laws
pub mod Growing
pub mod Reached

module _ (hash : List ℕ → ℕ → List ℕ) (prefix : List ℕ) where
  unfoldable pub descended : ℕ → List (List ℕ) → List (List ℕ)
  descended v [] = []
  descended v (s ∷ ss) = left_seed hash prefix v s ∷ (right_seed hash prefix v s ∷ descended (v + 1) ss)

  unfoldable pub grown : ℕ → ℕ → List ℕ → List ℕ
  grown zero v d = []
  grown (suc c) v d = children hash prefix v (take 16 d) ++ grown c (v + 1) (drop 16 d)
