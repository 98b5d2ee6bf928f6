-- How many calls are carried out, from every session, be it one that no calls lead to.
--
-- is_begin, is_points, is_leaf   which call it is
-- carried_in kind s cs         how many calls of a kind are carried out among the calls cs from the session s; here the first call stands first
use Rattle.std.specs.Prelude.{Bool, ◌&&◌, cond, ℕ, ◌+◌}
use mathlib.Core.List.{List, [], ◌∷◌}
use Rattle.std.proofs.Math.Dec.{eqb}
use Rattle.calls.specs.Held.{is_some}
use Rattle.calls.specs.Prover.{Prover}
use Rattle.calls.specs.Prover.History.{Call, begin_in, points_in, leaf_in, outcome}

abbrev pub is_begin : Call → Bool
is_begin c = is_some (begin_in c)

abbrev pub is_points : Call → Bool
is_points c = is_some (points_in c)

abbrev pub is_leaf : Call → Bool
is_leaf c = leaf_in c

-- ---- a count of the calls carried out

module _ (hash : List ℕ → ℕ → List ℕ) where
  unfoldable pub carried_in : (Call → Bool) → Prover → List Call → ℕ
  carried_in kind s [] = 0
  carried_in kind s (c ∷ cs) = cond (kind c && eqb (outcome hash s c).answer 0) 1 0 + carried_in kind (outcome hash s c).prover cs
