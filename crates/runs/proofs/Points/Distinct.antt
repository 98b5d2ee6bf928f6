-- points-distinct, distinct-points   the test of n runs passes exactly where the points at two positions of one run differ
use Rattle.std.specs.Prelude.{◌≡◌, Bool, ◌&&◌, List, [], ◌∷◌, ◌++◌}
use Rattle.std.proofs.Math.Path.{refl, sym, ap}
use Rattle.std.proofs.Common.{◌∙◌, not-suc-le-zero, le_refl, add-one, arith}
use Rattle.std.proofs.Math.Bool.{true, false, not, false≢true}
use Prim.Native.Nat.{ℕ, zero, suc, ◌+◌, ◌≤◌, ◌<◌}
use Rattle.std.proofs.Math.Decide.{dec_lt, ℕ_discrete}
use Rattle.lists.specs.Checks.{all_true}
use Rattle.lists.specs.Checks.Laws.{and_left, and_right, not_so}
use Rattle.lists.specs.Equal.{eq_list}
use Rattle.lists.specs.Equal.Laws.{eq_list-true, eq_list-of}
use Rattle.parameters.specs.declared.Parameters.{Parameters}
use Rattle.exchange.specs.Sequences.{listed}
use Rattle.runs.specs.Messages.{message2_at}
use Rattle.runs.specs.Points.{point_bytes, new_point, distinct_in, distinct_points, DistinctPoints}
use Rattle.runs.proofs.Points.Laws.{all_listed, listed-all, new-when, new_then}

module _ (p : Parameters) (n : ℕ) (m2 : List ℕ) where
  pub distinct-points : DistinctPoints p n m2 → distinct_points p n m2 ≡ true
  unfolding distinct_points distinct_in
  distinct-points h =
      all_listed _ n
      (λ e k. all_listed _ p.t (λ l j. new-when (message2_at p m2 e) l (λ i b. h e i l k (omega arith) j (omega arith))))

  pub points-distinct : distinct_points p n m2 ≡ true → DistinctPoints p n m2
  unfolding distinct_points distinct_in
  points-distinct h e i l k a b q c = go (dec_lt i l)
    where
      new : (j : ℕ) → j < p.t → new_point (message2_at p m2 e) j ≡ true
      new j s = listed-all (new_point (message2_at p m2 e)) p.t (listed-all (λ e. distinct_in p.t (message2_at p m2 e)) n h e k) j s

      go : Dec (i < l) → ⊥
      go (yes s) = new_then (message2_at p m2 e) l (new l b) i s c
      go (no s) = new_then (message2_at p m2 e) i (new i a) l (omega arith) (sym c)
