-- Number 4 over several leaves.
--
-- leaves-below, below-leaves   the test passes exactly when each leaf is below n
use Rattle.std.specs.Prelude.{◌≡◌, refl, true, List, [], ◌∷◌, map, ℕ, zero, suc, ◌<◌, ltb, length, get_or}
use Rattle.std.proofs.Common.{not-suc-le-zero, arith, ltb-true, lt-ltb}
use Rattle.lists.specs.Checks.{all_true}
use Rattle.lists.specs.Checks.Laws.{and_left, and_right}
use Rattle.parameters.specs.declared.Parameters.{Parameters}
use Rattle.layout.specs.Layout.{leaves}
use Rattle.calls.specs.Lengths.{leaves_below}

pub leaves-below : (p : Parameters) (is : List ℕ) → leaves_below p is ≡ true → (e : ℕ) → e < length is → get_or is e 0 < leaves p
unfolding leaves_below
leaves-below p [] h e l = absurd (not-suc-le-zero l)
leaves-below p (i ∷ is) h zero l = ltb-true i (leaves p) (and_left (ltb i (leaves p)) (all_true (map (λ i. ltb i (leaves p)) is)) h)
leaves-below p (i ∷ is) h (suc e) l =
    leaves-below p is (and_right (ltb i (leaves p)) (all_true (map (λ i. ltb i (leaves p)) is)) h) e (omega arith)

pub below-leaves : (p : Parameters) (is : List ℕ) → ((e : ℕ) → e < length is → get_or is e 0 < leaves p) → leaves_below p is ≡ true
unfolding leaves_below
below-leaves p [] h = refl
below-leaves p (i ∷ is) h = rw (lt-ltb i (leaves p) (h 0 (omega arith))) (below-leaves p is (λ e l. h (suc e) (omega arith)))
