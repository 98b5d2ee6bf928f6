-- Laws of what specs/Field.antt defines.
--
--   no-zero-divisor       a b = 0 and a ≠ 0 give b = 0
use Rattle.std.specs.Prelude.{◌≡◌}
use Rattle.algebra.specs.Ring.Laws.{ring, combine}
use Rattle.algebra.specs.Field.{Field2}

pub no-zero-divisor : {K : Type 0} (F : Field2 K) (a b : K) → F.base.mul a b ≡ F.base.zero → (a ≡ F.base.zero → ⊥) → b ≡ F.base.zero
no-zero-divisor F a b e n =
    combine F.base b _ _ (F.mul-inv a n) (combine F.base (F.inv a) _ _ e (simp (ring, F.base)))
