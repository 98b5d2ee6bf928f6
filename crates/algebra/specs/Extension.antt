-- The step from a field to its quadratic extension: pairs (u, v) that stand for u + v·T, where T² = T + c.
--
--   ext_ops O c            sum and product of such pairs, over any operations
--   ext_map h              a map of the parts, as a map of pairs
--   Irreducible R c       u² + u = c has no solution, so that T² = T + c defines a field
--   norm, ext_inverse      the product of u + v·T with its conjugate u + v + v·T, and the inverse made from it
use Rattle.std.specs.Prelude.{◌≡◌}
use Rattle.algebra.specs.Operations.{Operations}
use Rattle.algebra.specs.Ring.{Ring2}
use Rattle.algebra.specs.Field.{Field2}
pub mod Laws

-- (u + v·T)(u' + v'·T) = u u' + v v' c + (u v' + v u' + v v')·T
abbrev pub ext_ops : {K : Type 0} → Operations K → K → Operations (K × K)
ext_ops O c = record {
  zero = (O.zero, O.zero);
  one = (O.one, O.zero);
  add = λ x y. (O.add x.0 y.0, O.add x.1 y.1);
  mul = λ x y. (
    O.add (O.mul x.0 y.0) (O.mul (O.mul x.1 y.1) c),
    O.add (O.add (O.mul x.0 y.1) (O.mul x.1 y.0)) (O.mul x.1 y.1),
  );
}

abbrev pub ext_map : {K L : Type 0} → (K → L) → K × K → L × L
ext_map h x = (h x.0, h x.1)

abbrev pub Irreducible : {K : Type 0} → Ring2 K → K → Type 0
Irreducible {K = K} R c = (u : K) → R.add (R.mul u u) u ≡ c → ⊥

unfoldable pub norm : {K : Type 0} → Ring2 K → K → K × K → K
norm R c x = R.add (R.add (R.mul x.0 x.0) (R.mul x.0 x.1)) (R.mul (R.mul x.1 x.1) c)

unfoldable pub ext_inverse : {K : Type 0} → Field2 K → K → K × K → K × K
ext_inverse F c x =
    (F.base.mul (F.inv (norm F.base c x)) (F.base.add x.0 x.1), F.base.mul (F.inv (norm F.base c x)) x.1)
