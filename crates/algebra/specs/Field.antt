-- Fields of characteristic 2.
--
--   Field2 K              a ring of characteristic 2 where 1 is not 0, equality with 0 is decided, and what is not 0 has an inverse
use Rattle.std.specs.Prelude.{◌≡◌}
use Rattle.algebra.specs.Ring.{Ring2}
pub mod Laws

pub record Field2 (K : Type 0) : Type 0 where
  pub base : Ring2 K
  pub one≢zero : base.one ≡ base.zero → ⊥
  pub zero? : (a : K) → Dec (a ≡ base.zero)
  pub inv : K → K
  pub mul-inv : (a : K) → (a ≡ base.zero → ⊥) → base.mul a (inv a) ≡ base.one
