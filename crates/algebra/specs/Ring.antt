-- Commutative rings of characteristic 2.
--
--   Ring2 K          zero, one, sum and product on K with the laws of a commutative ring in which a + a = 0 (so minus is plus)
--   ops R            the operations of R without their laws
use Rattle.std.specs.Prelude.{◌≡◌}
use Rattle.algebra.specs.Operations.{Operations}
pub mod Laws

pub record Ring2 (K : Type 0) : Type 0 where
  pub zero : K
  pub one : K
  pub add : K → K → K
  pub mul : K → K → K
  pub add_assoc : (a b c : K) → add (add a b) c ≡ add a (add b c)
  pub add_comm : (a b : K) → add a b ≡ add b a
  pub add-zero : (a : K) → add a zero ≡ a
  pub add-self : (a : K) → add a a ≡ zero
  pub mul_assoc : (a b c : K) → mul (mul a b) c ≡ mul a (mul b c)
  pub mul_comm : (a b : K) → mul a b ≡ mul b a
  pub mul-one : (a : K) → mul a one ≡ a
  pub mul-add : (a b c : K) → mul a (add b c) ≡ add (mul a b) (mul a c)

abbrev pub ops : {K : Type 0} → Ring2 K → Operations K
ops R = record { zero = R.zero; one = R.one; add = R.add; mul = R.mul }
