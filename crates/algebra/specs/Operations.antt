-- Bare operations: what a definition computes with, at numbers as well as in a field.
--
--   Operations K            zero, one, sum and product on K, with no laws
--   Homomorphism O P h      h carries the operations O over to the operations P
use Rattle.std.specs.Prelude.{◌≡◌}

pub record Operations (K : Type 0) : Type 0 where
  pub zero : K
  pub one : K
  pub add : K → K → K
  pub mul : K → K → K

pub record Homomorphism {K L : Type 0} (O : Operations K) (P : Operations L) (h : K → L) : Type 0 where
  pub zero : h O.zero ≡ P.zero
  pub one : h O.one ≡ P.one
  pub add : (a b : K) → h (O.add a b) ≡ P.add (h a) (h b)
  pub mul : (a b : K) → h (O.mul a b) ≡ P.mul (h a) (h b)
