-- Sums over the numbers below n. The sum over those that pass a test b is `sum G (λ i. cond (b i) (f i) G.zero) n`.
--
--   sum G f n      f 0 + f 1 + .. + f (n−1)
use Rattle.std.specs.Prelude.{ℕ, zero, suc}
use Rattle.cube.specs.Group.{Group2}
pub mod Laws

unfoldable pub sum : {A : Type 0} → Group2 A → (ℕ → A) → ℕ → A
sum G f zero = G.zero
sum G f (suc n) = G.add (sum G f n) (f n)
