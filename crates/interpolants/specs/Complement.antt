-- The nonzero bytes that are no interpolation points, and the scales of those that are.
--
--   complement_of m      the product of X + g over the nonzero bytes g above m: F times it is X^255 + 1
--   scales_from g a n   f·g(f) for the n bytes f from a on
--   scales_of m         the scales of the interpolation points: f times the value of the complement at f
--   factors_of m         the scales, and behind them the complement: 256 bytes
use Rattle.std.specs.Prelude.{List, [], ◌∷◌, ◌++◌, ℕ, zero, suc, ◌+◌, ◌-◌}
use Rattle.algebra.specs.Polynomial.{eval, vanishing}
use Rattle.bytefield.specs.Product.{◌⊗◌, byte_ops}
use Rattle.polynomial.specs.Interpolant.{ascending}

unfoldable pub complement_of : ℕ → List ℕ
complement_of m = vanishing byte_ops (ascending (1 + m) (255 - m))

unfoldable pub scales_from : List ℕ → ℕ → ℕ → List ℕ
scales_from g a zero = []
scales_from g a (suc n) = a ⊗ eval byte_ops g a ∷ scales_from g (suc a) n

unfoldable pub scales_of : ℕ → List ℕ
scales_of m = scales_from (complement_of m) 1 m

unfoldable pub factors_of : ℕ → List ℕ
factors_of m = scales_of m ++ complement_of m
