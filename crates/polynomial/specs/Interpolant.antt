-- S and F: the polynomials of document 01, "Key and polynomials", that belong to the interpolation points. Coefficients go lowest first.
--
--   ascending a n            the n numbers from a on
--   interpolation_points m    f_1 to f_m: "Interpolation points f_i are the bytes i, 1 to m"
--   interpolant_of x          S: "S has degree at most m−1 and S(f_i) = x_i", m coefficients
--   vanishing_of m            F: "the product over all i" of X + f_i, m + 1 coefficients
use Rattle.std.specs.Prelude.{List, [], ◌∷◌, ℕ, zero, suc, length}
use Rattle.algebra.specs.Polynomial.{interpolate, vanishing}
use Rattle.bytefield.specs.Product.{byte_ops}
use Rattle.bytefield.specs.Inverse.{inverse}
pub mod Laws

unfoldable pub ascending : ℕ → ℕ → List ℕ
ascending a zero = []
ascending a (suc n) = a ∷ ascending (suc a) n

abbrev pub interpolation_points : ℕ → List ℕ
interpolation_points m = ascending 1 m

unfoldable pub interpolant_of : List ℕ → List ℕ
interpolant_of x = interpolate byte_ops inverse (interpolation_points (length x)) x

unfoldable pub vanishing_of : ℕ → List ℕ
vanishing_of m = vanishing byte_ops (interpolation_points m)
