-- The key's vector x, the positions E and the polynomials Q and P (document 01, "Key and polynomials"). S and F stand in polynomial's Interpolant.
-- All are lists of bytes; the matrix is lent row after row, coefficients go lowest first.
--
--   dot h x            the product of the row at the front of h with x
--   rows n h x         H'x: n rows of as many bytes as x has, "row after row", each times x
--   vector_of h y x_a    x: "x is x_A followed by x_B = y + H'x_A"
--   weight_of x         how many entries of x are nonzero
--   filled k x         marks on the positions of x: where x is nonzero, and the lowest k others
--   positions w x      E: "the positions where x is nonzero, filled to w with the lowest other positions"
--   locator_of w x      Q: "the product of (X + f_i) over E", the leading 1 included
--   quotient_of w x     P: "P = S·Q/F has w coefficients"
use Rattle.std.specs.Prelude.{Bool, true, false, List, [], ◌∷◌, ◌++◌, ℕ, zero, suc, ◌-◌, length, take, drop}
use Rattle.lists.specs.Xor.{◌⊕◌}
use Rattle.lists.specs.Sum.{xor_list}
use Rattle.algebra.specs.Marks.{pick}
use Rattle.algebra.specs.Polynomial.{times, vanishing}
use Rattle.bytefield.specs.Product.{◌⊗◌, byte_ops}
use Rattle.polynomial.specs.Division.{over}
use Rattle.polynomial.specs.Interpolant.{interpolation_points, interpolant_of, vanishing_of}
pub mod Polynomials

-- ---- the vector

unfoldable pub dot : List ℕ → List ℕ → ℕ
dot h [] = 0
dot [] (x ∷ xs) = 0
dot (h ∷ hs) (x ∷ xs) = h ⊗ x ⊕ dot hs xs

unfoldable pub rows : ℕ → List ℕ → List ℕ → List ℕ
rows zero h x = []
rows (suc n) h x = dot h x ∷ rows n (drop (length x) h) x

unfoldable pub vector_of : List ℕ → List ℕ → List ℕ → List ℕ
vector_of h y x_a = x_a ++ xor_list (rows (length y) h x_a) y

unfoldable pub weight_of : List ℕ → ℕ
weight_of [] = 0
weight_of (zero ∷ x) = weight_of x
weight_of (suc a ∷ x) = suc (weight_of x)

-- ---- the positions

unfoldable pub filled : ℕ → List ℕ → List Bool
filled k [] = []
filled k (suc a ∷ x) = true ∷ filled k x
filled zero (zero ∷ x) = false ∷ filled zero x
filled (suc k) (zero ∷ x) = true ∷ filled k x

unfoldable pub positions : ℕ → List ℕ → List Bool
positions w x = filled (w - weight_of x) x

-- ---- the polynomials

unfoldable pub locator_of : ℕ → List ℕ → List ℕ
locator_of w x = vanishing byte_ops (pick (positions w x) (interpolation_points (length x)))

unfoldable pub quotient_of : ℕ → List ℕ → List ℕ
quotient_of w x = take w (over byte_ops (times byte_ops (interpolant_of x) (locator_of w x)) (vanishing_of (length x)))
