-- Polynomials over any operations. A polynomial is the list of its coefficients, lowest first (document 01: "Coefficients go lowest first").
--
--   eval p x                the value of p at x
--   plus p q, scale c p     the sum of p and q, and c times p
--   times p q               the product of p and q
--   pow x n                 x to the n
--   expand f (y ∷ p)        y + (X + f) p
--   divide f p              the remainder of p by X + f, then the quotient: at each place the value at f of what stands from there on
--   product p fs            p times the product of X + f over fs
--   quotient p fs           p divided by X + f for each f of fs, the remainders dropped
--   vanishing fs            the product of X + f over fs
--   slopes inv f y gs zs    the divided differences (z + y) / (g + f) of points g with values z
--   interpolate inv fs ys   the polynomial with the values ys at the points fs
--   values p fs             the values of p at the points fs
--   Zeros p                 all coefficients of p are zero
use Rattle.std.specs.Prelude.{◌≡◌, List, [], ◌∷◌, map, ℕ, zero, suc}
use Rattle.algebra.specs.Operations.{Operations}
use Rattle.algebra.specs.Each.{Each}
pub mod Lengths
pub mod Evaluation
pub mod Roots
pub mod Products
pub mod Interpolation
pub mod Linear
pub mod Quotients
pub mod Ratios
pub mod Maps

module _ {K : Type 0} (O : Operations K) where
  unfoldable pub eval : List K → K → K
  eval [] x = O.zero
  eval (a ∷ p) x = O.add a (O.mul x (eval p x))

  unfoldable pub plus : List K → List K → List K
  plus [] q = q
  plus (a ∷ p) [] = a ∷ p
  plus (a ∷ p) (b ∷ q) = O.add a b ∷ plus p q

  unfoldable pub scale : K → List K → List K
  scale c [] = []
  scale c (a ∷ p) = O.mul c a ∷ scale c p

  unfoldable pub times : List K → List K → List K
  times [] q = []
  times (a ∷ p) q = plus (scale a q) (O.zero ∷ times p q)

  unfoldable pub pow : K → ℕ → K
  pow x zero = O.one
  pow x (suc n) = O.mul (pow x n) x

  -- the lowest coefficient, and the others
  abbrev pub first : List K → K
  first [] = O.zero
  first (a ∷ p) = a

  abbrev pub behind : List K → List K
  behind [] = []
  behind (a ∷ p) = p

  unfoldable pub expand : K → List K → List K
  expand f [] = []
  expand f (y ∷ []) = y ∷ []
  expand f (y ∷ c ∷ p) = O.add y (O.mul f c) ∷ expand f (c ∷ p)

  unfoldable pub divide : K → List K → List K
  divide f [] = []
  divide f (b ∷ p) = O.add b (O.mul f (first (divide f p))) ∷ divide f p

  unfoldable pub product : List K → List K → List K
  product p [] = p
  product p (f ∷ fs) = product (expand f (O.zero ∷ p)) fs

  unfoldable pub quotient : List K → List K → List K
  quotient p [] = p
  quotient p (f ∷ fs) = quotient (behind (divide f p)) fs

  abbrev pub vanishing : List K → List K
  vanishing fs = product (O.one ∷ []) fs

  unfoldable pub slopes : (K → K) → K → K → List K → List K → List K
  slopes inv f y [] zs = []
  slopes inv f y (g ∷ gs) [] = []
  slopes inv f y (g ∷ gs) (z ∷ zs) = O.mul (O.add z y) (inv (O.add g f)) ∷ slopes inv f y gs zs

  -- y + (X + f) times the polynomial through the slopes
  unfoldable pub interpolate : (K → K) → List K → List K → List K
  interpolate inv [] ys = []
  interpolate inv (f ∷ fs) [] = []
  interpolate inv (f ∷ fs) (y ∷ ys) = expand f (y ∷ interpolate inv fs (slopes inv f y fs ys))

  abbrev pub values : List K → List K → List K
  values p fs = map (eval p) fs

  abbrev pub Zeros : List K → Type 0
  Zeros = Each (λ a. a ≡ O.zero)
