-- Reading bytes and points from lists of bytes, and writing points. Reading is total: past the end of a list there are zeros.
--
-- bytes_at s i n     the n bytes of s from place i on
-- points            the points field
-- point_at s i       the point whose four bytes stand from place i on
-- encode f t        the points f 0 to f (t−1), four bytes each, one after another
-- value q r         the value at the point r of the polynomial with the byte coefficients q, lowest first
-- _⊞_, _⊠_, 𝟎       sum, product and zero of the points field
use Rattle.std.specs.Prelude.{List, [], ◌∷◌, map, ℕ, zero, suc, get_or}
use Rattle.algebra.specs.Field.{Field2}
use Rattle.algebra.specs.Ring.{ops}
use Rattle.algebra.specs.Polynomial.{eval}
use Rattle.tower.specs.Point.{lone}
use Rattle.tower.specs.Field.{Point, point_field, point, bytes_of}
use Rattle.exchange.specs.Sequences.{joined}

unfoldable pub bytes_at : List ℕ → ℕ → ℕ → List ℕ
bytes_at s i zero = []
bytes_at s i (suc n) = get_or s i 0 ∷ bytes_at s (suc i) n

unfoldable pub points : Field2 Point
points = point_field

unfoldable pub point_at : List ℕ → ℕ → Point
point_at s i = point (bytes_at s i 4)

unfoldable pub encode : (ℕ → Point) → ℕ → List ℕ
encode f t = joined (λ l. bytes_of (f l)) t

unfoldable pub value : List ℕ → Point → Point
value q r = eval (ops points.base) (map (λ b. point (lone b)) q) r

infixl 60 ◌⊞◌
infixl 70 ◌⊠◌
abbrev pub ◌⊞◌ : Point → Point → Point
x ⊞ y = points.base.add x y

abbrev pub ◌⊠◌ : Point → Point → Point
x ⊠ y = points.base.mul x y

abbrev pub 𝟎 : Point
𝟎 = points.base.zero
