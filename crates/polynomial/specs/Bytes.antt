-- Lists of bytes.
--
--   Bytes p              each coefficient of p is below 256
--   in_field p            p as a polynomial over the field of bytes
use Rattle.std.specs.Prelude.{List, map, ℕ, ◌<◌}
use Rattle.algebra.specs.Each.{Each}
use Rattle.bytefield.specs.Byte.{Byte, byte}
pub mod Laws

abbrev pub Bytes : List ℕ → Type 0
Bytes = Each (λ a. a < 256)

abbrev pub in_field : List ℕ → List Byte
in_field p = map byte p
