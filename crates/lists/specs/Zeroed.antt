-- The front of a list zeroed (document 01, Order: "the named length of the work area ends as zeros").
--
-- zeroed n d     d with its first n elements zero
use Rattle.std.specs.Prelude.{ℕ, List, ◌++◌, drop, replicate}
pub mod Laws

unfoldable pub zeroed : ℕ → List ℕ → List ℕ
zeroed n d = replicate n 0 ++ drop n d
