-- What the exported count answers.
--
--   counted_for n ns    `products_of` for up to nine shares and a set within the limits, else 0
use Rattle.std.specs.Prelude.{cond, List, ℕ, eqb, leb, length}
use Rattle.parameters.specs.Limits.{within_limits}
use Rattle.parameters.specs.Set.{set_length, parameters_of}
use Rattle.values.specs.Products.{products_of}
pub mod Laws

unfoldable pub counted_for : ℕ → List ℕ → ℕ
counted_for n ns = cond (leb n 9) (cond (eqb (length ns) set_length) (cond (within_limits (parameters_of ns)) (products_of (parameters_of ns) n) 0) 0) 0
