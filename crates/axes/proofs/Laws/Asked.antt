-- A sum of the work area and its block.
--
-- sum_fits        a sum and its block lie within their slices
use Rattle.std.specs.Prelude.{refl, List, ℕ, ◌+◌, ◌*◌, ◌≤◌, ◌<◌, length}
use Rattle.parameters.specs.declared.Parameters.{Parameters}
use Rattle.layout.specs.Layout.{sum_count, row_length, share_length}
use Rattle.points.specs.Blocks.{within-blocks}
use Rattle.axes.specs.Asked.{SumsAsked}

pub sum_fits : (p : Parameters) (sums blocks hats : List ℕ) → SumsAsked p sums blocks hats → (i : ℕ) → i < sum_count p
    → (i * share_length p + share_length p ≤ length sums) × (i * row_length p + row_length p ≤ length blocks)
sum_fits p sums blocks hats asked i below = (
  within-blocks i (sum_count p) (share_length p) _ _ below refl asked.sized-parts,
  within-blocks i (sum_count p) (row_length p) _ _ below refl asked.sized-blocks,
)
