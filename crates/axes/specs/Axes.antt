-- What the code makes of all axes.
--
-- Evaluated p key m2 sums blocks   the blocks of all sums: with the constants those of the first parties and of all leaves, the others without
-- party_row p sums blocks hats j c   the row of party c on axis j by the formula, for all but the last one
-- formula_rows p sums blocks hats total j   the rows of all parties of axis j by the formula
-- hats_of, total_of            α̂ and β̂, and the row of the sum of all disclosed leaves
-- rows_by p sums blocks leaf hidden   the rows of all axes
-- batch p first              how many sums have the constants in their blocks, where `first`, or else none
-- products_made p             how many products of the points field the blocks take
use Rattle.std.specs.Prelude.{◌≡◌, Bool, ℕ, ◌+◌, ◌-◌, ◌≤◌, ◌<◌, eqb}
use Rattle.std.proofs.Math.Bool.{true, false, cond}
use mathlib.Core.List.{List}
use Rattle.parameters.specs.declared.Parameters.{Parameters}
use Rattle.layout.specs.Layout.{side, sum_count, sum_index}
use Rattle.exchange.specs.Sequences.{joined}
use Rattle.exchange.specs.Values.{Key}
use Rattle.values.specs.Announced.{announced_of}
use Rattle.coefficients.specs.Shares.{share_of}
use Rattle.values.specs.Products.{products_of}
use Rattle.values.specs.Shares.{block_of}
use Rattle.parties.specs.Sums.{with_last}
use Rattle.axes.specs.Row.{row_by, hidden_party, hiding_by, hats_by, axis_by}

pub record Evaluated (p : Parameters) (key : Key) (m2 sums blocks : List ℕ) : Type 0 where
  pub firsts : (i : ℕ) → i < p.axes + 1 → block_of p blocks i ≡ announced_of p key m2 true (share_of p sums i)
  pub rest : (i : ℕ) → p.axes + 1 ≤ i → i < sum_count p → block_of p blocks i ≡ announced_of p key m2 false (share_of p sums i)

unfoldable pub party_row : Parameters → List ℕ → List ℕ → List ℕ → ℕ → ℕ → List ℕ
party_row p sums blocks hats j c = row_by p (eqb c 0) (share_of p sums (sum_index p j c)) (block_of p blocks (sum_index p j c)) hats

unfoldable pub formula_rows : Parameters → List ℕ → List ℕ → List ℕ → List ℕ → ℕ → List ℕ
formula_rows p sums blocks hats total j = joined (with_last p total (party_row p sums blocks hats j)) (side p)

abbrev pub hats_of : Parameters → List ℕ → ℕ → List ℕ → List ℕ
hats_of p blocks leaf hidden = hats_by p leaf (block_of p blocks p.axes) hidden

abbrev pub total_of : Parameters → List ℕ → List ℕ → ℕ → List ℕ → List ℕ
total_of p sums blocks leaf hidden = row_by p true (share_of p sums p.axes) (block_of p blocks p.axes) (hats_of p blocks leaf hidden)

unfoldable pub rows_by : Parameters → List ℕ → List ℕ → ℕ → List ℕ → List ℕ
rows_by p sums blocks leaf hidden =
    joined
    (λ j. axis_by p (total_of p sums blocks leaf hidden) (party_row p sums blocks (hats_of p blocks leaf hidden) j) (hidden_party p leaf j)
    (hiding_by p hidden (total_of p sums blocks leaf hidden)))
    p.axes

-- the sums whose blocks have no constants
abbrev pub rest_count : Parameters → ℕ
rest_count p = sum_count p - (p.axes + 1)

abbrev pub batch : Parameters → Bool → ℕ
batch p first = cond first (p.axes + 1) (rest_count p)

abbrev pub products_made : Parameters → ℕ
products_made p = products_of p (p.axes + 1) + cond (eqb (rest_count p) 0) 0 (products_of p (rest_count p))
