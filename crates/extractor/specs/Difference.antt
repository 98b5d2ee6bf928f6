-- The first unequal pair of strings of a run, as numbers.
--
-- layer_of d, number_of d   document 01's layer of the strings, and the axis or the leaf
-- named d            layer and number of a pair, if there is one
-- difference_of f    those of what the extractor finds
use Rattle.std.specs.Prelude.{ℕ, Option, Some, None}
use Rattle.exchange.specs.Extractor.{Finding, unequal, states}
use Rattle.extractor.specs.declared.findings.Difference.{Difference}
use Rattle.extractor.specs.declared.findings.Difference.TheVariants.{Response, Axis, Commitments, Leaf}

abbrev pub layer_of : Difference → ℕ
layer_of Response = 7
layer_of (Axis axis) = 6
layer_of Commitments = 5
layer_of (Leaf leaf) = 4

abbrev pub number_of : Difference → ℕ
number_of Response = 0
number_of (Axis axis) = axis
number_of Commitments = 0
number_of (Leaf leaf) = leaf

abbrev pub named : Option Difference → Option (ℕ × ℕ)
named None = None
named (Some d) = Some (layer_of d, number_of d)

abbrev pub difference_of : Finding → Option (ℕ × ℕ)
difference_of (unequal layer number) = Some (layer, number)
difference_of (states axis s) = None
