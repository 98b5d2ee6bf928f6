-- The loop's invariant: the first i terms are added (`blend`), and i products were made; a turn adds the product of coefficient i.
use Rattle.std.proofs.Common.{take, ◌+◌, ◌≡◌}
use Rattle.lists.specs.Blend.{blend}
use Rattle.tower.specs.Field.{Point}
use Rattle.packed.specs.Table.{multiples}
use Rattle.points.specs.Multiples.{word_of}
use Rattle.values.specs.Evaluation.{terms_of}
use Rattle.values.proofs.evaluation.add_terms.Given as goal

abbrev pub invariant-loop-i : goal.invariant-loop-i
invariant-loop-i l =
    ((x : Point) → take 32 l.own ≡ multiples (word_of x) → l.values ≡ blend l.i (terms_of l.s l.n l.stride l.at x l.initial.values) l.initial.values)
    × (l.count ≡ l.made + l.i)
