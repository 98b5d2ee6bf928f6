-- The parts of the runs before it lie before it.
use Rattle.std.proofs.Common.{arith, length, length-take-le, take, ◌≡◌}
use Rattle.layout.specs.Layout.Bounds.{message5-most}
use Rattle.layout.specs.Runs.Laws.{messages5-most}
use Rattle.extractor.proofs.pairs.place_at.Goals as goal
use Rattle.extractor.proofs.pairs.place_at.Goals.{Start}

front : (c : Start) → length (take c.args.run c.args.leaves.now) ≡ c.args.run
front c =
    length-take-le _ _ (omega (arith, c.requires.inside))

pub overflow_add-end : goal.overflow_add-end
overflow_add-end c = omega (
  arith,
  c.message5_length.ensures,
  c.messages5_length-start.ensures,
  message5-most c.args.p c.requires.within c.from-leaf.result,
  messages5-most c.args.p c.requires.within (take c.args.run c.args.leaves.now),
  front (goal.at.overflow_add-end c).Start,
  c.requires.few,
  c.requires.inside,
)

pub returns : goal.returns
returns c = rw (c.message5_length.ensures, c.messages5_length-start.ensures, c.from-leaf.ensures)
