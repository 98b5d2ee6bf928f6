-- The front of the block is copied.
use Rattle.std.proofs.Common.{ap, take, ℕ, ◌∙◌}
use Rattle.axes.specs.Row.{front_by}
use Rattle.axes.proofs.row.put_front.Goals as goal
use Rattle.axes.proofs.row.put_front.Goals.{Start}

pub returns : goal.returns
unfolding front_by
returns c =
    c.copy.ensures ∙ ap (λ (n : ℕ). take n c.args.block.now) c.requires.2
