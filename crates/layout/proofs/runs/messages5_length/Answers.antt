use Rattle.std.proofs.Common.{ap, arith, ◌∙◌, ◌≤◌}
use Rattle.layout.specs.Layout.{message5_length}
use Rattle.layout.specs.Runs.Laws.{messages5-turn, messages5-none, messages5-all}
use Rattle.layout.specs.Layout.Bounds.{message5-most}
use Rattle.layout.specs.Maxima.{longest_message5}
use Rattle.layout.proofs.runs.messages5_length.Goals as goal
use Rattle.layout.proofs.runs.messages5_length.Goals.{After-message5_length-sum}

-- the part of a run is short
short : (c : After-message5_length-sum) → c.message5_length-sum.result ≤ longest_message5
short c =
    let m = message5-most c.args.p c.requires.0 c.from.result in
    omega (arith, m, c.message5_length-sum.ensures)

pub loop-leaf-init : goal.loop-leaf-init
loop-leaf-init c = (messages5-none c.args.p c.args.leaves.now, omega arith)

pub overflow_add-sum : goal.overflow_add-sum
overflow_add-sum c = omega (arith, short (goal.at.overflow_add-sum c).After-message5_length-sum, c.loop-leaf.invariant.1, c.requires.1)

pub loop-leaf-preserved : goal.loop-leaf-preserved
loop-leaf-preserved c = (
  messages5-turn c.args.p c.args.leaves.now c.loop-leaf.leaf-index c.loop-leaf.sum c.message5_length-sum.result (omega arith) c.loop-leaf.invariant.0
      (c.message5_length-sum.ensures ∙ ap (message5_length c.args.p) (c.from.ensures)),
  omega (arith, short (goal.at.loop-leaf-preserved c).After-message5_length-sum, c.loop-leaf.invariant.1),
)

pub returns : goal.returns
returns c = c.loop-leaf.invariant.0 ∙ messages5-all c.args.p c.args.leaves.now c.loop-leaf.leaf-index (omega arith)
