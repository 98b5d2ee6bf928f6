use Rattle.std.proofs.Common.{arith, sym, ◌∙◌}
use Rattle.points.specs.Written.{write-none, write-turn, write-end}
use Rattle.axes.specs.Row.{v_by}
use Rattle.axes.proofs.row.put_v.Goals as goal

pub loop-l-init : goal.loop-l-init
loop-l-init c = write-none _ _

pub loop-l-preserved : goal.loop-l-preserved
loop-l-preserved c = c.put_point.ensures ∙ write-turn _ _ c.loop-l.out _ c.loop-l.l (omega arith) c.loop-l.invariant c.row_v-v.ensures

pub returns : goal.returns
unfolding v_by
returns c = write-end _ _ c.loop-l.out c.loop-l.l c.args.p.t (omega arith) (sym c.requires.1) c.loop-l.invariant
