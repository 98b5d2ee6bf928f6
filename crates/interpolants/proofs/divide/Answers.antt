use Rattle.std.proofs.Common.{arith, length, refl, ◌-◌}
use Rattle.interpolants.proofs.Laws.Division.{divided-start, divided-turn, divided-end}
use Rattle.interpolants.proofs.divide.Goals as goal

pub loop-i-init : goal.loop-i-init
loop-i-init c = (omega arith, divided-start c.args.g.now c.args.t.now _ refl)

pub loop-i-preserved : goal.loop-i-preserved
loop-i-preserved c = let g = c.args.g.now in let i = c.loop-i.i in (
  omega arith,
  divided-turn g c.loop-i.t c.args.t.now c.add_multiples.new.acc (i - 1 - length g) i (omega arith) (omega arith) (omega arith)
      (c.add_multiples.ensures _ c.multiples-table.ensures) c.loop-i.invariant.1,
)

pub returns : goal.returns
returns c = divided-end c.args.g.now c.loop-i.t c.args.t.now c.loop-i.i (omega arith) c.loop-i.invariant.1
