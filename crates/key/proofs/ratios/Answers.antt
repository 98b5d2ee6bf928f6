use Rattle.std.proofs.Common.{arith, ◌∙◌}
use Rattle.lists.specs.Blend.Laws.{blend-none, blend-all}
use Rattle.key.specs.Loops.Quotient.{length-ratios, ratios-turn}
use Rattle.key.proofs.ratios.Goals as goal

pub loop-i-init : goal.loop-i-init
loop-i-init c = blend-none _ _

pub loop-i-preserved : goal.loop-i-preserved
loop-i-preserved c = let a = c.args in let l = c.loop-i in
    ratios-turn a.gs.now a.fs.now a.ys.now l.ys l.i _ c.requires.0 (omega arith) l.invariant c.ratio.ensures

pub returns : goal.returns
returns c = let l = c.loop-i in
    l.invariant ∙ blend-all l.i _ _ (length-ratios c.args.gs.now c.args.fs.now c.args.ys.now c.requires.0) (omega arith)
