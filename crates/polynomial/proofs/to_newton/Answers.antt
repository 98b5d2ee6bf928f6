use Rattle.std.proofs.Common.{ap₂, arith, refl, ◌+◌, ◌∙◌}
use Rattle.lists.specs.Part.Laws.{tail-part, tail-back}
use Rattle.algebra.specs.Polynomial.{slopes}
use Rattle.bytefield.specs.Product.{byte_ops}
use Rattle.bytefield.specs.Inverse.{inverse}
use Rattle.polynomial.specs.Loops.Newton.{newton-turn, newton-end}
use Rattle.polynomial.proofs.to_newton.Goals as goal

pub loop-j-preserved : goal.loop-j-preserved
loop-j-preserved c = let fs = c.args.points.now in
    let x = c.loop-j.x in let j = c.loop-j.j in let d = c.slopes in
    newton-turn fs j _ _ x c.args.x.now d.new.zs _ (omega arith) (omega (arith, c.requires)) refl refl (tail-back x d.new.zs (j + 1) (omega (arith, c.requires)))
    (d.ensures ∙ ap₂ (slopes byte_ops inverse _ _) (tail-part fs (j + 1)) (tail-part x (j + 1))) c.loop-j.invariant

pub returns : goal.returns
returns c = let l = c.loop-j in
    newton-end c.args.points.now l.j l.x c.args.x.now (omega arith) (omega (arith, c.requires)) l.invariant
