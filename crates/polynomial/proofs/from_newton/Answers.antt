use Rattle.std.proofs.Common.{ap, arith, refl, ◌-◌, ◌∙◌}
use Rattle.lists.specs.Part.Laws.{tail-part, tail-back}
use Rattle.algebra.specs.Polynomial.{expand}
use Rattle.bytefield.specs.Product.{byte_ops}
use Rattle.polynomial.specs.Loops.Newton.{expanded-start, expanded-turn, expanded-end}
use Rattle.polynomial.proofs.from_newton.Goals as goal

pub loop-j-init : goal.loop-j-init
loop-j-init c = expanded-start c.args.points.now _ c.requires

pub loop-j-preserved : goal.loop-j-preserved
loop-j-preserved c = let x = c.loop-j.x in
    let j = c.loop-j.j in let d = c.expand in
    expanded-turn c.args.points.now j _ x c.args.x.now _ d.new.p (omega arith) (omega (arith, c.requires)) (omega arith) refl
    (tail-back x d.new.p (j - 1) (omega arith)) (d.ensures ∙ ap (expand byte_ops _) (tail-part x (j - 1))) c.loop-j.invariant

pub returns : goal.returns
returns c = expanded-end c.args.points.now c.loop-j.j c.loop-j.x c.args.x.now (omega arith) c.loop-j.invariant
