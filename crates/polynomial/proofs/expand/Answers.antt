use Rattle.std.proofs.Common.{ap, arith, get_or, ℕ, ◌+◌, ◌-◌, ◌∙◌, ◌≡◌}
use Rattle.lists.specs.Blend.{blend}
use Rattle.lists.specs.Blend.Laws.{blend-none}
use Rattle.algebra.specs.Polynomial.{expand}
use Rattle.bytefield.specs.Product.{byte_ops, ◌⊗◌}
use Rattle.polynomial.specs.Loops.Expand.{expand-turn, expand-end}
use Rattle.polynomial.proofs.expand.Goals as goal

pub loop-i-init : goal.loop-i-init
loop-i-init c = blend-none _ _

pub loop-i-preserved : goal.loop-i-preserved
loop-i-preserved c =
    let a = c.args in let l = c.loop-i in
    let n : l.i ≡ l.i - 1 + 1 = omega arith in
    expand-turn a.f (l.i - 1) a.p.now l.p _ _ (omega arith) l.invariant
    (c.product.ensures ∙ ap (λ (k : ℕ). a.f ⊗ get_or l.p k 0) n) c.sum.ensures
    ∙ ap (λ (k : ℕ). blend k (expand byte_ops a.f a.p.now) a.p.now) (omega arith)

pub returns : goal.returns
returns c = expand-end _ (c.loop-i.i - 1) _ _ (omega arith) c.loop-i.invariant
