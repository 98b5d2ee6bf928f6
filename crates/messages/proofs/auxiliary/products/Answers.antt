use Rattle.std.proofs.Common.{ap, arith, length, sym, ℕ, ◌*◌, ◌+◌, ◌∙◌, ◌≤◌}
use Rattle.tower.specs.Field.{bytes_of}
use Rattle.exchange.specs.Reading.{point_at}
use Rattle.points.specs.Written.{write-none, write-turn, write-end}
use Rattle.messages.proofs.Laws.Auxiliary.{product-made}
use Rattle.messages.proofs.auxiliary.products.Goals as goal

pub loop-l-init : goal.loop-l-init
loop-l-init c = write-none _ _

pub loop-l-preserved : goal.loop-l-preserved
loop-l-preserved c = let h = c.loop-l in
    let n : 4 * h.l + 4 ≤ length c.args.out.now = omega arith in
    c.put_point.ensures
    ∙ write-turn _ _ _ _ h.l n h.invariant
    (product-made c.args.p c.args.drawn.now h.l _ _ _ c.point_at-a.ensures
    (c.point_at-b.ensures ∙ ap (λ (n : ℕ). bytes_of (point_at c.args.drawn.now (n + 4 * h.l))) c.factor_length-at_b.ensures)
    c.product-c.ensures)

pub returns : goal.returns
returns c = let h = c.loop-l in write-end _ _ _ h.l c.args.p.t (omega arith) (sym c.requires.sized-out) h.invariant
