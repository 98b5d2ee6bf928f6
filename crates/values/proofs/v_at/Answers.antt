-- Sums of γ and the products, as the definition has them (`v-made`).
use Rattle.std.proofs.Common.{ap, ℕ, ◌*◌, ◌+◌, ◌∙◌}
use Rattle.tower.specs.Field.{bytes_of}
use Rattle.exchange.specs.Reading.{point_at}
use Rattle.values.specs.Announced.Laws.{v-made}
use Rattle.values.proofs.v_at.Goals as goal

pub returns : goal.returns
returns c =
    v-made c.args.p c.args.s.now c.args.l c.args.first _ _ _ _ _ _ _ _ _ _ _ c.where_first-constant.ensures c.point_at-a.ensures
    (c.point_at-b.ensures ∙ ap (λ (n : ℕ). bytes_of (point_at c.args.s.now (n + 4 * c.args.l))) c.factor_length.ensures) c.sum.ensures
    c.product-x.ensures
    c.product-y.ensures c.sum-2.ensures c.sum-3.ensures
