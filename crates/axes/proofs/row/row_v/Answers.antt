-- γ, α̂ and β̂ are read at their places (`v-read`).
use Rattle.std.proofs.Common.{ap, ℕ, ◌*◌, ◌+◌, ◌∙◌}
use Rattle.tower.specs.Field.{bytes_of}
use Rattle.exchange.specs.Reading.{point_at}
use Rattle.axes.proofs.Laws.Row.{v-read}
use Rattle.axes.proofs.row.row_v.Goals as goal

pub returns : goal.returns
returns c = let s = c.args in
    v-read s.p s.first s.s.now s.block.now s.hats.now s.l _ _ _ _
    (c.point_at-gamma.ensures ∙ ap (λ (n : ℕ). bytes_of (point_at s.block.now (n + 4 * s.l))) c.values_length.ensures) c.point_at-alpha.ensures
    (c.point_at-beta.ensures ∙ ap (λ (n : ℕ). bytes_of (point_at s.hats.now (n + 4 * s.l))) c.factor_length.ensures) c.v_at.ensures
