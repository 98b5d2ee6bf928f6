-- α̂ and β̂ and the row of all disclosed leaves, the rows by the formula, and then what the hidden leaf adds (`all_made`).
use Rattle.std.proofs.Common.{List, ap, ap₂, arith, length, length-take-le, take_at, ℕ, ◌∙◌, ◌≡◌}
use Rattle.lists.specs.Part.{put_at}
use Rattle.exchange.specs.Sequences.{joined}
use Rattle.axes.specs.Axes.{formula_rows}
use Rattle.axes.proofs.Laws.Rows.{all_made}
use Rattle.axes.proofs.rows.put_from.Goals as goal

pub returns : goal.returns
returns c = let a = c.args in let f = c.requires.0.within.t-most in
    let hats = c.total_row.new.hats in let total = c.total_row.new.total in let last = c.put_at.new.out in
    let h : length hats ≡ c.values_length-v.result = c.total_row.auto.hats ∙ length-take-le _ _ (omega (arith, c.values_length-v.ensures)) in
    let t : length total ≡ c.row_length-t.result = c.total_row.auto.total ∙ length-take-le _ _ (omega (arith, c.row_length-t.ensures)) in
    let l : length last ≡ c.row_length-t.result = c.put_at.auto.out ∙ ap length (take_at total _ _ t) ∙ t in
    c.hide_rows.ensures
    ∙ all_made a.p a.sums.now a.blocks.now a.hidden_leaf a.hidden_values.now c.requires.1 c.requires.0.sized-hidden hats total _ _
    c.total_row.ensures.0 c.total_row.ensures.1 (t ∙ c.row_length-t.ensures)
    (take_at last _ _ l ∙ c.put_at.ensures ∙ ap (λ (d : List ℕ). put_at d 0 a.hidden_values.now) (take_at total _ _ t))
    (c.put_rows.ensures ∙ ap₂ (λ (d t : List ℕ). joined (formula_rows a.p a.sums.now a.blocks.now d t) a.p.axes) (take_at hats _ _ h) (take_at total _ _ t))
