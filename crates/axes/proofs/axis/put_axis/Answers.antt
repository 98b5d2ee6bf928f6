-- The rows of all parties but the last one go to the front, the last one's behind them (`rows-joined`).
use Rattle.std.proofs.Common.{List, ap, ap₂, arith, drop, length, length-take-le, suc-mul, take_at, ℕ, ◌*◌, ◌++◌, ◌+◌, ◌∙◌, ◌≡◌}
use Rattle.std.proofs.lemmas.Grind.{common_steps}
use Rattle.lists.specs.Part.{part, put_at}
use Rattle.layout.specs.Layout.{others, row_length}
use Rattle.layout.specs.Layout.Laws.{side-others}
use Rattle.parties.specs.Sums.{less}
use Rattle.axes.specs.Axes.{party_row, formula_rows}
use Rattle.axes.proofs.Laws.Rows.{length-party_row, rows-joined, row-parts, put-behind}
use Rattle.axes.proofs.axis.put_axis.Goals as goal
use Rattle.axes.proofs.axis.put_axis.Goals.{After-others}

-- the rows of all parties but the last one, and of all
front : (c : After-others) → c.others.result * c.row_length-room.result ≡ others c.args.p * row_length c.args.p
front c = ap₂ ◌*◌ c.others.ensures c.row_length-room.ensures

whole : (c : After-others) → length c.args.row.now ≡ others c.args.p * row_length c.args.p + row_length c.args.p
whole c = c.requires.3 ∙ ap (λ (n : ℕ). n * row_length c.args.p) (side-others c.args.p) ∙ suc-mul (others c.args.p) (row_length c.args.p)

pub put_at-requires : goal.put_at-requires
put_at-requires c = let at = (goal.at.put_at-requires c).After-others in let f = front at in let w = whole at in grind (arith, common_steps)

pub returns : goal.returns
unfolding formula_rows
returns c = let a = c.args in
    let at = (goal.at.returns c).After-others in let f = front at in let w = whole at in
    let n = c.others.result * c.row_length-room.result in let rows = c.put_parties.new.rows in let last = c.put_last.new.last in
    let written : length rows ≡ n = c.put_parties.auto.rows ∙ length-take-le _ a.row.now (omega arith) in
    let sized : length last ≡ c.row_length-room.result = c.put_last.auto.last ∙ length-take-le _ _ (omega (arith, c.requires.0.within.t-most)) in
    let r = party_row a.p a.sums.now a.blocks.now a.hats.now a.axis in
    let lengths = length-party_row a.p a.sums.now a.blocks.now a.hats.now c.requires.0.sized-blocks a.axis c.requires.1 in
    c.put_at.ensures ∙ ap (put_at (rows ++ drop n a.row.now) n) (take_at last _ _ sized)
    ∙ put-behind rows last a.row.now _ written (omega arith)
    ∙ ap₂ ◌++◌ c.put_parties.ensures
    (c.put_last.ensures
    ∙ ap (λ (d : List ℕ). less a.total.now (λ c. part d (c * row_length a.p) (row_length a.p)) (others a.p)) (take_at rows _ _ written ∙ c.put_parties.ensures)
    ∙ row-parts a.p a.total.now r c.requires.2 lengths) ∙ rows-joined a.p a.total.now r c.requires.2 lengths
