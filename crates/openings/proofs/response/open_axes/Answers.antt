-- The sums stand in the front of the work area, the rows go to the middle of `opened`, and all of the work area is zeroed (`zeroed-all`).
use Rattle.std.proofs.Common.{List, ap, ap₂, arith, drop, length, length-take-le, refl, replicate, sym, take, ℕ, ◌-◌, ◌∙◌, ◌≡◌}
use Rattle.lists.specs.Zeroed.Laws.{zeroed-all}
use Rattle.layout.specs.Layout.{rows_length}
use Rattle.layout.specs.Layout.Bounds.{sums-fit}
use Rattle.exchange.specs.Sequences.{joined}
use Rattle.exchange.specs.Values.{key_of}
use Rattle.axes.specs.Announcing.{row_of}
use Rattle.openings.specs.Statement.Laws.{message2-lent, length-message2_in}
use Rattle.openings.specs.Parts.Laws.{length-rows_in, put-rows, rows-states, rows-commitment, rows-lent}
use Rattle.openings.specs.From.{announced_from}
use Rattle.openings.proofs.response.open_axes.Goals as goal
use Rattle.openings.proofs.response.open_axes.Goals.{After-rows_end-end, After-sums_length-sums}

-- the front is lent
front : (c : After-sums_length-sums) → length (take c.sums_length-sums.result c.args.work.now) ≡ c.sums_length-sums.result
front c =
    length-take-le _ c.args.work.now (omega (arith, sums-fit c.args.p c.requires.within, c.sums_length-sums.ensures, c.requires.sized-work))

middle : (c : After-rows_end-end) → let n = c.states_length-start.result in length (take (c.rows_end-end.result - n) (drop n c.args.opened.now)) ≡ rows_length c.args.p
middle c =
    ap length (rows-lent c.args.p c.args.opened.now c.states_length-start.ensures c.rows_end-end.ensures) ∙ length-rows_in
    c.args.p c.args.opened.now c.requires.sized-opened

pub slice_bounds-axis_rows-end : goal.slice_bounds-axis_rows-end
slice_bounds-axis_rows-end c = omega (arith, sums-fit c.args.p c.requires.within, c.sums_length-sums.ensures, c.requires.sized-work)

pub slice_bounds-axis_rows-end-2 : goal.slice_bounds-axis_rows-end-2
slice_bounds-axis_rows-end-2 c = sym (front (goal.at.slice_bounds-axis_rows-end-2 c).After-sums_length-sums)

pub axis_rows-requires : goal.axis_rows-requires
axis_rows-requires c =
    let pre = c.requires in let b = front (goal.at.axis_rows-requires c).After-sums_length-sums ∙ c.sums_length-sums.ensures in
    let a = ap length (message2-lent c.args.p c.args.statement.now c.prefix_place-at.ensures) ∙ length-message2_in c.args.p
    c.args.statement.now pre.sized-statement in let e = pre.sized-matrix in let f = pre.sized-y in let d = pre.sized-values in
    record { within = pre.within; sized-parts = b; sized-m2 = a; sized-matrix = e; sized-y = f; sized-hidden = d; sized_rows = middle (goal.at.axis_rows-requires c).After-rows_end-end }

pub returns : goal.returns
unfolding announced_from
returns c = let args = c.args in let p = args.p in let o = args.opened.now in let long = c.requires.sized-opened in
    let rows = c.axis_rows.new.rows in let sized = c.axis_rows.auto.rows ∙ middle (goal.at.returns c).After-rows_end-end in
    let rows_of : List ℕ → List ℕ → List ℕ = λ sums m2. joined
    (row_of p (key_of args.matrix.now args.y.now) m2 sums args.hidden_leaf args.hidden_values.now) p.axes in
    record {
      states-stay = rows-states p o long rows sized c.states_length-start.ensures c.rows_end-end.ensures;
      commitment-stays = rows-commitment p o long rows sized c.states_length-start.ensures c.rows_end-end.ensures;
      rows_are = put-rows p o long
          rows sized c.states_length-start.ensures c.rows_end-end.ensures ∙ c.axis_rows.ensures.0 ∙ ap₂ rows_of
          (ap (λ (k : ℕ). take k args.work.now) c.sums_length-sums.ensures) (message2-lent p args.statement.now c.prefix_place-at.ensures);
      zeros = c.zero_front.ensures ∙ zeroed-all args.work.now (length args.work.now) refl ∙ ap (λ (k : ℕ). replicate k 0)
          c.requires.sized-work;
    }
