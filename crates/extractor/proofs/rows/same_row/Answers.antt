-- Both parts lie within the rows of all axes.
use Rattle.std.proofs.Common.{ap, ap₂, arith, ℕ, ◌*◌, ◌+◌, ◌-◌, ◌∙◌, ◌≡◌, ◌≤◌}
use Rattle.lists.specs.Part.{part}
use Rattle.lists.specs.Part.Laws.{part-fits}
use Rattle.lists.specs.Equal.{eq_list}
use Rattle.layout.specs.Layout.{axis_length, rows_length}
use Rattle.extractor.proofs.rows.same_row.Goals as goal
use Rattle.extractor.proofs.rows.same_row.Goals.{Start}

fits : (c : Start) → (n : ℕ) → n ≡ axis_length c.args.p → c.args.axis * n + n ≤ rows_length c.args.p
fits c n e =
    omega (arith, part-fits c.args.axis c.args.p.axes n c.requires.1, ap (◌*◌ c.args.p.axes) e)

pub slice_bounds-equal-end-2 : goal.slice_bounds-equal-end-2
slice_bounds-equal-end-2 c =
    omega (arith, fits (goal.at.slice_bounds-equal-end-2 c).Start _ c.axis_length-size.ensures, c.requires.0.second)

pub returns : goal.returns
unfolding part
returns c = let a = c.args in let n = c.axis_length-size.result in
    let e = c.axis_length-size.ensures in let size : (a.axis * n + n) - a.axis * n ≡ axis_length a.p = omega (arith, e) in
    c.equal.ensures ∙ ap₂ (λ (at m : ℕ). eq_list (part a.rows.now at m) (part a.others.now at m)) (ap (◌*◌ a.axis) e) size
