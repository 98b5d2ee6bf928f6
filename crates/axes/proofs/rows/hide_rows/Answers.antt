use Rattle.std.proofs.Common.{List, ap, ap₂, arith, length, refl, sym, ℕ, ◌*◌, ◌+◌, ◌<◌, ◌∙◌, ◌≡◌, ◌≤◌}
use Rattle.lists.specs.Part.{part}
use Rattle.lists.specs.Part.Laws.{lent-part, part-put_at-behind}
use Rattle.layout.specs.Layout.{axis_length}
use Rattle.points.specs.Blocks.{within-blocks, length-block, blocks-none, blocks-turn, blocks_end}
use Rattle.axes.specs.Row.{with_hiding}
use Rattle.axes.proofs.rows.hide_rows.Goals as goal
use Rattle.axes.proofs.rows.hide_rows.Goals.{At-loop-j}

whole : (c : At-loop-j) → length c.args.rows.now ≡ c.args.p.axes * c.axis_length-width.result
whole c = c.requires.2 ∙ sym (ap (◌*◌ c.args.p.axes) c.axis_length-width.ensures)

-- row j lies within the slice
inside : (c : At-loop-j) → c.loop-j.j < c.args.p.axes → c.loop-j.j * c.axis_length-width.result + c.axis_length-width.result ≤ length c.loop-j.rows
inside c h = within-blocks c.loop-j.j c.args.p.axes _ _ _ h refl (c.loop-j.auto.rows ∙ whole c)

-- it is still as it was lent
same : (c : At-loop-j) → c.loop-j.j < c.args.p.axes → let a = c.args in
    part c.loop-j.rows (c.loop-j.j * c.axis_length-width.result) c.axis_length-width.result ≡ part a.rows.now (c.loop-j.j * axis_length a.p) (axis_length a.p)
same c h = let j = c.loop-j.j in let n = c.axis_length-width.result in let g = c.loop-j.invariant in let rows = c.args.rows.now in
    ap (λ (d : List ℕ). part d (j * n) n) g.written
    ∙ part-put_at-behind rows 0 _ (omega (arith, g.sized, inside c h, c.loop-j.auto.rows)) (j * n) n (omega (arith, g.sized))
    ∙ ap (λ (n : ℕ). part rows (j * n) n) c.axis_length-width.ensures

pub loop-j-init : goal.loop-j-init
loop-j-init c = blocks-none _ _ _

pub loop-j-preserved : goal.loop-j-preserved
loop-j-preserved c = let a = c.args in let h = c.loop-j-test.true in let at = (goal.at.loop-j-preserved c).At-loop-j in
    let eu = c.hide.auto.row ∙ length-block _ _ c.loop-j.rows (inside at h) in
    let hidden = c.hide.ensures
    ∙ ap₂ (λ (k : ℕ) (r : List ℕ). with_hiding a.p k a.hiding.now r) c.hidden_party.ensures (lent-part c.loop-j.rows (c.loop-j.j * c.axis_length-width.result) _ ∙ same at h) in
    blocks-turn _ _ a.p.axes a.rows.now (whole at) c.loop-j.rows _ c.loop-j.j _ h refl eu hidden c.loop-j.invariant

pub returns : goal.returns
returns c = blocks_end _ _ c.args.p.axes c.args.rows.now (whole (goal.at.returns c).At-loop-j) c.loop-j.rows c.loop-j.j (omega arith) c.loop-j.invariant
