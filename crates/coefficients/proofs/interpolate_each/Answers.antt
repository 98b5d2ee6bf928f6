-- An array becomes the scales and the complement, and is lent. The last row becomes F's, and those before it S (`rows_whole`).
use Rattle.std.proofs.Common.{ap, arith, drop, length, length-drop, length-take, refl, sym, take, take_all, ◌*◌, ◌+◌, ◌-◌, ◌∙◌, ◌≡◌}
use Rattle.points.specs.Blocks.{next-block}
use Rattle.interpolants.specs.Complement.{complement_of}
use Rattle.interpolants.proofs.Laws.Complement.{factors-end}
use Rattle.coefficients.specs.Groups.{end-lent, rows_whole}
use Rattle.coefficients.proofs.interpolate_each.Goals as goal
use Rattle.coefficients.proofs.interpolate_each.Goals.{Start}

-- m bytes are lent behind the n rows
behind : (c : Start) → c.args.n * c.args.p.m + c.args.p.m ≡ length c.args.rows.now
behind c =
    next-block c.args.n c.args.p.m _ refl ∙ sym c.requires.sized_rows

pub vanishing-requires : goal.vanishing-requires
vanishing-requires c = let w = c.requires.within in
    let e = end-lent c.args.p (c.args.n * c.args.p.m) c.args.rows.now (behind (goal.at.vanishing-requires c).Start) in let m = c.args.p.m in
    let f = c.factors.new.out in let l : length f ≡ 256 = c.factors.auto.out in
    let g : take (256 - m) (drop m f) ≡ drop m f = take_all (256 - m) (drop m f) (omega (arith, length-drop m f)) in
    (omega arith, omega arith, g ∙ factors-end m f c.factors.ensures ∙ ap complement_of (sym e))

pub slice_bounds-interpolate_with-end-2 : goal.slice_bounds-interpolate_with-end-2
slice_bounds-interpolate_with-end-2 c = omega (arith, behind (goal.at.slice_bounds-interpolate_with-end-2 c).Start)

pub slice_bounds-interpolate_with-end-3 : goal.slice_bounds-interpolate_with-end-3
slice_bounds-interpolate_with-end-3 c = simp length-take (omega (arith, behind (goal.at.slice_bounds-interpolate_with-end-3 c).Start))

pub interpolate_with-requires : goal.interpolate_with-requires
interpolate_with-requires c = let r = c.requires in
    let b = behind (goal.at.interpolate_with-requires c).Start in
    (record { within = r.within; few = r.few; sized-shares = r.sized-shares; sized-matrix = r.sized-matrix; sized-y = r.sized-y; sized_rows = simp length-take (omega (arith, b)) }, c.factors.ensures)

pub returns : goal.returns
returns c = rows_whole c.args.p (c.args.n * c.args.p.m) c.args.rows.now (behind (goal.at.returns c).Start) _ _ _ c.interpolate_with.ensures c.vanishing.ensures
