use Rattle.std.proofs.Common.{ap, arith, drop, length, length-drop, length-take, refl, sym, take, ℕ, ◌*◌, ◌+◌, ◌++◌, ◌-◌, ◌∙◌, ◌≡◌, ◌≤◌}
use Rattle.layout.specs.Layout.{share_length}
use Rattle.exchange.specs.Values.{key_of}
use Rattle.points.specs.Blocks.{Blocks, length-block, blocks-none, blocks_more, blocks_end}
use Rattle.coefficients.specs.Groups.{row_of, group-fits, rows-from}
use Rattle.coefficients.proofs.interpolate_with.Goals as goal
use Rattle.coefficients.proofs.interpolate_with.Goals.{After-min-count, After-interpolate_group}

-- the next group: as many shares are left
left : (c : After-min-count) → c.loop-i.i + c.min-count.result ≤ c.args.group.n
left c = omega (arith, c.min-count.ensures, c.loop-i-test.true)

-- the shares of the group, and their S, stand within the slices
shares-fit : (c : After-min-count) → c.loop-i.i * c.share_length-size.result + c.min-count.result * c.share_length-size.result ≤ length c.args.shares.now
shares-fit c =
    group-fits c.loop-i.i c.min-count.result c.args.group.n c.share_length-size.result _ _ _ (left c) refl refl
    (c.requires.0.sized-shares ∙ ap (λ (k : ℕ). c.args.group.n * k) (sym c.share_length-size.ensures))

rows-fit : (c : After-min-count) → c.loop-i.i * c.args.p.m + c.min-count.result * c.args.p.m ≤ length c.loop-i.rows
rows-fit c =
    group-fits c.loop-i.i c.min-count.result c.args.group.n c.args.p.m _ _ _ (left c) refl refl (c.loop-i.auto.rows ∙ c.requires.0.sized_rows)

rows-lent : (c : After-min-count) → let to = c.loop-i.i * c.args.p.m in
    length (take (to + c.min-count.result * c.args.p.m - to) (drop to c.loop-i.rows)) ≡ c.min-count.result * c.args.p.m
rows-lent c = length-block (c.loop-i.i * c.args.p.m) (c.min-count.result * c.args.p.m) c.loop-i.rows (rows-fit c)

pub loop-i-init : goal.loop-i-init
loop-i-init c = (omega arith, blocks-none _ _ _)

pub interpolate_group-requires : goal.interpolate_group-requires
interpolate_group-requires c =
    let (r, l) = c.requires in
    let few : c.min-count.result ≤ 15 = omega (arith, c.min-count.ensures) in
    let size : c.min-count.result * c.share_length-size.result ≡ c.min-count.result * share_length c.args.p = ap (λ (k : ℕ). c.min-count.result * k) c.share_length-size.ensures in
    let fit = shares-fit (goal.at.interpolate_group-requires c).After-min-count in
    let sized_rows = rows-lent (goal.at.interpolate_group-requires c).After-min-count in (
      record {
        within = r.within;
        few = few;
        sized-shares = simp (length-take, length-drop) (omega (arith, fit, size));
        sized-matrix = r.sized-matrix;
        sized-y = r.sized-y;
        sized_rows = sized_rows;
      },
      omega (arith, c.min-count.ensures),
      l,
    )

-- a turn writes S of the shares of the group
turn : (c : After-interpolate_group) (j : ℕ) → j ≡ c.loop-i.i + c.min-count.result → let a = c.args in let n = c.min-count.result in let to = c.loop-i.i * a.p.m in
    c.loop-i.i + n ≤ a.group.n → length (take (to + n * a.p.m - to) (drop to c.loop-i.rows)) ≡ n * a.p.m
    → Blocks (row_of a.p (key_of a.matrix.now a.y.now) a.group.first a.shares.now) a.p.m a.rows.now
    (take to c.loop-i.rows ++ (c.interpolate_group.new.rows ++ drop (to + n * a.p.m - to) (drop to c.loop-i.rows))) j
turn c j ej l e =
    let v = c.loop-i in let n = c.min-count.result in let a = c.args in let m = a.p.m in let size = c.share_length-size.result in
    let u = c.interpolate_group.new.rows in let ez = c.share_length-size.ensures in let key = key_of a.matrix.now a.y.now in
    rw ej
    (blocks_more (row_of a.p key a.group.first a.shares.now) m a.group.n a.rows.now c.requires.0.sized_rows v.rows u v.i n (v.i * m) (n * m) l refl refl
    (c.interpolate_group.auto.rows ∙ e)
    (rows-from a.p key a.group.first a.shares.now u v.i n (v.i * size) (n * size) (ap (λ (k : ℕ). v.i * k) ez) (ap (λ (k : ℕ). n * k) ez) c.interpolate_group.ensures)
    v.invariant.1)

pub slice_bounds-interpolate_group-end : goal.slice_bounds-interpolate_group-end
slice_bounds-interpolate_group-end c = omega (arith, shares-fit (goal.at.slice_bounds-interpolate_group-end c).After-min-count)

pub slice_bounds-interpolate_group-end-in-loop-i : goal.slice_bounds-interpolate_group-end-in-loop-i
slice_bounds-interpolate_group-end-in-loop-i c = omega (arith, rows-fit (goal.at.slice_bounds-interpolate_group-end-in-loop-i c).After-min-count)

pub loop-i-preserved : goal.loop-i-preserved
loop-i-preserved c =
    let d = (goal.at.loop-i-preserved c).After-min-count in
    let e : c.loop-i.i + 8 ≡ c.loop-i.i + c.min-count.result = omega (arith, c.min-count.ensures) in
    (omega arith, turn (goal.at.loop-i-preserved c).After-interpolate_group (c.loop-i.i + 8) e (left d) (rows-lent d))

pub returns : goal.returns
returns c = let a = c.args in
    blocks_end (row_of a.p (key_of a.matrix.now a.y.now) a.group.first a.shares.now) a.p.m a.group.n a.rows.now c.requires.0.sized_rows c.loop-i.rows
    c.loop-i.i (omega arith) c.loop-i.invariant.1

pub returns-2 : goal.returns-2
returns-2 c = let a = c.args in let d = (goal.at.returns-2 c).After-min-count in
    let e : a.group.n ≡ c.loop-i.i + c.min-count.result = omega (arith, c.min-count.ensures) in
    blocks_end (row_of a.p (key_of a.matrix.now a.y.now) a.group.first a.shares.now) a.p.m a.group.n a.rows.now c.requires.0.sized_rows _ _ refl
    (turn (goal.at.returns-2 c).After-interpolate_group a.group.n e (left d) (rows-lent d))
