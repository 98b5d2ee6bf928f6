-- The arrays have room for nine shares at all parameters.
use Rattle.std.proofs.Common.{List, ap, arith, length-take-le, mul-le-mul, replicate, ℕ, ◌*◌, ◌+◌, ◌∙◌, ◌≤◌}
use Rattle.layout.specs.Maxima.{longest_share, longest_sums, longest_row, most_blocks, most_coefficients, longest_message2}
use Rattle.points.specs.Written.{front_length}
use Rattle.bench_c.proofs.products.count.Goals as goal
use Rattle.bench_c.proofs.products.count.Goals.{After-message2_length-c, After-row_length, After-share_length, Start}

abbrev zeros : ℕ → List ℕ
zeros n = replicate n 0

shares-fit : (c : After-share_length) → c.args.n * c.share_length.result ≤ longest_sums
shares-fit c =
    let (w, few) = c.requires in
    let h : c.share_length.result ≤ longest_share = omega (arith, c.share_length.ensures) in mul-le-mul few h

rows_fit : (c : Start) → (c.args.n + 1) * c.args.p.m ≤ most_coefficients
rows_fit c =
    let a : c.args.n + 1 ≤ 10 = omega (arith, c.requires.1) in mul-le-mul a c.requires.0.m-most

out-fits : (c : After-row_length) → (c).args.n * c.row_length.result ≤ most_blocks
out-fits c =
    let (w, few) = (c).requires in
    let h : c.row_length.result ≤ longest_row = omega (arith, c.row_length.ensures) in mul-le-mul few h

points-fit : (c : After-message2_length-c) → c.message2_length-c.result ≤ longest_message2
points-fit c =
    let t = c.requires.0.t-most in omega (arith, c.message2_length-c.ensures)

pub overflow_mul-a : goal.overflow_mul-a
overflow_mul-a c = let h = shares-fit (goal.at.overflow_mul-a c).After-share_length in omega arith

pub overflow_mul-b : goal.overflow_mul-b
overflow_mul-b c = let h = rows_fit (goal.at.overflow_mul-b c).Start in omega arith

pub overflow_mul-e : goal.overflow_mul-e
overflow_mul-e c = let h = out-fits (goal.at.overflow_mul-e c).After-row_length in omega arith

pub slice_bounds-shares-end : goal.slice_bounds-shares-end
slice_bounds-shares-end c = shares-fit (goal.at.slice_bounds-shares-end c).After-share_length

pub slice_bounds-announce_each-end : goal.slice_bounds-announce_each-end
slice_bounds-announce_each-end c = front_length _ _ (shares-fit (goal.at.slice_bounds-announce_each-end c).After-share_length)

pub slice_bounds-rows-end : goal.slice_bounds-rows-end
slice_bounds-rows-end c = rows_fit (goal.at.slice_bounds-rows-end c).Start

pub slice_bounds-announce_each-end-2 : goal.slice_bounds-announce_each-end-2
slice_bounds-announce_each-end-2 c = front_length _ _ (rows_fit (goal.at.slice_bounds-announce_each-end-2 c).Start)

pub slice_bounds-message2-end : goal.slice_bounds-message2-end
slice_bounds-message2-end c = points-fit (goal.at.slice_bounds-message2-end c).After-message2_length-c

pub slice_bounds-announce_each-end-3 : goal.slice_bounds-announce_each-end-3
slice_bounds-announce_each-end-3 c = front_length _ _ (points-fit (goal.at.slice_bounds-announce_each-end-3 c).After-message2_length-c)

pub slice_bounds-out-end : goal.slice_bounds-out-end
slice_bounds-out-end c = out-fits (goal.at.slice_bounds-out-end c).After-row_length

pub slice_bounds-announce_each-end-4 : goal.slice_bounds-announce_each-end-4
slice_bounds-announce_each-end-4 c = front_length _ _ (out-fits (goal.at.slice_bounds-announce_each-end-4 c).After-row_length)

pub announce_each-requires : goal.announce_each-requires
announce_each-requires c =
    let (w, few) = c.requires in
    let shares = length-take-le (c.args.n * c.share_length.result) (zeros longest_sums) (shares-fit (goal.at.announce_each-requires c).After-share_length) ∙ ap (λ (k : ℕ). c.args.n * k) c.share_length.ensures in
    let rows = length-take-le ((c.args.n + 1) * c.args.p.m) (zeros most_coefficients) (rows_fit (goal.at.announce_each-requires c).Start) in
    let message2 = length-take-le c.message2_length-c.result (zeros longest_message2) (points-fit (goal.at.announce_each-requires c).After-message2_length-c) ∙ c.message2_length-c.ensures in
    let out =
    length-take-le (c.args.n * c.row_length.result) (zeros most_blocks) (out-fits (goal.at.announce_each-requires c).After-row_length) ∙ ap (λ (k : ℕ). c.args.n * k) c.row_length.ensures
    in
    omega arith
