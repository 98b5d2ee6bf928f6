-- The arrays have room for all parameters. S of the share is made, the share alone is announced, and the front of its block is copied (`leaf-made`).
use Rattle.std.proofs.Common.{List, ap, arith, drop, length, replicate, sym, take, take_at, ℕ, ◌*◌, ◌++◌, ◌∙◌, ◌≡◌, ◌≤◌}
use Rattle.std.proofs.lemmas.List.{take-append-le}
use Rattle.parameters.specs.declared.Parameters.{Parameters}
use Rattle.parameters.specs.Limits.{Within}
use Rattle.layout.specs.Layout.{y_length, row_length}
use Rattle.layout.specs.Maxima.{longest_y, leaf_coefficients, longest_row}
use Rattle.points.specs.Written.{front_length, front_kept}
use Rattle.values.specs.Leaf.{leaf-made}
use Rattle.values.proofs.announce_leaf.Goals as goal
use Rattle.values.proofs.announce_leaf.Goals.{After-announce_each-made, After-interpolate_each}

abbrev zeros : ℕ → List ℕ
zeros n = replicate n 0

-- what is lent of the arrays
y-fits : (p : Parameters) (n : ℕ) → Within p → n ≡ y_length p → n ≤ longest_y
y-fits p n w e = omega (arith, w.m-most, w.k-least)

rows-fit : (p : Parameters) → Within p → 2 * p.m ≤ leaf_coefficients
rows-fit p w = omega (arith, w.m-most)

block-fits : (p : Parameters) (n : ℕ) → Within p → n ≡ row_length p → n ≤ longest_row
block-fits p n w e = omega (arith, w.t-most)

-- the coefficients
length-rows : (c : After-interpolate_each) → length c.interpolate_each.new.rows ≡ 2 * c.args.p.m
length-rows c = c.interpolate_each.auto.rows ∙ sym (front_length _ (zeros leaf_coefficients) (rows-fit c.args.p c.requires.within))

rows-room : (c : After-interpolate_each) → let size = 2 * c.args.p.m in size ≤ length (c.interpolate_each.new.rows ++ drop size (zeros leaf_coefficients))
rows-room c =
    let f = rows-fit c.args.p c.requires.within in
    omega (arith, front_kept (2 * c.args.p.m) c.interpolate_each.new.rows (zeros leaf_coefficients) (length-rows c) f, f)

-- the announcement
length-own : (c : After-announce_each-made) → length c.announce_each-made.new.out ≡ c.row_length-b.result
length-own c =
    c.announce_each-made.auto.out
    ∙ sym (front_length _ (zeros longest_row) (block-fits c.args.p _ c.requires.within c.row_length-b.ensures))

below : (c : After-announce_each-made) → c.values_length-a.result ≤ length c.announce_each-made.new.out
below c = omega (arith, length-own c, c.values_length-a.ensures, c.row_length-b.ensures)

front-room : (c : After-announce_each-made)
    → c.values_length-a.result ≤ length (c.announce_each-made.new.out ++ drop c.row_length-b.result (zeros longest_row))
front-room c =
    let f = block-fits c.args.p c.row_length-b.result c.requires.within c.row_length-b.ensures in
    omega (arith, below c, length-own c, front_kept c.row_length-b.result c.announce_each-made.new.out (zeros longest_row) (length-own c) f, f)

pub slice_bounds-interpolate_each-end : goal.slice_bounds-interpolate_each-end
slice_bounds-interpolate_each-end c = front_length _ (zeros longest_y) (y-fits c.args.p _ c.requires.within c.y_length-n.ensures)

pub slice_bounds-interpolate_each-end-2 : goal.slice_bounds-interpolate_each-end-2
slice_bounds-interpolate_each-end-2 c = front_length _ (zeros leaf_coefficients) (rows-fit c.args.p c.requires.within)

pub interpolate_each-requires : goal.interpolate_each-requires
interpolate_each-requires c = let f = c.requires in
    let given = c.y_length-n.ensures in let sized-y = front_length _ (zeros longest_y) (y-fits c.args.p _ c.requires.within c.y_length-n.ensures) in let sized_rows = front_length _ (zeros leaf_coefficients) (rows-fit c.args.p c.requires.within) in omega arith

pub slice_bounds-rows-end-2 : goal.slice_bounds-rows-end-2
slice_bounds-rows-end-2 c = rows-room (goal.at.slice_bounds-rows-end-2 c).After-interpolate_each

pub slice_bounds-announce_each-end : goal.slice_bounds-announce_each-end
slice_bounds-announce_each-end c = front_length _ _ (rows-room (goal.at.slice_bounds-announce_each-end c).After-interpolate_each)

pub slice_bounds-announce_each-end-2 : goal.slice_bounds-announce_each-end-2
slice_bounds-announce_each-end-2 c = front_length _ (zeros longest_row) (block-fits c.args.p _ c.requires.within c.row_length-b.ensures)

pub announce_each-made-requires : goal.announce_each-made-requires
announce_each-made-requires c = let f = c.requires in
    let sized_rows = sym (front_length _ _ (rows-room (goal.at.announce_each-made-requires c).After-interpolate_each)) in let sized-block = front_length _ (zeros longest_row) (block-fits c.args.p _ c.requires.within c.row_length-b.ensures) in
    record {
      within = f.within;
      few = omega arith;
      sized-shares = omega (arith, f.sized-s);
      sized_rows = sized_rows;
      sized-message2 = f.sized-message2;
      sized-out = omega (arith, c.row_length-b.ensures, sized-block);
    }

pub slice_bounds-block-end-2 : goal.slice_bounds-block-end-2
slice_bounds-block-end-2 c = front-room (goal.at.slice_bounds-block-end-2 c).After-announce_each-made

pub slice_bounds-copy-end : goal.slice_bounds-copy-end
slice_bounds-copy-end c = front_length _ _ (front-room (goal.at.slice_bounds-copy-end c).After-announce_each-made)

pub copy-requires : goal.copy-requires
copy-requires c = sym (front_length _ _ (front-room (goal.at.copy-requires c).After-announce_each-made)) ∙ c.values_length-a.ensures
    ∙ sym c.requires.sized-out

pub returns : goal.returns
returns c = let a = c.args in (
  c.copy.ensures ∙ take-append-le _ c.announce_each-made.new.out (drop c.row_length-b.result (zeros longest_row)) (below (goal.at.returns c).After-announce_each-made) ∙ ap (λ (k : ℕ). take k c.announce_each-made.new.out) c.values_length-a.ensures
      ∙ leaf-made a.p _ a.message2.now a.s.now _ c.requires.sized-s (length-own (goal.at.returns c).After-announce_each-made ∙ c.row_length-b.ensures)
      (c.announce_each-made.ensures.0 _ (take_at c.interpolate_each.new.rows (drop (2 * c.args.p.m) (zeros leaf_coefficients)) (2 * c.args.p.m) (length-rows (goal.at.returns c).After-interpolate_each) ∙ c.interpolate_each.ensures)),
  c.announce_each-made.ensures.1,
)
