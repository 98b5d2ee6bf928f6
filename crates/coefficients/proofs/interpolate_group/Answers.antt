-- The front of the words becomes x of each share, the rows become x from there, the end of the words S of each row, and the shares of the end are the
-- rows (`rows_made`).
use Rattle.std.proofs.Common.{List, ap, arith, drop, length, length-drop, length-take, replicate, sym, take, take_at, ℕ, ◌*◌, ◌++◌, ◌-◌, ◌∙◌, ◌≡◌, ◌≤◌}
use Rattle.packed.specs.Share.{share}
use Rattle.exchange.specs.Sequences.{joined}
use Rattle.exchange.specs.Values.{key_of}
use Rattle.points.specs.Written.{front_length, front_kept}
use Rattle.coefficients.specs.Groups.{rows_made}
use Rattle.coefficients.proofs.interpolate_group.Goals as goal
use Rattle.coefficients.proofs.interpolate_group.Goals.{After-interpolate, After-unpack, After-vectors, Start}

abbrev zeros : List ℕ
zeros = replicate 255 0

-- m words are lent
front : (c : Start) → c.args.p.m ≡ length (take c.args.p.m zeros)
front c =
    front_length c.args.p.m zeros c.requires.0.within.m-most

made : (c : After-vectors) → length c.vectors.new.words ≡ c.args.p.m
made c =
    let front : c.args.p.m ≡ length (take c.args.p.m zeros) = front_length c.args.p.m zeros c.requires.0.within.m-most in
    c.vectors.auto.words ∙ sym (front)

-- the words keep their number
words : (c : After-vectors) → length (c.vectors.new.words ++ drop c.args.p.m zeros) ≡ 255
words c =
    let front : c.args.p.m ≡ length (take c.args.p.m zeros) = front_length c.args.p.m zeros c.requires.0.within.m-most in
    let made : length c.vectors.new.words ≡ c.args.p.m = c.vectors.auto.words ∙ sym (front) in
    front_kept c.args.p.m c.vectors.new.words zeros (made) c.requires.0.within.m-most

-- the front is lent again, with m words
room : (c : After-vectors) → let m = c.args.p.m in m ≤ length (c.vectors.new.words ++ drop m zeros)
room c =
    let front : c.args.p.m ≡ length (take c.args.p.m zeros) = front_length c.args.p.m zeros c.requires.0.within.m-most in
    let made : length c.vectors.new.words ≡ c.args.p.m = c.vectors.auto.words ∙ sym (front) in
    let words : length (c.vectors.new.words ++ drop c.args.p.m zeros) ≡ 255 = front_kept c.args.p.m c.vectors.new.words zeros (made) c.requires.0.within.m-most in
    rw (words) c.requires.0.within.m-most

front-lent : (c : After-vectors) → let m = c.args.p.m in
    length (take m (c.vectors.new.words ++ drop m zeros)) ≡ m
front-lent c =
    let front : c.args.p.m ≡ length (take c.args.p.m zeros) = front_length c.args.p.m zeros c.requires.0.within.m-most in
    let made : length c.vectors.new.words ≡ c.args.p.m = c.vectors.auto.words ∙ sym (front) in
    ap length (take_at c.vectors.new.words (drop c.args.p.m zeros) _ (made)) ∙ made

rows-kept : (c : After-unpack) → length c.unpack.new.rows ≡ c.args.group.n * c.args.p.m
rows-kept c =
    c.unpack.auto.rows ∙ c.requires.0.sized_rows

full : (c : After-interpolate) → length c.interpolate.new.a ≡ 255
full c =
    let front : c.args.p.m ≡ length (take c.args.p.m zeros) = front_length c.args.p.m zeros c.requires.0.within.m-most in
    let made : length c.vectors.new.words ≡ c.args.p.m = c.vectors.auto.words ∙ sym (front) in
    let words : length (c.vectors.new.words ++ drop c.args.p.m zeros) ≡ 255 = front_kept c.args.p.m c.vectors.new.words zeros (made) c.requires.0.within.m-most in
    c.interpolate.auto.a ∙ words

pub slice_bounds-vectors-end : goal.slice_bounds-vectors-end
slice_bounds-vectors-end c = front (goal.at.slice_bounds-vectors-end c).Start

pub vectors-requires : goal.vectors-requires
vectors-requires c = let sized-words = sym (front (goal.at.vectors-requires c).Start) in search

pub slice_bounds-a-end-2 : goal.slice_bounds-a-end-2
slice_bounds-a-end-2 c = room (goal.at.slice_bounds-a-end-2 c).After-vectors

pub slice_bounds-unpack-end : goal.slice_bounds-unpack-end
slice_bounds-unpack-end c = sym (front-lent (goal.at.slice_bounds-unpack-end c).After-vectors)

pub unpack-requires : goal.unpack-requires
unpack-requires c = (c.requires.1, c.requires.0.sized_rows ∙ ap (λ (n : ℕ). c.args.group.n * n) (sym (front-lent (goal.at.unpack-requires c).After-vectors)))

pub slice_bounds-interpolate-end : goal.slice_bounds-interpolate-end
slice_bounds-interpolate-end c = sym (words (goal.at.slice_bounds-interpolate-end c).After-vectors)

pub interpolate-requires : goal.interpolate-requires
interpolate-requires c = let (r, few, l) = c.requires in let w = r.within in (words (goal.at.interpolate-requires c).After-vectors, few, rows-kept (goal.at.interpolate-requires c).After-unpack, omega arith, l)

pub unpack-requires-2 : goal.unpack-requires-2
unpack-requires-2 c = let m = c.args.p.m in
    let e : length (take (255 - (255 - m)) (drop (255 - m) c.interpolate.new.a)) ≡ m
    = simp (length-take, length-drop) (omega (arith, full (goal.at.unpack-requires-2 c).After-interpolate, c.requires.0.within)) in
    (c.requires.1, rows-kept (goal.at.unpack-requires-2 c).After-unpack ∙ ap (λ (n : ℕ). c.args.group.n * n) (sym e))

pub returns : goal.returns
returns c = let a = c.args in let words = c.interpolate.new.a in
    rows_made a.p (key_of a.matrix.now a.y.now) a.group.first a.shares.now a.group.n a.p.m c.vectors.new.words
    (drop a.p.m zeros) _ words _ c.requires.1 (made (goal.at.returns c).After-vectors) (rows-kept (goal.at.returns c).After-unpack) (λ k. omega (arith, c.slice_known-2-1.given k))
    (λ i h. c.vectors.ensures i (omega (arith, c.requires.1))) c.unpack.ensures c.interpolate.ensures
    (c.unpack-2.ensures ∙ ap (λ (l : ℕ). joined (λ i. share i (take (l - (255 - a.p.m)) (drop (255 - a.p.m) words))) a.group.n) (sym (full (goal.at.returns c).After-interpolate)))
