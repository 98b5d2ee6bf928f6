-- x_A is gathered in front, the words behind it become zero (`prepared-made`), then H'x_A, and y is added where `first` (`vector-made`).
-- k words are lent
use Rattle.std.proofs.Common.{ap₂, arith, drop, length, replicate, sym, take, ◌++◌, ◌-◌, ◌∙◌, ◌≡◌, ◌≤◌}
use Rattle.exchange.specs.Reading.{bytes_at}
use Rattle.points.specs.Written.{front_length}
use Rattle.coefficients.specs.Shares.{share_of}
use Rattle.coefficients.specs.Made.{prepared-made, prepared-image, vector-made}
use Rattle.layout.specs.Layout.{y_length}
use Rattle.coefficients.proofs.sidebyside.vectors.Goals as goal
use Rattle.coefficients.proofs.sidebyside.vectors.Goals.{After-clear, After-gather, Start}

front : (c : Start) → c.args.p.k ≡ length (take c.args.p.k c.args.words.now)
front c =
    let f = c.requires.within in front_length _ _ (omega (arith, c.requires.sized-words))

below : (c : Start) → c.args.p.k ≤ c.args.p.m
below c =
    omega (arith, c.requires.within)

-- k words come back from `gather`, and with the rest they are those words and zeros
gathered : (c : After-gather) → length c.gather.new.words ≡ c.args.p.k
gathered c =
    let front : c.args.p.k ≡ length (take c.args.p.k c.args.words.now) = let f = c.requires.within in front_length _ _ (omega (arith, c.requires.sized-words)) in
    c.gather.auto.words ∙ sym (front)

prepared : (c : After-clear) → let p = c.args.p in let g = c.gather.new.words in
    let w = g ++ drop p.k c.args.words.now in
    take p.k w ++ (c.clear.new.words ++ drop (length w - p.k) (drop p.k w)) ≡ g ++ replicate (y_length p) 0
prepared c =
    let below : c.args.p.k ≤ c.args.p.m = omega (arith, c.requires.within) in
    let front : c.args.p.k ≡ length (take c.args.p.k c.args.words.now) = let f = c.requires.within in front_length _ _ (omega (arith, c.requires.sized-words)) in
    let gathered : length c.gather.new.words ≡ c.args.p.k = c.gather.auto.words ∙ sym (front) in
    prepared-made _ _ c.args.words.now c.gather.new.words _ c.requires.sized-words (gathered) (below) c.clear.ensures

pub slice_bounds-gather-end-2 : goal.slice_bounds-gather-end-2
slice_bounds-gather-end-2 c = front (goal.at.slice_bounds-gather-end-2 c).Start

pub gather-requires : goal.gather-requires
gather-requires c = let e = front (goal.at.gather-requires c).Start in omega (arith, c.at_x-at, c.requires)

pub image-requires : goal.image-requires
image-requires c = prepared-image _ _ c.gather.new.words _ (below (goal.at.image-requires c).Start) (gathered (goal.at.image-requires c).After-gather) (prepared (goal.at.image-requires c).After-clear) c.args.matrix.now c.requires.sized-matrix

pub returns : goal.returns
returns c = let a = c.args in let p = a.p in
    λ i h. vector-made p a.matrix.now a.y.now a.first (share_of p a.shares.now i) i h (λ k. omega (arith, c.type_inv.y k))
    c.requires.sized-y _ _ c.image.new.words c.add_where.new.words (below (goal.at.returns c).Start) (gathered (goal.at.returns c).After-gather) (prepared (goal.at.returns c).After-clear) c.image.auto.words c.image.ensures.0
    (c.image.ensures.1 i h) c.add_where.ensures
    (c.gather.ensures i ∙ ap₂ (bytes_at (share_of p a.shares.now i)) c.at_x-at.ensures (sym (front (goal.at.returns c).Start)))
