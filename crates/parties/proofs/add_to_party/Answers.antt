-- The sum of the leaf's party lies within the sums; the last party has none.
use Rattle.std.proofs.Common.{ap, ap₂, arith, le-ltb, length, lt-ltb, refl, ℕ, ◌*◌, ◌+◌, ◌<◌, ◌∙◌, ◌≡◌, ◌≤◌}
use Rattle.lists.specs.Sum.{xor_at}
use Rattle.layout.specs.Layout.{others, sum_index, digit, share_length}
use Rattle.layout.specs.Layout.Laws.{index-lt, sum_fits}
use Rattle.layout.specs.Layout.Bounds.{sums-small}
use Rattle.parties.specs.Sums.{added_on}
use Rattle.parties.proofs.add_to_party.Goals as goal
use Rattle.parties.proofs.add_to_party.Goals.{After-share_length, Then-c-others}

below : (c : Then-c-others) → digit c.args.p c.args.axis c.args.leaf < others c.args.p
below c =
    omega (arith, c.if-c-others.true, c.others.ensures, c.coordinate-c.ensures)

at : (c : After-share_length) → c.sum_index.result * c.share_length.result ≡ sum_index c.args.p c.args.axis (digit c.args.p c.args.axis c.args.leaf) * share_length
    c.args.p
at c =
    ap₂ ◌*◌ (c.sum_index.ensures ∙ ap (sum_index c.args.p c.args.axis) c.coordinate-c.ensures) c.share_length.ensures

fits : (c : After-share_length) → c.sum_index.result * c.share_length.result + share_length c.args.p ≤ length c.args.sums.now
fits c =
    let below : digit c.args.p c.args.axis c.args.leaf < others c.args.p = omega (arith, c.if-c-others.true, c.others.ensures, c.coordinate-c.ensures) in
    let at : c.sum_index.result * c.share_length.result ≡ sum_index c.args.p c.args.axis (digit c.args.p c.args.axis c.args.leaf) * share_length
    c.args.p = ap₂ ◌*◌ (c.sum_index.ensures ∙ ap (sum_index c.args.p c.args.axis) c.coordinate-c.ensures) c.share_length.ensures in
    let p = c.args.p in
    omega (arith, at, sum_fits p _ (index-lt p c.args.axis (digit p c.args.axis c.args.leaf) c.requires.1 (below)), c.requires.0.room)

pub sum_index-requires : goal.sum_index-requires
sum_index-requires c = (c.requires.0.within, c.requires.1, omega (arith, below (goal.at.sum_index-requires c).Then-c-others, c.coordinate-c.ensures))

pub overflow_mul-sum_index : goal.overflow_mul-sum_index
overflow_mul-sum_index c = omega (arith, fits (goal.at.overflow_mul-sum_index c).After-share_length, c.requires.0.room, sums-small c.args.p c.requires.0.within)

pub xor_at-requires : goal.xor_at-requires
xor_at-requires c = omega (arith, fits (goal.at.xor_at-requires c).After-share_length, c.requires.0.share)

pub returns-then-c-others : goal.returns-then-c-others
unfolding added_on
returns-then-c-others c = let a = c.args in
    rw (lt-ltb (digit a.p a.axis a.leaf) (others a.p) (below (goal.at.returns-then-c-others c).Then-c-others))
    (c.xor_at.ensures ∙ ap (λ (n : ℕ). xor_at a.sums.now n a.share.now) (at (goal.at.returns-then-c-others c).After-share_length))

pub returns-else-c-others : goal.returns-else-c-others
unfolding added_on
returns-else-c-others c = let a = c.args in
    rw (le-ltb (digit a.p a.axis a.leaf) (others a.p) (omega (arith, c.if-c-others.false, c.others.ensures, c.coordinate-c.ensures))) refl
