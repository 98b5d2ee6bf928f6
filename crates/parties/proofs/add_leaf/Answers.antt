use Rattle.std.proofs.Common.{List, ap, ap₂, arith, length, refl, ℕ, ◌*◌, ◌+◌, ◌∙◌, ◌≡◌, ◌≤◌}
use Rattle.lists.specs.Sum.{xor_at}
use Rattle.layout.specs.Layout.{share_length}
use Rattle.parties.specs.Sums.{added_on}
use Rattle.layout.specs.Layout.Laws.{total-lt, sum_fits}
use Rattle.layout.specs.Layout.Bounds.{sums-small}
use Rattle.parties.specs.Sums.Adding.{added_to, added_none, added_more, added-all}
use Rattle.parties.proofs.add_leaf.Goals as goal
use Rattle.parties.proofs.add_leaf.Goals.{After-share_length}

-- the sum of all leaves lies within the sums
at : (c : After-share_length) → c.args.p.axes * c.share_length.result ≡ c.args.p.axes * share_length c.args.p
at c =
    ap (◌*◌ c.args.p.axes) c.share_length.ensures

fits : (c : After-share_length) → c.args.p.axes * c.share_length.result + share_length c.args.p ≤ length c.args.sums.now
fits c =
    let at : c.args.p.axes * c.share_length.result ≡ c.args.p.axes * share_length c.args.p = ap (◌*◌ c.args.p.axes) c.share_length.ensures in
    omega (arith, at, sum_fits c.args.p c.args.p.axes (total-lt c.args.p), c.requires.room)

pub loop-axis-init : goal.loop-axis-init
loop-axis-init c = (added_none c.args.p c.args.leaf c.args.share.now c.args.sums.now c.requires.room c.requires.share, refl)

pub loop-axis-preserved : goal.loop-axis-preserved
loop-axis-preserved c = let a = c.args in (
  c.add_to_party.ensures ∙ ap (added_on a.p c.loop-axis.axis a.leaf a.share.now) c.loop-axis.invariant.0
      ∙ added_more a.p a.leaf a.share.now a.sums.now c.requires.room c.requires.share c.loop-axis.axis c.loop-axis-test.true,
  omega (arith, c.add_to_party, c.loop-axis.invariant.1),
)

pub overflow_mul-p : goal.overflow_mul-p
overflow_mul-p c = omega (arith, fits (goal.at.overflow_mul-p c).After-share_length, c.requires.room, sums-small c.args.p c.requires.within)

pub xor_at-requires : goal.xor_at-requires
xor_at-requires c = omega (arith, fits (goal.at.xor_at-requires c).After-share_length, c.loop-axis.invariant.1, c.requires.share)

pub returns : goal.returns
returns c = let a = c.args in let last : c.loop-axis.axis ≡ a.p.axes = omega arith in c.xor_at.ensures
    ∙ ap₂ (λ (d : List ℕ) (n : ℕ). xor_at d n a.share.now) (c.loop-axis.invariant.0 ∙ ap (added_to a.p a.leaf a.share.now a.sums.now) last) (at (goal.at.returns c).After-share_length)
    ∙ added-all a.p a.leaf a.share.now a.sums.now c.requires.room c.requires.share
