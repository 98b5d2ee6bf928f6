-- The sums over the disclosed leaves as hashed, then aux in the sum of all.
use Rattle.std.proofs.Common.{List, ap, ap₂, arith, ℕ, ◌*◌, ◌+◌, ◌∙◌, ◌≡◌}
use Rattle.lists.specs.Sum.{xor_at}
use Rattle.layout.specs.Layout.{share_length}
use Rattle.layout.specs.Layout.Laws.{total-lt, sum_fits}
use Rattle.layout.specs.Layout.Bounds.{sums-small}
use Rattle.openings.proofs.commitment.sum_leaves.Goals as goal
use Rattle.openings.proofs.commitment.sum_leaves.Goals.{After-share_length}

at : (c : After-share_length) → c.args.p.axes * c.share_length.result ≡ c.args.p.axes * share_length c.args.p
at c =
    ap (◌*◌ c.args.p.axes) c.share_length.ensures

pub overflow_mul-p : goal.overflow_mul-p
overflow_mul-p c = let p = c.args.p in
    omega (arith, at (goal.at.overflow_mul-p c).After-share_length, sum_fits p p.axes (total-lt p), sums-small p c.requires.within)

pub overflow_add-p : goal.overflow_add-p
overflow_add-p c = let p = c.args.p in
    omega (arith, c.at_x.ensures, at (goal.at.overflow_add-p c).After-share_length, sum_fits p p.axes (total-lt p), sums-small p c.requires.within)

pub xor_at-requires : goal.xor_at-requires
xor_at-requires c = let p = c.args.p in let f = sum_fits p p.axes (total-lt p) in
    omega (arith, c.at_x.ensures, at (goal.at.xor_at-requires c).After-share_length, f, c.requires.sized-aux, c.requires.sized-sums, c.party_sums)

pub returns : goal.returns
returns c = c.xor_at.ensures ∙ ap₂ (λ (d : List ℕ) (n : ℕ). xor_at d n c.args.aux.now) c.party_sums.ensures (ap₂ ◌+◌ (at (goal.at.returns c).After-share_length) c.at_x.ensures)
