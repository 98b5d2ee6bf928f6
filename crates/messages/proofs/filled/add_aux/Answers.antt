-- Aux is made from the sum at index D, and added into it past its a and b.
-- where the sum of all leaves ends
use Rattle.std.proofs.Common.{ap, ap₂, arith, ℕ, ◌*◌, ◌+◌, ◌∙◌, ◌≤◌}
use Rattle.lists.specs.Part.{part}
use Rattle.lists.specs.Sum.{xor_at}
use Rattle.lists.specs.Part.Laws.{lent-part}
use Rattle.layout.specs.Layout.{sums_length}
use Rattle.messages.specs.Auxiliary.{aux_for}
use Rattle.layout.specs.Layout.Bounds.{total-fits}
use Rattle.layout.specs.Maxima.{longest_sums}
use Rattle.messages.proofs.filled.add_aux.Goals as goal
use Rattle.messages.proofs.filled.add_aux.Goals.{After-share_length-size}

fits : (c : After-share_length-size) → (let k = c.share_length-size.result in
    (c.args.p.axes * k + k ≤ sums_length c.args.p) × (sums_length c.args.p ≤ longest_sums))
fits c =
    total-fits c.args.p c.requires.within _ c.share_length-size.ensures

pub slice_bounds-aux-end : goal.slice_bounds-aux-end
slice_bounds-aux-end c = omega (arith, fits (goal.at.slice_bounds-aux-end c).After-share_length-size, c.requires.sums-are)

pub returns : goal.returns
returns c = let a = c.args in let e = c.share_length-size.ensures in
    let size : ℕ = c.share_length-size.result in (
      c.aux.ensures
          ∙ ap (aux_for a.p a.x.now) (lent-part a.sums.now (a.p.axes * size) size ∙ ap (λ (n : ℕ). part a.sums.now (a.p.axes * n) n) e),
      c.xor_at.ensures ∙ ap₂ (λ (n k : ℕ). xor_at a.sums.now (a.p.axes * n + k) c.aux.new.out) e c.at_x.ensures,
    )
