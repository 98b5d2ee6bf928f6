-- The sum of all shares is made at the front of the work area and aux from it; then the named length is zeroed.
use Rattle.std.proofs.Common.{List, ap, ap₂, arith, le_of_eq, length, sym, take, ℕ, ◌∙◌, ◌≤◌}
use Rattle.lists.specs.Part.Laws.{tail-part}
use Rattle.lists.specs.Zeroed.{zeroed}
use Rattle.points.specs.Written.{front_length}
use Rattle.layout.specs.Layout.{leaves}
use Rattle.layout.specs.Layout.Bounds.{share-fits}
use Rattle.parties.specs.Totals.{hides-none}
use Rattle.messages.specs.Auxiliary.{aux_for}
use Rattle.messages.proofs.Laws.Fronts.{x-length, x-light, front-zeroed, Front, front-back}
use Rattle.messages.specs.Own.{sum_of}
use Rattle.messages.proofs.Laws.Own.{aux-made}
use Rattle.messages.specs.Run.{run_in, root-length}
use Rattle.messages.proofs.own_leaves.own_leaves.Goals as goal
use Rattle.messages.proofs.own_leaves.own_leaves.Goals.{After-share_sum, After-work_length-all}

-- a share fits into the named length, and that into the work area
short : (c : After-work_length-all) → c.share_length-size.result ≤ c.work_length-all.result
short c =
    omega (arith, c.share_length-size.ensures, c.work_length-all.ensures, share-fits c.args.p c.requires.0.within)

fits : (c : After-work_length-all) → c.share_length-size.result ≤ length c.args.work.now
fits c =
    let short : c.share_length-size.result ≤ c.work_length-all.result = omega (arith, c.share_length-size.ensures, c.work_length-all.ensures, share-fits c.args.p c.requires.0.within) in
    omega (arith, short, c.work_length-all.ensures, c.requires.0.work-fits)

back : (c : After-share_sum) → Front c.share_length-size.result c.share_sum.new.out c.args.work.now
back c =
    let short : c.share_length-size.result ≤ c.work_length-all.result = omega (arith, c.share_length-size.ensures, c.work_length-all.ensures, share-fits c.args.p c.requires.0.within) in
    let fits : c.share_length-size.result ≤ length c.args.work.now = omega (arith, short, c.work_length-all.ensures, c.requires.0.work-fits) in
    front-back _ _ _ c.share_sum.auto.out (fits)

pub slice_bounds-share_sum-end-2 : goal.slice_bounds-share_sum-end-2
slice_bounds-share_sum-end-2 c = fits (goal.at.slice_bounds-share_sum-end-2 c).After-work_length-all

pub slice_bounds-share_sum-end-3 : goal.slice_bounds-share_sum-end-3
slice_bounds-share_sum-end-3 c = front_length _ _ (fits (goal.at.slice_bounds-share_sum-end-3 c).After-work_length-all)

pub share_sum-requires : goal.share_sum-requires
share_sum-requires c = record {
  within = c.requires.0.within;
  states = c.own_states.auto.states ∙ c.requires.1;
  room = sym (front_length _ _ (fits (goal.at.share_sum-requires c).After-work_length-all)) ∙ c.share_length-size.ensures;
}

pub slice_bounds-aux-end-2 : goal.slice_bounds-aux-end-2
slice_bounds-aux-end-2 c = (back (goal.at.slice_bounds-aux-end-2 c).After-share_sum).there

pub slice_bounds-aux-end-3 : goal.slice_bounds-aux-end-3
slice_bounds-aux-end-3 c = (back (goal.at.slice_bounds-aux-end-3 c).After-share_sum).lent

pub aux-requires : goal.aux-requires
aux-requires c = let h = c.requires.0 in record {
  within = h.within;
  light = x-light _ _ _ _ h;
  sized-x = x-length _ _ _ _ h;
  sized-drawn = sym (back (goal.at.aux-requires c).After-share_sum).lent ∙ c.share_length-size.ensures;
  sized-out = c.requires.2;
}

pub returns : goal.returns
returns c = let a = c.args in let h = c.requires.0 in
    let x : List ℕ = take a.p.m a.x.now in (
      c.own_states.ensures,
      c.aux.ensures ∙ ap (aux_for a.p x) ((back (goal.at.returns c).After-share_sum).again ∙ c.share_sum.ensures
          ∙ hides-none a.p _ _ (leaves a.p) (le_of_eq (sym c.leaf_count-n.ensures)))
          ∙ ap₂ (λ (q st : List ℕ). aux_for a.p x (sum_of a.p q st)) (tail-part a.run.now 16) c.own_states.ensures
          ∙ aux-made a.p x (run_in a.run.now) (root-length a.run.now h.run_fits),
      c.zero_front.ensures
          ∙ front-zeroed _ _ c.share_sum.new.out a.work.now (back (goal.at.returns c).After-share_sum).size (short (goal.at.returns c).After-work_length-all)
          ∙ ap (λ (k : ℕ). zeroed k a.work.now) c.work_length-all.ensures,
    )
