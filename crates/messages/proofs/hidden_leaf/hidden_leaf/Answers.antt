-- The sum of all shares is made at the front of the work area and aux from it, aux completes the share of leaf n−1 (`leaf-made`);
-- then the named length is zeroed.
use Rattle.std.proofs.Common.{List, ap, arith, cond, length, sym, take, ℕ, ◌+◌, ◌∙◌, ◌≤◌}
use Rattle.lists.specs.Part.{put_at}
use Rattle.lists.specs.Zeroed.{zeroed}
use Rattle.points.specs.Written.{front_length}
use Rattle.layout.specs.Layout.{is_last, at_x}
use Rattle.layout.specs.Layout.Bounds.{share-fits}
use Rattle.messages.specs.Auxiliary.{aux_for}
use Rattle.messages.proofs.Laws.Fronts.{x-length, x-light, front-zeroed, Front, front-back}
use Rattle.messages.proofs.Laws.HiddenLeaf.{leaf-made}
use Rattle.messages.proofs.Laws.Own.{aux-made}
use Rattle.messages.specs.Run.{run_in, root-length}
use Rattle.messages.proofs.hidden_leaf.hidden_leaf.Goals as goal
use Rattle.messages.proofs.hidden_leaf.hidden_leaf.Goals.{After-draw_leaf, After-work_length-all}

-- a share fits into the named length, and that into the work area
short : (c : After-work_length-all) → c.share_length-size.result ≤ c.work_length-all.result
short c =
    omega (arith, c.share_length-size.ensures, c.work_length-all.ensures, share-fits c.args.p c.requires.0.within)

fits : (c : After-work_length-all) → c.share_length-size.result ≤ length c.args.work.now
fits c =
    let short : c.share_length-size.result ≤ c.work_length-all.result = omega (arith, c.share_length-size.ensures, c.work_length-all.ensures, share-fits c.args.p c.requires.0.within) in
    omega (arith, short, c.work_length-all.ensures, c.requires.0.work-fits)

back : (c : After-draw_leaf) → Front c.share_length-size.result c.draw_leaf.new.sum c.args.work.now
back c =
    let short : c.share_length-size.result ≤ c.work_length-all.result = omega (arith, c.share_length-size.ensures, c.work_length-all.ensures, share-fits c.args.p c.requires.0.within) in
    let fits : c.share_length-size.result ≤ length c.args.work.now = omega (arith, short, c.work_length-all.ensures, c.requires.0.work-fits) in
    front-back _ _ _ c.draw_leaf.auto.sum (fits)

pub slice_bounds-draw_leaf-end : goal.slice_bounds-draw_leaf-end
slice_bounds-draw_leaf-end c = fits (goal.at.slice_bounds-draw_leaf-end c).After-work_length-all

pub slice_bounds-draw_leaf-end-2 : goal.slice_bounds-draw_leaf-end-2
slice_bounds-draw_leaf-end-2 c = front_length _ _ (fits (goal.at.slice_bounds-draw_leaf-end-2 c).After-work_length-all)

pub draw_leaf-requires : goal.draw_leaf-requires
draw_leaf-requires c = record {
  within = c.requires.0.within;
  run_fits = c.requires.0.run_fits;
  is_leaf = c.requires.1.is_leaf;
  siblings-are = c.requires.1.siblings-are;
  own_is = c.requires.1.own_is;
  sum_is = sym (front_length _ _ (fits (goal.at.draw_leaf-requires c).After-work_length-all)) ∙ c.share_length-size.ensures;
}

pub slice_bounds-aux-end-2 : goal.slice_bounds-aux-end-2
slice_bounds-aux-end-2 c = (back (goal.at.slice_bounds-aux-end-2 c).After-draw_leaf).there

pub slice_bounds-aux-end-3 : goal.slice_bounds-aux-end-3
slice_bounds-aux-end-3 c = (back (goal.at.slice_bounds-aux-end-3 c).After-draw_leaf).lent

pub aux-requires : goal.aux-requires
aux-requires c = let h = c.requires.0 in record {
  within = h.within;
  light = x-light _ _ _ _ h;
  sized-x = x-length _ _ _ _ h;
  sized-drawn = sym (back (goal.at.aux-requires c).After-draw_leaf).lent ∙ c.share_length-size.ensures;
  sized-out = c.requires.1.aux-is;
}

pub returns : goal.returns
returns c = let a = c.args in let h = c.requires.0 in
    let x : List ℕ = take a.p.m a.x.now in let run = run_in a.run.now in let sixteen = root-length a.run.now h.run_fits in
    let got = c.draw_leaf.ensures in let u = c.aux.new.out in
    let aux-is = c.aux.ensures ∙ ap (aux_for a.p x) ((back (goal.at.returns c).After-draw_leaf).again ∙ got.2) ∙ aux-made a.p x run sixteen in (
      got.0,
      leaf-made a.p x run a.leaf c.requires.1.is_leaf sixteen a.own.now u _ c.requires.1.own_is
          (c.aux.auto.out ∙ c.requires.1.aux-is) aux-is
          (c.complete.ensures ∙ ap (λ (l : List ℕ). cond (is_last a.p a.leaf) (put_at l (32 + at_x a.p) u) l) got.1),
      aux-is,
      c.zero_front.ensures
          ∙ front-zeroed _ _ c.draw_leaf.new.sum a.work.now (back (goal.at.returns c).After-draw_leaf).size (short (goal.at.returns c).After-work_length-all)
          ∙ ap (λ (k : ℕ). zeroed k a.work.now) c.work_length-all.ensures,
    )
