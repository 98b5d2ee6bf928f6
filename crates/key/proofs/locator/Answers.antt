use Rattle.std.proofs.Common.{arith, length-set, refl, ◌∙◌}
use Rattle.key.specs.Loops.Locator.{located-start, located-turn, located-positive, located_end, at_if-le}
use Rattle.key.proofs.locator.Goals as goal

pub loop-i-init : goal.loop-i-init
loop-i-init c = let a = c.args in let fits = c.requires.0 in (
  simp length-set (omega (arith, c.requires.1)),
  located-start a.x.now a.out.now a.w _ c.to_fill-left.ensures fits.light fits.fits c.requires.1,
  refl,
)

pub root_if-at-requires : goal.root_if-at-requires
root_if-at-requires c = let l = c.loop-i in (
  λ t. located-positive c.args.x.now l.out _ l.left l.i l.at _ (omega arith) c.is_chosen-hit.ensures l.invariant.1 t,
  l.invariant.0,
)

pub loop-i-preserved : goal.loop-i-preserved
loop-i-preserved c = let x = c.args.x.now in let l = c.loop-i in
    let r = c.root_if-at in (
      omega (arith, r.ensures.1, r.auto.p, at_if-le c.is_chosen-hit.result l.at),
      located-turn x l.out _ _ l.left l.i l.at _ _ _ c.is_chosen-hit.result (omega arith) l.invariant.0 (omega arith)
          c.is_chosen-hit.ensures r.ensures.0 r.ensures.1 c.left_after-left.ensures l.invariant.1,
      r.auto.p ∙ l.invariant.2,
    )

pub returns : goal.returns
returns c = let l = c.loop-i in
    located_end c.args.x.now l.out _ l.left l.i l.at (omega arith) l.invariant.1
