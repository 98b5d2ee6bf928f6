use Rattle.std.proofs.Common.{arith, refl, ◌∙◌}
use Rattle.key.specs.Loops.Gather.{gathered-start, gathered-room, gathered-turn, gathered-end}
use Rattle.key.proofs.gather.Goals as goal

pub loop-i-init : goal.loop-i-init
loop-i-init c = let a = c.args in
    (gathered-start a.inside a.x.now a.s.now a.out.now a.w _ c.to_fill-left.ensures, refl)

pub put_if-at-requires : goal.put_if-at-requires
put_if-at-requires c =
    let a = c.args in let l = c.loop-i in (
      λ t.
          gathered-room a.inside a.x.now a.s.now l.out _ l.left l.i l.at c.is_chosen.result _ (omega arith) (omega (arith, c.requires.1))
          c.is_chosen.ensures c.is_wanted-hit.ensures l.invariant.0 (l.invariant.1 ∙ c.requires.2) t,
      l.invariant.0.0,
    )

pub loop-i-preserved : goal.loop-i-preserved
loop-i-preserved c = let a = c.args in let l = c.loop-i in let r = c.put_if-at in (
  gathered-turn a.inside a.x.now a.s.now l.out _ l.left l.i l.at c.is_chosen.result _ (omega arith) (omega (arith, c.requires.1)) c.is_chosen.ensures
      c.is_wanted-hit.ensures l.invariant.0 _ _ _ (l.invariant.1 ∙ c.requires.2) r.auto.out r.ensures.0 r.ensures.1 c.left_after-left.ensures,
  r.auto.out ∙ l.invariant.1,
)

pub returns : goal.returns
returns c = let a = c.args in let l = c.loop-i in
    gathered-end a.inside a.x.now a.s.now l.out _ l.left l.i l.at (omega arith) c.requires.1 (l.invariant.1 ∙ c.requires.2) l.invariant.0
