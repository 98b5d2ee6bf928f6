use Rattle.std.proofs.Common.{List, ap, arith, get_or, length, length-set, refl, set, ℕ, ◌+◌, ◌∙◌, ◌≡◌}
use lib.Seq.{paste}
use Rattle.lists.specs.Part.Laws.{put_at-none, put_at-more, put_at-all}
use Rattle.lists.proofs.put_at.Goals as goal

pub loop-i-init : goal.loop-i-init
loop-i-init c = (put_at-none _ c.args.at c.args.s.now, refl)

pub loop-i-preserved : goal.loop-i-preserved
loop-i-preserved c =
    let a = c.args in (
      ap (λ (l : List ℕ). set l (a.at + c.loop-i.i) (get_or a.s.now c.loop-i.i 0)) c.loop-i.invariant.0
          ∙ put_at-more a.out.now a.at a.s.now c.loop-i.i (omega arith) (omega arith),
      simp length-set c.loop-i.invariant.1,
    )

pub returns : goal.returns
returns c =
    let a = c.args in
    let e : c.loop-i.i ≡ length a.s.now = omega arith in
    c.loop-i.invariant.0 ∙ ap (λ (k : ℕ). paste a.out.now a.at a.s.now k) e ∙ put_at-all a.out.now a.at a.s.now
