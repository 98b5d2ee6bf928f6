use Rattle.std.proofs.Common.{List, ap, arith, get_or, length, length-set, refl, set, take, ℕ, ◌∙◌, ◌≡◌}
use lib.Seq.{take-length}
use Rattle.lists.specs.Xor.{◌⊕◌}
use Rattle.lists.specs.Sum.{xor_list}
use Rattle.lists.specs.Sum.Laws.{xor_list-none, xor_list-more}
use Rattle.lists.proofs.xor_into.Goals as goal

pub loop-i-init : goal.loop-i-init
loop-i-init c = (xor_list-none _ c.args.t.now, refl)

pub loop-i-preserved : goal.loop-i-preserved
unfolding ◌⊕◌
loop-i-preserved c =
    let a = c.args in (
      ap (λ (l : List ℕ). set l c.loop-i.i (get_or l c.loop-i.i 0 ⊕ get_or a.t.now c.loop-i.i 0)) c.loop-i.invariant.0
          ∙ xor_list-more a.s.now a.t.now c.loop-i.i (omega arith) (omega arith),
      simp length-set c.loop-i.invariant.1,
    )

pub returns : goal.returns
returns c =
    let a = c.args in
    let e : c.loop-i.i ≡ length a.t.now = omega arith in
    c.loop-i.invariant.0 ∙ ap (λ (k : ℕ). xor_list a.s.now (take k a.t.now)) e ∙ ap (xor_list a.s.now) (take-length a.t.now)
