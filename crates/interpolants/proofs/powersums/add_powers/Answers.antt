use Rattle.std.proofs.Common.{ap, arith, length, length-set, refl, rules, ℕ, ◌*◌, ◌+◌, ◌-◌, ◌<◌, ◌∙◌}
use Rattle.lists.specs.Xor.{◌⊕◌}
use Rattle.bytefield.specs.Powers.{power}
use Rattle.packed.specs.Word.{scaled}
use Rattle.interpolants.specs.Added.{added-first, added_next, added-at}
use Rattle.interpolants.proofs.Laws.Classes.{power-next}
use Rattle.interpolants.proofs.powersums.add_powers.Goals as goal
use Rattle.interpolants.proofs.powersums.add_powers.Goals.{In-loop-j}

-- the next entry is there
within : (c : In-loop-j) → c.args.o + c.args.step * c.loop-j.j < length c.loop-j.acc
within c =
    let p = c.loop-j in let (hs, he, ht, hl, places) = c.requires in
    omega (arith, places p.j c.loop-j-test.true, p.invariant.2)

pub loop-j-init : goal.loop-j-init
loop-j-init c = (search rules, ap power (omega arith), refl, λ v t. added-first _ _ _)

pub loop-j-preserved : goal.loop-j-preserved
unfolding ◌⊕◌
loop-j-preserved c = let p = c.loop-j in let i = p.invariant in let l = length c.args.acc.now in let place = c.args.o + c.args.step * p.j in (
  c.wrapped-k.ensures.0,
  power-next _ _ _ _ _ i.1 c.wrapped-k.ensures.1,
  simp length-set i.2,
  λ v e. added_next l _ (i.3 v e) (added-at l p.acc _ _ _ _ (omega (arith, within (goal.at.loop-j-preserved c).In-loop-j)) (ap (λ (n : ℕ). n - 1 - place) i.2)
      (c.times.ensures.word v e ∙ ap (scaled v) (c.power_of.ensures ∙ i.1))),
)
