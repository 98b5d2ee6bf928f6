use Rattle.std.proofs.Common.{ap, arith, length, replicate, zero-mul, ℕ, ◌*◌, ◌+◌, ◌-◌, ◌∙◌, ◌≡◌}
use Rattle.values.specs.Evaluation.Laws.{count_turn, count-twice, terms-ready, values-none, values-turn, power-none, power-point, power-turn}
use Rattle.values.proofs.evaluation.values_at.Goals as goal

pub loop-at-init : goal.loop-at-init
loop-at-init c =
    let z = zero-mul (c.args.n + 1) in let none : c.args.from - c.args.from ≡ 0 = omega arith in
    rw none (
      λ x e. (
        values-none c.args.s.now c.args.n c.args.stride c.args.from x _
            (c.clear.ensures ∙ ap (λ (m : ℕ). replicate m 0) c.requires.0.sized),
        power-none x,
      ),
      omega arith,
    )

pub next_term-power-requires : goal.next_term-power-requires
next_term-power-requires c =
    let g = c.loop-at in
    let sized : length g.values ≡ c.args.n = omega (arith, c.clear, c.requires.0.sized) in
    (terms-ready _ _ _ _ _ _ (g.at - c.args.from) _ _ _ c.requires.0 (omega arith) (omega arith) sized g.invariant.1, c.requires.1)

pub loop-at-preserved : goal.loop-at-preserved
loop-at-preserved c =
    let g = c.loop-at in let i = g.invariant in let j : ℕ = g.at - c.args.from in
    let k : g.at + 1 - c.args.from ≡ j + 1 = omega arith in (
      λ x e. (
        values-turn c.args.s.now _ _ _ j _ _ x _ _ _ k (omega arith) (power-point x g.power.point j (i.0 x e).1) (i.0 x e).0
            c.next_term-power.ensures.0,
        power-turn x g.power.point _ j _ k (i.0 x e).1 (c.next_term-power.ensures.1 x e),
      ),
      c.next_term-power.ensures.2 ∙ count_turn c.args.n j _ g.power.made k i.1,
    )

pub returns : goal.returns
returns c = let i = c.loop-at.invariant in
    let e : c.loop-at.at - c.args.from ≡ c.args.len = omega arith in
    let n : c.loop-at.power.made ≡ c.args.len * (c.args.n + 1) = rw e at i.1 in (
      λ x t. rw e at (i.0 x t),
      n,
      λ h. let b = count-twice c.args.n c.args.len h in omega arith,
    )
