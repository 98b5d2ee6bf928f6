use Rattle.std.proofs.Common.{ap, arith, subst, zero-mul, ℕ, ◌*◌, ◌+◌, ◌∙◌, ◌≡◌}
use Rattle.values.specs.Position.Laws.{EachTo, to_none, to-turn, to_end}
use Rattle.values.specs.Products.{products_at, products-few, products-turn}
use Rattle.values.proofs.announce_each.Goals as goal

pub loop-l-init : goal.loop-l-init
loop-l-init c = let z = zero-mul (products_at c.args.p c.args.n) in (
  (λ key given. to_none c.args.p key c.args.message2.now c.args.first c.args.n c.args.shares.now _
      c.requires.sized-out),
  omega arith,
)

pub overflow_add-made : goal.overflow_add-made
overflow_add-made c = let w = c.requires.within in
    let few = products-few c.args.p c.args.n (c.loop-l.l + 1) w c.requires.few (omega (arith, c.loop-l-test.true, w.t-most)) in
    let e = products-turn c.args.p c.args.n c.loop-l.l _ _ c.loop-l.invariant.1 (ap (◌+◌ c.loop-l.made) c.announce_at-made.ensures.1) in
    omega arith

pub loop-l-preserved : goal.loop-l-preserved
loop-l-preserved c = let i = c.loop-l.invariant in (
  (λ key given. to-turn c.args.p key c.args.message2.now c.args.first c.args.n c.args.shares.now c.loop-l.out _ c.loop-l.l
      c.loop-l-test.true
      (c.announce_at-made.ensures.0 key given) (i.0 key given)),
  products-turn c.args.p c.args.n c.loop-l.l _ _ i.1 (ap (◌+◌ c.loop-l.made) c.announce_at-made.ensures.1),
)

pub returns : goal.returns
returns c = let i = c.loop-l.invariant in let e : c.loop-l.l ≡ c.args.p.t = omega (arith, c.loop-l-test.false) in (
  (λ key given. to_end c.args.p key c.args.message2.now c.args.first c.args.n c.args.shares.now _
      (subst (EachTo c.args.p key c.args.message2.now c.args.first c.args.n c.args.shares.now c.loop-l.out) e (i.0 key given))),
  i.1 ∙ ap (λ (k : ℕ). k * products_at c.args.p c.args.n) e,
)
