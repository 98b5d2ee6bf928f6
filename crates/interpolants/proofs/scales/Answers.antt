use Rattle.std.proofs.Common.{List, ap, arith, drop-set-lt, length-set, refl, ℕ, ◌+◌, ◌∙◌, ◌≡◌}
use Rattle.lists.specs.Part.Laws.{tail-part}
use Rattle.algebra.specs.Polynomial.{eval}
use Rattle.bytefield.specs.Product.{◌⊗◌, byte_ops}
use Rattle.interpolants.specs.Complement.{complement_of}
use Rattle.interpolants.proofs.Laws.Loops.{scales-turn, scales-end}
use Rattle.interpolants.proofs.scales.Goals as goal

pub loop-i-preserved : goal.loop-i-preserved
loop-i-preserved c = let m = c.args.m in let i = c.loop-i.i in (
  scales-turn (complement_of m) m i i (i + 1) c.product.result c.loop-i.out (omega arith) (omega arith) refl
      (c.product.ensures ∙ ap (◌⊗◌ _) (c.value-v.ensures ∙ ap (λ (g : List ℕ). eval byte_ops g (i + 1)) (tail-part c.loop-i.out m ∙ c.loop-i.invariant.2))) c.loop-i.invariant.0,
  simp length-set c.loop-i.invariant.1,
  drop-set-lt m c.loop-i.out i _ (omega arith) ∙ c.loop-i.invariant.2,
)

pub returns : goal.returns
returns c = let m = c.args.m in
    let e : c.loop-i.i ≡ m = omega arith in
    scales-end (complement_of m) m m c.loop-i.out refl c.loop-i.invariant.2 (rw e at c.loop-i.invariant.0)
