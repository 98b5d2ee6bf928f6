use Rattle.std.proofs.Common.{ap, arith, inl, inr, length, refl, ◌*◌, ◌∙◌, ◌≡◌, ◌≤◌}
use Rattle.lists.specs.Xor.{◌⊕◌}
use Rattle.lists.specs.Blend.Laws.{blend-none}
use Rattle.tower.specs.Field.{point}
use Rattle.tower.proofs.Field.Laws.{point-bytes_of}
use Rattle.points.specs.Multiples.{word_of}
use Rattle.values.specs.Evaluation.Laws.{place-small, place_inside, terms-turn, terms-end}
use Rattle.values.proofs.evaluation.add_terms.Goals as goal
use Rattle.values.proofs.evaluation.add_terms.Goals.{In-loop-i}

small : (c : In-loop-i) → c.loop-i.i * c.args.stride ≤ 4194304
small c =
    place-small c.loop-i.i c.args.n c.args.stride (omega arith) c.requires.0.few c.requires.0.near

pub loop-i-init : goal.loop-i-init
loop-i-init c = (λ x e. blend-none _ _, omega arith)

pub overflow_mul-c : goal.overflow_mul-c
overflow_mul-c c = omega (arith, small (goal.at.overflow_mul-c c).In-loop-i)

pub overflow_add-c : goal.overflow_add-c
overflow_add-c c = omega (arith, small (goal.at.overflow_add-c c).In-loop-i)

pub bounds-s-at : goal.bounds-s-at
bounds-s-at c = place_inside (length c.args.s.now) c.args.n c.args.stride c.args.at c.loop-i.i (omega arith) c.requires.0.inside

pub counted_product-term-requires : goal.counted_product-term-requires
counted_product-term-requires c = (c.requires.1, inr (refl, refl, refl), omega arith)

pub loop-i-preserved : goal.loop-i-preserved
unfolding ◌⊕◌
loop-i-preserved c = (
  λ x e. terms-turn c.args.s.now _ c.args.stride c.args.at x c.args.values.now c.requires.0.sized _ c.loop-i.i _ (omega arith)
      (c.loop-i.invariant.0 x e)
      (c.word_of.ensures ∙ ap word_of (ap point (c.counted_product-term.ensures.0 x (inl ((refl, refl, refl), e))) ∙ point-bytes_of _)),
  omega (arith, c.counted_product-term.ensures.1),
)

pub returns : goal.returns
returns c =
    let n : c.loop-i.i ≡ c.args.n = omega arith in
    (λ x e. terms-end c.args.s.now _ c.args.stride c.args.at x c.args.values.now c.requires.0.sized _ _ n (c.loop-i.invariant.0 x e), omega arith)
