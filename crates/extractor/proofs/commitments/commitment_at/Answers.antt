-- The hidden leaf's commitment is copied; any other leaf's is made of its state.
use Rattle.std.proofs.Common.{List, ap, arith, sym, ℕ, ◌*◌, ◌∙◌}
use Rattle.lists.specs.Part.Laws.{lent-part}
use Rattle.leaves.specs.After.{commitment_after}
use Rattle.leaves.specs.After.Laws.{commitment-begun}
use Rattle.leaves.specs.Commitments.Laws.{commitments_of-hidden, commitments_of-other}
use Rattle.layout.specs.Layout.Bounds.{leaves-most}
use Rattle.openings.specs.Parts.Laws.{commitment-lent}
use Rattle.extractor.proofs.commitments.commitment_at.Goals as goal

pub returns-then-leaf-opening : goal.returns-then-leaf-opening
returns-then-leaf-opening c =
    c.copy.ensures ∙ commitment-lent c.args.p c.args.opening.made.now c.rows_end-at.ensures ∙ sym
    (commitments_of-hidden _ _ _ _ _ _ _ c.if-leaf-opening.true)

pub leaf_commitment-requires : goal.leaf_commitment-requires
leaf_commitment-requires c =
    let a = c.requires.room in
    record { of = record { within = c.requires.within; number = omega (arith, c.requires.below, leaves-most c.args.p c.requires.within) }; room = a }

pub returns : goal.returns
returns c = let a = c.args in
    c.leaf_commitment.ensures ∙ ap
    (λ (state : List ℕ). commitment_after c.begin-start.result a.p a.leaf state a.opening.aux.now) (lent-part a.opening.made.now (32 * a.leaf) 32) ∙
    commitment-begun _ _ _ _ _ _ c.begin-start.ensures ∙ sym (commitments_of-other _ _ _ _ _ _ _ c.if-leaf-opening.false)
