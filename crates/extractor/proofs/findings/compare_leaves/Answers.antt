-- Each return has what the searches before it found (`Steps`).
use Rattle.std.proofs.Common.{ap, sym, ◌∙◌}
use Rattle.extractor.specs.Comparison.Steps.{commitment-apart, leaf_apart, all-equal}
use Rattle.extractor.specs.Difference.{named, difference_of}
use Rattle.extractor.proofs.findings.compare_leaves.Goals as goal

pub returns-then-is_some : goal.returns-then-is_some
returns-then-is_some c = sym (ap difference_of (commitment-apart _ _ _ _ _ c.first_commitment.ensures (sym c.is_some.ensures ∙ c.if-is_some.true)))

pub returns-in_err-leaf : goal.returns-in_err-leaf
returns-in_err-leaf c = ap named c.from_residual.ensures
    ∙ sym (ap difference_of (all-equal _ _ _ _ _ c.first_commitment.ensures (sym c.is_some.ensures ∙ c.if-is_some.false) _ c.first_leaf.ensures (c.in_err-leaf.was)))

pub returns : goal.returns
returns c =
    sym (ap difference_of (leaf_apart _ _ _ _ _ c.first_commitment.ensures (sym c.is_some.ensures ∙ c.if-is_some.false) _ c.first_leaf.ensures _ (c.in_ok-leaf.was)))
