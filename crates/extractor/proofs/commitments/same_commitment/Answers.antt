-- A leaf that is the same in both openings has one commitment (`commitment-same`); of any other both are made, then compared.
use Rattle.std.proofs.Common.{ap₂, sym, ◌∙◌}
use Rattle.lists.specs.Equal.{eq_list}
use Rattle.extractor.specs.Comparison.Same.{commitment-same}
use Rattle.extractor.specs.Opened.{seen}
use Rattle.extractor.proofs.commitments.same_commitment.Goals as goal

pub returns-then-leaf_agrees : goal.returns-then-leaf_agrees
returns-then-leaf_agrees c = let a = c.args in
    commitment-same a.p a.prefix.now (seen a.p a.first) (seen a.p a.second) a.leaf (sym c.leaf_agrees.ensures ∙ c.if-leaf_agrees.true)

pub returns : goal.returns
returns c = c.equal.ensures ∙ ap₂ eq_list c.commitment_at.ensures c.commitment_at-2.ensures
