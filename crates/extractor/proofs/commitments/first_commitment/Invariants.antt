-- The loop's invariant: the commitments of the leaves before this one are the same.
use Rattle.std.proofs.Common.{false, ℕ, ◌<◌, ◌≡◌}
use Rattle.extractor.specs.Comparison.{commitments, apart}
use Rattle.extractor.specs.Opened.{seen}
use Rattle.extractor.proofs.commitments.first_commitment.Given as goal

abbrev pub invariant-loop-leaf : goal.invariant-loop-leaf
invariant-loop-leaf l = (k : ℕ) → k < l.leaf → apart (commitments l.p l.prefix (seen l.p l.first)) (commitments l.p l.prefix (seen l.p l.second)) k ≡ false
