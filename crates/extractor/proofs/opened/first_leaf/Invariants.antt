-- The loop's invariant: the leaves before this one are the same, where both openings open them.
use Rattle.std.proofs.Common.{false, ℕ, ◌<◌, ◌≡◌}
use Rattle.extractor.specs.Comparison.{leaf_at, both_apart}
use Rattle.extractor.proofs.opened.first_leaf.Given as goal

abbrev pub invariant-loop-leaf : goal.invariant-loop-leaf
invariant-loop-leaf l = (k : ℕ) → k < l.leaf → both_apart l.first.hidden l.second.hidden (leaf_at l.p l.first.made.now l.first.aux.now) (leaf_at l.p l.second.made.now l.second.aux.now) k ≡ false
