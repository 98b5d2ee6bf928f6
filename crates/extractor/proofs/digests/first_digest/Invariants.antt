-- The loop's invariant: the digests of the axes before this one are the same.
use Rattle.std.proofs.Common.{false, ℕ, ◌<◌, ◌≡◌}
use Rattle.extractor.specs.Comparison.{digest_at, apart}
use Rattle.extractor.proofs.digests.first_digest.Given as goal

abbrev pub invariant-loop-axis : goal.invariant-loop-axis
invariant-loop-axis l = (k : ℕ) → k < l.axis → apart (digest_at l.p l.prefix l.rows) (digest_at l.p l.prefix l.others) k ≡ false
