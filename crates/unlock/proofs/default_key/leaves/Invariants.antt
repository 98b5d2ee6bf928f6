-- The loop's invariant: the bytes so far are divided by the number of leaves, and their rests are left (`rests-more`).
use Rattle.std.proofs.Common.{length, map, ◌%◌, ◌≡◌}
use Rattle.lists.specs.Blend.{blend}
use Rattle.unlock.proofs.default_key.leaves.Given as goal

abbrev pub invariant-loop-b : goal.invariant-loop-b
invariant-loop-b l = (l.out ≡ blend l.b-index (map (λ b. b % l.n) l.initial.out) l.initial.out) × (length l.out ≡ length l.initial.out)
