-- The loop's invariant: the sponge has absorbed the start of layer 5 and the first i commitments. A turn absorbs one more
-- (`committed-more`).
use Rattle.std.proofs.Common.{◌≡◌}
use Rattle.leaves.specs.Commitments.{commitments_of, committed}
use Rattle.leaves.proofs.commitments.digest_commitments.Given as goal

abbrev pub invariant-loop-i : goal.invariant-loop-i
invariant-loop-i l =
    l.all ≡ committed l.prefix (commitments_of l.p l.prefix l.states l.hidden_leaf l.given l.aux) l.i
