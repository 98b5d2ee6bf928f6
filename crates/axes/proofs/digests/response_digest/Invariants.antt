-- The loop's invariant: the digests of the first j axes are absorbed (`streamed-turn`).
use Rattle.std.proofs.Common.{◌≡◌}
use Rattle.axes.proofs.Laws.Streamed.{streamed}
use Rattle.axes.proofs.digests.response_digest.Given as goal

abbrev pub invariant-loop-j : goal.invariant-loop-j
invariant-loop-j l = l.all ≡ streamed l.fn.p l.prefix l.rows l.j
