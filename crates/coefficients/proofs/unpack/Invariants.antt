-- The loop's invariant: the first i shares are written (`blocks-turn`).
use Rattle.std.proofs.Common.{length}
use Rattle.packed.specs.Share.{share}
use Rattle.points.specs.Blocks.{Blocks}
use Rattle.coefficients.proofs.unpack.Given as goal

abbrev pub invariant-loop-i : goal.invariant-loop-i
invariant-loop-i l = Blocks (λ j. share j l.words) (length l.words) l.initial.rows l.rows l.i
