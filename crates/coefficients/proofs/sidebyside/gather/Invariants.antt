-- The loop's invariant: the first i shares are in the words, and the other bytes are zero; a turn adds share i (`gathered-more`).
use Rattle.coefficients.specs.Shares.{Gathered}
use Rattle.coefficients.proofs.sidebyside.gather.Given as goal

abbrev pub invariant-loop-i : goal.invariant-loop-i
invariant-loop-i l = Gathered l.size l.shares l.from l.count l.i l.words
