-- The loop's invariant: the first j places are done, and Newton's form of what stands behind completes them (`newton-turn`).
use Rattle.polynomial.specs.Loops.Newton.{Passed}
use Rattle.polynomial.proofs.to_newton.Given as goal

abbrev pub invariant-loop-j : goal.invariant-loop-j
invariant-loop-j l = Passed l.points l.j l.x l.initial.x
