-- The loop's invariant, downwards: what stands from j on is expanded (`expanded-turn`).
use Rattle.polynomial.specs.Loops.Newton.{Expanded}
use Rattle.polynomial.proofs.from_newton.Given as goal

abbrev pub invariant-loop-j : goal.invariant-loop-j
invariant-loop-j l = Expanded l.points l.j l.x l.initial.x
