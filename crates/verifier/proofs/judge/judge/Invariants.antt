-- The loop's invariant is `Turned`: before run e all runs are accepted, and the work area's named length is zeros once a run was judged.
use Rattle.exchange.specs.Values.{key_of}
use Rattle.verifier.specs.Judging.{transcript_in, Turned}
use Rattle.verifier.proofs.judge.judge.Given as goal

abbrev pub invariant-loop-e : goal.invariant-loop-e
invariant-loop-e l = Turned l.p (transcript_in l.messages l.leaves l.message5) (key_of l.matrix l.y) l.initial.work l.e l.place l.work
