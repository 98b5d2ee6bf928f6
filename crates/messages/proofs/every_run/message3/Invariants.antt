-- The loop's invariant: h' of the first e runs stands at the front.
use Rattle.std.proofs.Common.{List, take, ℕ, ◌*◌}
use Rattle.parameters.specs.declared.Parameters.{Parameters}
use Rattle.layout.specs.Layout.{work_length}
use Rattle.exchange.specs.Sequences.{joined}
use Rattle.exchange.specs.Values.{key_of}
use Rattle.messages.proofs.Laws.EveryRun.{Cleared, Placed, response}
use Rattle.messages.specs.Run.{salt_in, root_in}
use Rattle.messages.proofs.every_run.message3.Given as goal

abbrev pub responses : Parameters → List ℕ → List ℕ → List ℕ → List ℕ → List ℕ → ℕ → List ℕ
responses p x seeds message2 matrix y e = response p (take p.m x) (salt_in seeds) (root_in seeds) (key_of matrix y) message2 e

abbrev pub invariant-loop-e : goal.invariant-loop-e
invariant-loop-e l =
    Cleared (work_length l.p) l.e l.initial.work l.work × Placed (joined (responses l.p l.x l.seeds l.message2 l.matrix l.y) l.e) l.initial.out l.out (32 * l.e)
