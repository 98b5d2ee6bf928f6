-- The loop's invariant: message 5 of the first e runs stands at the front, for every y of the key.
use Rattle.std.proofs.Common.{List, take, ℕ, ◌≡◌}
use Rattle.parameters.specs.declared.Parameters.{Parameters}
use Rattle.layout.specs.Layout.{work_length}
use Rattle.layout.specs.Runs.{message5_place}
use Rattle.exchange.specs.Sequences.{joined}
use Rattle.exchange.specs.Values.{key_of}
use Rattle.messages.proofs.Laws.EveryRun.{Cleared, Placed, opening}
use Rattle.messages.specs.Run.{salt_in, root_in}
use Rattle.messages.proofs.every_run.message5.Given as goal

abbrev pub openings : Parameters → List ℕ → List ℕ → List ℕ → List ℕ → List ℕ → List ℕ → ℕ → List ℕ
openings p x seeds message2 leaves matrix y e = opening p (take p.m x) (salt_in seeds) (root_in seeds) (key_of matrix y) message2 leaves e

abbrev pub invariant-loop-e : goal.invariant-loop-e
invariant-loop-e l =
    (l.at ≡ message5_place l.p l.leaves l.e) × Cleared (work_length l.p) l.e l.initial.work l.work
    × ((y : List ℕ) → Placed (joined (openings l.p l.x l.seeds l.message2 l.leaves l.matrix y) l.e) l.initial.out l.out l.at)
