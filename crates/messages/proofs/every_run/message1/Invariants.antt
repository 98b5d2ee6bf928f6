-- The loop's invariant: behind the salt stands h of the first e runs.
use Rattle.std.proofs.Common.{List, take, ℕ, ◌*◌, ◌++◌, ◌+◌}
use Rattle.shake256.specs.Fips.{SHAKE256}
use Rattle.parameters.specs.declared.Parameters.{Parameters}
use Rattle.layout.specs.Layout.{work_length}
use Rattle.exchange.specs.Sequences.{joined}
use Rattle.runs.specs.Messages.{digest_of}
use Rattle.messages.proofs.Laws.EveryRun.{Cleared, Placed}
use Rattle.messages.specs.Run.{salt_in, root_in}
use Rattle.messages.proofs.every_run.message1.Given as goal

abbrev pub digests : Parameters → ℕ → List ℕ → List ℕ → ℕ → List ℕ
digests p n x seeds e = joined (digest_of SHAKE256 p n (take p.m x) (salt_in seeds) (root_in seeds)) e

abbrev pub invariant-loop-e : goal.invariant-loop-e
invariant-loop-e l =
    Cleared (work_length l.p) l.e l.initial.work l.work × Placed (salt_in l.seeds ++ digests l.p l.runs l.x l.seeds l.e) l.initial.out l.out (32 + 32 * l.e)
