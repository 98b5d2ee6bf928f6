-- Each field is what its function promises.
use Rattle.lists.specs.Part.{part}
use Rattle.stored.specs.Prover.{prover_from}
use Rattle.stored.proofs.read_prover.Goals as goal

pub returns : goal.returns
unfolding prover_from part
returns c = λ i. record {
  phase = c.from-phase.ensures i;
  parameters = c.read_parameters-parameters.ensures i;
  runs = c.from-runs.ensures i;
  x = c.array-x.ensures i;
  salt = c.array-salt.ensures i;
  root = c.array-root.ensures i;
  message2 = c.array-message2.ensures i;
}
