-- What the arguments of a prover's begin must be.
--
-- Allowed b work out       a begin's arguments pass their checks: parameters and run count, lengths, weight
use Rattle.std.specs.Prelude.{◌≡◌, true, List, ℕ, ◌≤◌}
use Rattle.lists.specs.Checks.{all_true}
use Rattle.parameters.specs.Limits.{Within}
use Rattle.relation.specs.Key.{weight_of}
use Rattle.layout.specs.Runs.Laws.{RunsWithin}
use Rattle.calls.specs.Lengths.{begin_lengths}
use Rattle.calls.specs.Prover.History.{Begin, secret_of}

pub record Allowed (b : Begin) (work out : List ℕ) : Type 0 where
  pub within : Within b.parameters
  pub counted : RunsWithin b.runs
  pub sized : all_true (begin_lengths b.parameters b.runs b.x_a b.salt b.root b.key work out) ≡ true
  pub light : weight_of (secret_of b) ≤ b.parameters.w
