-- The loop's invariant: after c-index turns the lanes are those of the first c-index rounds. It holds by what `round` promises.
use Rattle.std.proofs.Common.{◌≡◌}
use Rattle.fips.specs.Permutation.{rounds}
use Rattle.keccak.proofs.permute.Given as goal

abbrev pub invariant-loop-c : goal.invariant-loop-c
invariant-loop-c l = l.b ≡ rounds l.c-index l.initial.b
