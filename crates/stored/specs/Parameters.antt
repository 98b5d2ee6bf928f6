-- The parameters of a session as bytes: the numbers of their set, one byte each, behind the phase.
--
-- parameter_bytes p      the bytes
-- parameters_from b      the parameters in a session's bytes b
-- Bytes ns              each of the numbers ns is a byte
-- Small p runs          each number of the parameters and the run count is
-- within-small          those within their limits are
-- parameters-read       the parameters from their bytes one by one
use Rattle.std.specs.Prelude.{◌≡◌, ℕ, ◌<◌, List, [], ◌∷◌, ◌++◌, get_or}
use Rattle.std.proofs.Common.{arith}
use Rattle.lists.specs.Part.{part}
use Rattle.lists.specs.Part.Laws.{get_d_part}
use Rattle.parameters.specs.declared.Parameters.{Parameters}
use Rattle.parameters.specs.Limits.{Within}
use Rattle.layout.specs.Runs.Laws.{RunsWithin}
use Rattle.parameters.specs.Set.{set_length, numbers_of, parameters_of}

abbrev pub parameter_bytes : Parameters → List ℕ
parameter_bytes p = numbers_of p

abbrev pub parameters_from : List ℕ → Parameters
parameters_from b = parameters_of (part b 1 set_length)

abbrev pub Bytes : List ℕ → Type 0
Bytes [] = Unit {0}
Bytes (n ∷ ns) = (n < 256) × Bytes ns

abbrev pub Small : Parameters → ℕ → Type 0
Small p runs = Bytes (numbers_of p ++ (runs ∷ []))

pub within-small : (p : Parameters) (runs : ℕ) → Within p → RunsWithin runs → Small p runs
within-small p runs h r = (omega arith, (omega arith, (omega arith, (omega arith, (omega arith, (omega (arith, r.most), tt))))))

pub parameters-read : (b : List ℕ) → parameters_of (get_or b 1 0 ∷ get_or b 2 0 ∷ get_or b 3 0 ∷ get_or b 4 0 ∷ get_or b 5 0 ∷ []) ≡ parameters_from b
parameters-read b =
    rw (
      get_d_part b 1 5 0 (omega arith),
      get_d_part b 1 5 1 (omega arith),
      get_d_part b 1 5 2 (omega arith),
      get_d_part b 1 5 3 (omega arith),
      get_d_part b 1 5 4 (omega arith),
    )
