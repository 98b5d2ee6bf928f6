-- A sample of what demand 2's last clause supposes.
--
-- sample, sample_key, sample_x_a   the set, matrix, syndrome and key of document 01's key listing
-- blank                         slices of zeros, of the least lengths that fit
-- begun_with salt root           one begin, of two runs
use Rattle.std.specs.Prelude.{ℕ, replicate}
use mathlib.Core.List.{List, [], ◌∷◌}
use Rattle.parameters.specs.declared.Parameters.{Parameters}
use Rattle.layout.specs.Layout.{work_length}
use Rattle.layout.specs.Runs.{message1_length, messages3_length, messages5_length}
use Rattle.exchange.specs.Values.{Key}
use Rattle.calls.specs.Prover.History.{Begin, Call, begin_call}
use Rattle.claims.specs.Completeness.{Slices}

abbrev pub sample : Parameters
sample = record { m = 2; k = 1; w = 1; axes = 1; t = 1 }

abbrev pub sample_key : Key
sample_key = record { matrix = 0x01 ∷ []; y = 0x05 ∷ [] }

abbrev pub sample_x_a : List ℕ
sample_x_a = 0x05 ∷ []

abbrev pub blank : Parameters → ℕ → List ℕ → Slices
blank p runs is = record {
  begin-work = replicate (work_length p) 0;
  begin-out = replicate (message1_length runs) 0;
  points-work = replicate (work_length p) 0;
  points-out = replicate (messages3_length runs) 0;
  leaf-work = replicate (work_length p) 0;
  leaf-out = replicate (messages5_length p is) 0;
  opening-work = replicate (work_length p) 0;
}

-- ---- after a begin

module _ (salt root : List ℕ) where
  abbrev pub sample_begin : Begin
  sample_begin = record { parameters = sample; runs = 2; x_a = sample_x_a; salt = salt; root = root; key = sample_key }

  abbrev pub begun_with : List Call
  begun_with = begin_call sample_begin (blank sample 2 (0 ∷ 0 ∷ [])).begin-work (blank sample 2 (0 ∷ 0 ∷ [])).begin-out ∷ []
