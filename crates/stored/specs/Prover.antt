-- A prover's session as bytes.
--
-- prover_size            how many there are
-- prover_bytes s         phase (`prover_phase_byte`), parameters (`parameter_bytes`), run count, x (255), salt (32), root (16), message 2 (2048)
-- prover_from b          the session that the bytes b are
use Rattle.std.specs.Prelude.{ℕ, List, ◌∷◌, ◌++◌, get_or}
use Rattle.lists.specs.Part.{part}
use Rattle.layout.specs.Maxima.{most_messages2}
use Rattle.prover_phase.specs.Phases.{prover_phase_byte, prover_phase_from}
use Rattle.calls.specs.Prover.{Prover}
use Rattle.stored.specs.Parameters.{parameter_bytes, parameters_from}

abbrev pub prover_size : ℕ
prover_size = 2_358

unfoldable pub prover_bytes : Prover → List ℕ
prover_bytes s = prover_phase_byte s.phase ∷ (parameter_bytes s.parameters ++ (s.runs ∷ (s.x ++ (s.salt ++ (s.root ++ s.message2)))))

unfoldable pub prover_from : List ℕ → Prover
prover_from b = record {
  phase = prover_phase_from (get_or b 0 0);
  parameters = parameters_from b;
  runs = get_or b 6 0;
  x = part b 7 255;
  salt = part b 262 32;
  root = part b 294 16;
  message2 = part b 310 most_messages2;
}
