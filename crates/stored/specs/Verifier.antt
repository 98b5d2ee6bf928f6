-- A verifier's session as bytes.
--
-- verifier_size          how many there are
-- verifier_bytes s       phase (`verifier_phase_byte`), parameters (`parameter_bytes`), run count, message 1 (1056), message 2 (2048), message 3 (1024),
--                       leaves (32)
-- verifier_from b        the session that the bytes b are
use Rattle.std.specs.Prelude.{ℕ, List, ◌∷◌, ◌++◌, get_or}
use Rattle.lists.specs.Part.{part}
use Rattle.layout.specs.Maxima.{most_runs, most_message1, most_messages2, most_messages3}
use Rattle.verifier_phase.specs.Phases.{verifier_phase_byte, verifier_phase_from}
use Rattle.calls.specs.Verifier.{Verifier}
use Rattle.stored.specs.Parameters.{parameter_bytes, parameters_from}

abbrev pub verifier_size : ℕ
verifier_size = 4_167

unfoldable pub verifier_bytes : Verifier → List ℕ
verifier_bytes s =
    verifier_phase_byte s.phase ∷ (parameter_bytes s.parameters ++ (s.runs ∷ (s.message1 ++ (s.message2 ++ (s.message3 ++ s.leaves)))))

unfoldable pub verifier_from : List ℕ → Verifier
verifier_from b = record {
  phase = verifier_phase_from (get_or b 0 0);
  parameters = parameters_from b;
  runs = get_or b 6 0;
  message1 = part b 7 most_message1;
  message2 = part b 1_063 most_messages2;
  message3 = part b 3_111 most_messages3;
  leaves = part b 4_135 most_runs;
}
