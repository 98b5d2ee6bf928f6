-- The laws of a verifier's session as bytes.
--
-- VerifierLengths s        the arrays of s have their lengths
-- length-verifier_bytes     a session has `verifier_size` bytes
-- verifier-back            what was written reads as the session again
-- messages-whole           messages 1 to 3 in their places are the whole of the array that holds them
-- fresh-small              each parameter and the run count of a session before its first begin is a byte
use Rattle.std.specs.Prelude.{◌≡◌, refl, ℕ, ◌+◌, List, [], ◌∷◌, ◌++◌, length, get_or, take, drop}
use Rattle.std.proofs.Common.{sym, ap, ◌∙◌, arith, length-append, length-drop, take-append-drop, take_all, drop-drop}
use Rattle.lists.specs.Part.{part}
use Rattle.lists.specs.Part.Laws.{part-whole}
use Rattle.layout.specs.Maxima.{most_runs, most_message1, most_messages2, most_messages3}
use Rattle.verifier_phase.specs.Phases.{verifier_phase_byte}
use Rattle.verifier_phase.proofs.Laws.Phases.{phase-back}
use Rattle.calls.specs.Verifier.{Verifier, fresh}
use Rattle.parameters.specs.Set.{set_length, numbers_of, parameters_of}
use Rattle.parameters.specs.Set.Laws.{length-numbers}
use Rattle.verifier.specs.Held.{held_length, message1_in, message2_in, message3_in}
use Rattle.stored.specs.Parameters.{Small, parameter_bytes}
use Rattle.stored.proofs.Laws.Parts.{read-front, read_behind}
use Rattle.stored.specs.Verifier.{verifier_size, verifier_bytes, verifier_from}

pub record VerifierLengths (s : Verifier) : Type 0 where
  pub message1 : length s.message1 ≡ most_message1
  pub message2 : length s.message2 ≡ most_messages2
  pub message3 : length s.message3 ≡ most_messages3
  pub leaves : length s.leaves ≡ most_runs

pub length-verifier_bytes : (s : Verifier) → VerifierLengths s → length (verifier_bytes s) ≡ verifier_size
unfolding verifier_bytes
length-verifier_bytes s h = simp length-append (omega arith)

pub verifier-back : (s : Verifier) → VerifierLengths s → verifier_from (verifier_bytes s) ≡ s
unfolding verifier_bytes verifier_from
verifier-back s h = λ i. record {
  phase = phase-back s.phase i;
  parameters = ap parameters_of set i;
  runs = count i;
  message1 = (behind 0 most_message1 ∙ read-front s.message1 _ most_message1 h.message1) i;
  message2 =
      (behind 1_056 most_messages2 ∙ read_behind s.message1 _ most_message1 0 most_messages2 h.message1
      ∙ read-front s.message2 _ most_messages2 h.message2) i;
  message3 =
      (behind 3_104 most_messages3 ∙ read_behind s.message1 _ most_message1 2_048 most_messages3 h.message1
      ∙ read_behind s.message2 _ most_messages2 0 most_messages3 h.message2 ∙ read-front s.message3 _ most_messages3 h.message3) i;
  leaves =
      (behind 4_128 most_runs ∙ read_behind s.message1 _ most_message1 3_072 most_runs h.message1
      ∙ read_behind s.message2 _ most_messages2 1_024 most_runs h.message2
      ∙ read_behind s.message3 _ most_messages3 0 most_runs h.message3 ∙ part-whole s.leaves most_runs (omega arith)) i;
}
  where
    set : part (verifier_bytes s) 1 set_length ≡ numbers_of s.parameters
    set =
        read_behind (verifier_phase_byte s.phase ∷ []) _ 1 0 set_length refl
        ∙ read-front (numbers_of s.parameters) _ set_length (length-numbers s.parameters)

    count : get_or (verifier_bytes s) 6 0 ≡ s.runs
    count = refl

    behind : (at n : ℕ) → part (verifier_bytes s) (7 + at) n ≡ part (s.message1 ++ (s.message2 ++ (s.message3 ++ s.leaves))) at n
    behind at n = read_behind (verifier_phase_byte s.phase ∷ (parameter_bytes s.parameters ++ (s.runs ∷ []))) _ 7 at n refl

pub messages-whole : (m : List ℕ) → length m ≡ held_length → message1_in m ++ (message2_in m ++ message3_in m) ≡ m
unfolding message1_in message2_in message3_in part
messages-whole m h =
    let rest : List ℕ = drop most_message1 m in
    ap (λ (b : List ℕ). take most_message1 m ++ (take most_messages2 rest ++ b))
    (ap (take most_messages3) (sym (drop-drop most_messages2 most_message1 m))
    ∙ take_all most_messages3 (drop most_messages2 rest) (omega (arith, length-drop most_messages2 rest, length-drop most_message1 m)))
    ∙ ap (λ (a : List ℕ). take most_message1 m ++ a) (take-append-drop most_messages2 rest)
    ∙ take-append-drop most_message1 m

pub fresh-small : (s : Verifier) → s ≡ fresh → Small s.parameters s.runs
unfolding fresh
fresh-small s e =
    rw (ap (λ (z : Verifier). z.parameters) e, ap (λ (z : Verifier). z.runs) e)
    (omega arith, (omega arith, (omega arith, (omega arith, (omega arith, (omega arith, tt))))))
