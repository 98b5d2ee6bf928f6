-- The laws of a prover's session as bytes.
--
-- ProverLengths s         the arrays of s have their lengths
-- length-prover_bytes      a session has `prover_size` bytes
-- prover-back             what was written reads as the session again
-- fresh-small             each parameter and the run count of a session before its first begin is a byte
use Rattle.std.specs.Prelude.{◌≡◌, refl, ℕ, ◌+◌, [], ◌∷◌, ◌++◌, length, get_or}
use Rattle.std.proofs.Common.{ap, ◌∙◌, arith, length-append}
use Rattle.lists.specs.Part.{part}
use Rattle.lists.specs.Part.Laws.{part-whole}
use Rattle.layout.specs.Maxima.{most_messages2}
use Rattle.prover_phase.specs.Phases.{prover_phase_byte}
use Rattle.prover_phase.proofs.Laws.Phases.{phase-back}
use Rattle.calls.specs.Prover.{Prover, fresh}
use Rattle.parameters.specs.Set.{set_length, numbers_of, parameters_of}
use Rattle.parameters.specs.Set.Laws.{length-numbers}
use Rattle.stored.specs.Parameters.{Small, parameter_bytes}
use Rattle.stored.proofs.Laws.Parts.{read-front, read_behind}
use Rattle.stored.specs.Prover.{prover_size, prover_bytes, prover_from}

pub record ProverLengths (s : Prover) : Type 0 where
  pub x : length s.x ≡ 255
  pub salt : length s.salt ≡ 32
  pub root : length s.root ≡ 16
  pub message2 : length s.message2 ≡ most_messages2

pub length-prover_bytes : (s : Prover) → ProverLengths s → length (prover_bytes s) ≡ prover_size
unfolding prover_bytes
length-prover_bytes s h = simp length-append (omega arith)

pub prover-back : (s : Prover) → ProverLengths s → prover_from (prover_bytes s) ≡ s
unfolding prover_bytes prover_from
prover-back s h = λ i. record {
  phase = phase-back s.phase i;
  parameters = ap parameters_of set i;
  runs = count i;
  x = (behind 0 255 ∙ read-front s.x _ 255 h.x) i;
  salt = (behind 255 32 ∙ read_behind s.x _ 255 0 32 h.x ∙ read-front s.salt _ 32 h.salt) i;
  root = (behind 287 16 ∙ read_behind s.x _ 255 32 16 h.x ∙ read_behind s.salt _ 32 0 16 h.salt ∙ read-front s.root _ 16 h.root) i;
  message2 =
      (behind 303 most_messages2 ∙ read_behind s.x _ 255 48 most_messages2 h.x ∙ read_behind s.salt _ 32 16 most_messages2 h.salt
      ∙ read_behind s.root _ 16 0 most_messages2 h.root ∙ part-whole s.message2 most_messages2 (omega arith)) i;
}
  where
    set : part (prover_bytes s) 1 set_length ≡ numbers_of s.parameters
    set =
        read_behind (prover_phase_byte s.phase ∷ []) _ 1 0 set_length refl
        ∙ read-front (numbers_of s.parameters) _ set_length (length-numbers s.parameters)

    count : get_or (prover_bytes s) 6 0 ≡ s.runs
    count = refl

    behind : (at n : ℕ) → part (prover_bytes s) (7 + at) n ≡ part (s.x ++ (s.salt ++ (s.root ++ s.message2))) at n
    behind at n = read_behind (prover_phase_byte s.phase ∷ (parameter_bytes s.parameters ++ (s.runs ∷ []))) _ 7 at n refl

pub fresh-small : (s : Prover) → s ≡ fresh → Small s.parameters s.runs
unfolding fresh
fresh-small s e =
    rw (ap (λ (z : Prover). z.parameters) e, ap (λ (z : Prover). z.runs) e)
    (omega arith, (omega arith, (omega arith, (omega arith, (omega arith, (omega arith, tt))))))
