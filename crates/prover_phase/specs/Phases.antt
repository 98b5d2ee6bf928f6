-- The phases of a prover's session.
--
-- is_fresh, is_begun, is_answered, is_closed   which phase it is
-- prover_phase_byte f     the phase as a byte; any two of them differ in at least four bits
-- prover_phase_from b     and back; any other byte is `Closed`, so that a damaged session stays shut
use Rattle.std.specs.Prelude.{ℕ, Bool, true, false, cond, eqb}
use Rattle.prover_phase.specs.declared.Phase.{Phase}
use Rattle.prover_phase.specs.declared.Phase.TheVariants.{Fresh, Begun, Answered, Closed}

abbrev pub is_fresh : Phase → Bool
is_fresh Fresh = true
is_fresh Begun = false
is_fresh Answered = false
is_fresh Closed = false

abbrev pub is_begun : Phase → Bool
is_begun Fresh = false
is_begun Begun = true
is_begun Answered = false
is_begun Closed = false

abbrev pub is_answered : Phase → Bool
is_answered Fresh = false
is_answered Begun = false
is_answered Answered = true
is_answered Closed = false

abbrev pub is_closed : Phase → Bool
is_closed Fresh = false
is_closed Begun = false
is_closed Answered = false
is_closed Closed = true

abbrev pub prover_phase_byte : Phase → ℕ
prover_phase_byte Fresh = 0x0f
prover_phase_byte Begun = 0x33
prover_phase_byte Answered = 0x55
prover_phase_byte Closed = 0x66

abbrev pub prover_phase_from : ℕ → Phase
prover_phase_from b = cond (eqb b 0x0f) Fresh (cond (eqb b 0x33) Begun (cond (eqb b 0x55) Answered Closed))
