-- The phases of a verifier's session.
--
-- step f                the place of a phase in their order
-- verifier_phase_byte f   the phase as a byte; any two of them differ in at least four bits
-- verifier_phase_from b   and back; any other byte is `Closed`, so that a damaged session stays shut
use Rattle.std.specs.Prelude.{ℕ, cond, eqb}
use Rattle.verifier_phase.specs.declared.Phase.{Phase}
use Rattle.verifier_phase.specs.declared.Phase.TheVariants.{Fresh, Begun, Pointed, Responded, Chosen, Closed}

abbrev pub step : Phase → ℕ
step Fresh = 0
step Begun = 1
step Pointed = 2
step Responded = 3
step Chosen = 4
step Closed = 5

abbrev pub verifier_phase_byte : Phase → ℕ
verifier_phase_byte Fresh = 0x0f
verifier_phase_byte Begun = 0x33
verifier_phase_byte Pointed = 0x3c
verifier_phase_byte Responded = 0x55
verifier_phase_byte Chosen = 0x5a
verifier_phase_byte Closed = 0x66

abbrev pub verifier_phase_from : ℕ → Phase
verifier_phase_from b =
    cond (eqb b 0x0f) Fresh
    (cond (eqb b 0x33) Begun (cond (eqb b 0x3c) Pointed (cond (eqb b 0x55) Responded (cond (eqb b 0x5a) Chosen Closed))))
