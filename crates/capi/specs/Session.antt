-- Fresh sessions in a buffer that the caller lends. What a buffer holds after a call is said in stored/specs/Buffer.antt.
--
-- prover_new b           a prover's session before its first begin
-- verifier_new b         a verifier's session before its first begin
-- misfit_number p runs   what begin answers for a buffer of another length: 1 stands before 2
use Rattle.std.specs.Prelude.{◌&&◌, cond, List, ℕ}
use Rattle.answers.specs.Number.{refusal_number}
use Rattle.answers.specs.declared.Refusal.TheVariants.{Parameter, Length}
use Rattle.parameters.specs.declared.Parameters.{Parameters}
use Rattle.parameters.specs.Limits.{within_limits}
use Rattle.layout.specs.Runs.{runs_within}
unfoldable pub use Rattle.stored.specs.Buffer.{fits}
pub use Rattle.stored.specs.Buffer.{after, Kept, kept, misfit}
use Rattle.calls.specs.Prover as prover
use Rattle.calls.specs.Verifier as verifier
use Rattle.stored.specs.Prover.{prover_size, prover_bytes}
use Rattle.stored.specs.Verifier.{verifier_size, verifier_bytes}

abbrev pub prover_new : List ℕ → Kept
prover_new b = fits b prover_size (kept 0 (prover_bytes prover.fresh)) (misfit b)

abbrev pub verifier_new : List ℕ → Kept
verifier_new b = fits b verifier_size (kept 0 (verifier_bytes verifier.fresh)) (misfit b)

abbrev pub misfit_number : Parameters → ℕ → ℕ
misfit_number p runs = cond (within_limits p && runs_within runs) (refusal_number Length) (refusal_number Parameter)
