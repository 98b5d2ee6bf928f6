-- The verifier's calls on the bytes of a session.
--
-- verifier_after b o           what the outcome o of a call on the bytes b gives
-- verifier_call b n call       the call on the session that the bytes b are; a buffer of another length gives the number n, and nothing changes
-- verifier_begin, verifier_points, verifier_response, verifier_leaf   the calls but the opening
-- verifier_begin_set            begin with a set: another count of numbers gives 2 before everything else, and nothing changes
-- Judged                      number, bytes of the session and work area
-- opening_after b o            what the outcome o of the opening on the bytes b gives
-- verifier_opening             the opening, at SHAKE256
use Rattle.std.specs.Prelude.{cond, List, ℕ}
use Rattle.answers.specs.Number.{refusal_number}
use Rattle.answers.specs.declared.Refusal.TheVariants.{Length}
use Rattle.parameters.specs.declared.Parameters.{Parameters}
use Rattle.shake256.specs.Fips.{SHAKE256}
use Rattle.exchange.specs.Values.{Key}
pub use Rattle.calls.specs.Judging.{judged as judges}
use Rattle.calls.specs.Verifier as verifier
use Rattle.stored.specs.Verifier.{verifier_size, verifier_bytes, verifier_from}
use Rattle.capi.specs.Set.{with_set}
use Rattle.capi.specs.Session.{fits, after, Kept, kept, misfit_number}
pub mod Laws
pub mod Follows
pub mod Runs

unfoldable pub verifier_after : List ℕ → verifier.Outcome → Kept
verifier_after b o = kept o.answer (after o.answer b (verifier_bytes o.verifier))

unfoldable pub verifier_call : List ℕ → ℕ → (verifier.Verifier → verifier.Outcome) → Kept
verifier_call b n call = fits b verifier_size (verifier_after b (call (verifier_from b))) (kept n b)

abbrev pub verifier_begin : List ℕ → Parameters → ℕ → List ℕ → Kept
verifier_begin b p runs m1 = verifier_call b (misfit_number p runs) (λ s. verifier.begin s p runs m1)

abbrev pub verifier_begin_set : List ℕ → List ℕ → ℕ → List ℕ → Kept
verifier_begin_set b ns runs m1 = with_set ns (λ p. verifier_begin b p runs m1) (kept (refusal_number Length) b)

abbrev pub verifier_points : List ℕ → List ℕ → Kept
verifier_points b m2 = verifier_call b (refusal_number Length) (λ s. verifier.points s m2)

abbrev pub verifier_response : List ℕ → List ℕ → Kept
verifier_response b m3 = verifier_call b (refusal_number Length) (λ s. verifier.response s m3)

abbrev pub verifier_leaf : List ℕ → List ℕ → Kept
verifier_leaf b is = verifier_call b (refusal_number Length) (λ s. verifier.leaf s is)

-- ---- the opening

pub record Judged : Type 0 where
  pub number : ℕ
  pub session : List ℕ
  pub work : List ℕ

-- what a function returned and left in the lent slices
abbrev pub judged : ℕ → List ℕ → List ℕ → Judged
judged n session work = record { number = n; session = session; work = work }

unfoldable pub opening_after : List ℕ → verifier.Judged → Judged
opening_after b o = judged o.answer (cond (judges o.answer) (verifier_bytes o.verifier) b) o.work

unfoldable pub verifier_opening : List ℕ → List ℕ → Key → List ℕ → Judged
verifier_opening b m5 key work =
    fits b verifier_size (opening_after b (verifier.opening SHAKE256 (verifier_from b) m5 key work)) (judged (refusal_number Length) b work)
