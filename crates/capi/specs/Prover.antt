-- The prover's calls on the bytes of a session.
--
-- Outcome                     number, bytes of the session, output and work area
-- prover_after b o             what the call's outcome o gives
-- prover_call b n work out call  the call on the session that the bytes b are; a buffer of another length gives the number n, and nothing changes
-- prover_begin, prover_points, prover_leaf   the three calls, at SHAKE256
-- prover_begin_set              begin with a set: another count of numbers gives 2 before everything else, and nothing changes
use Rattle.std.specs.Prelude.{List, ℕ}
use Rattle.answers.specs.Number.{refusal_number}
use Rattle.answers.specs.declared.Refusal.TheVariants.{Length}
use Rattle.parameters.specs.declared.Parameters.{Parameters}
use Rattle.shake256.specs.Fips.{SHAKE256}
use Rattle.exchange.specs.Values.{Key}
use Rattle.calls.specs.Prover as prover
use Rattle.stored.specs.Prover.{prover_size, prover_bytes, prover_from}
use Rattle.capi.specs.Set.{with_set}
use Rattle.capi.specs.Session.{fits, after, misfit_number}
pub mod Laws
pub mod Follows
pub mod Runs

pub record Outcome : Type 0 where
  pub number : ℕ
  pub session : List ℕ
  pub out : List ℕ
  pub work : List ℕ

-- what a function returned and left in the lent slices
abbrev pub given : ℕ → List ℕ → List ℕ → List ℕ → Outcome
given n session out work = record { number = n; session = session; out = out; work = work }

unfoldable pub prover_after : List ℕ → prover.Outcome → Outcome
prover_after b o = given o.answer (after o.answer b (prover_bytes o.prover)) o.out o.work

unfoldable pub prover_call : List ℕ → ℕ → List ℕ → List ℕ → (prover.Prover → prover.Outcome) → Outcome
prover_call b n work out call = fits b prover_size (prover_after b (call (prover_from b))) (given n b out work)

abbrev pub prover_begin : List ℕ → Parameters → ℕ → List ℕ → List ℕ → List ℕ → Key → List ℕ → List ℕ → Outcome
prover_begin b p runs x_a salt root key work out =
    prover_call b (misfit_number p runs) work out (λ s. prover.begin SHAKE256 s p runs x_a salt root key work out)

abbrev pub prover_begin_set : List ℕ → List ℕ → ℕ → List ℕ → List ℕ → List ℕ → Key → List ℕ → List ℕ → Outcome
prover_begin_set b ns runs x_a salt root key work out =
    with_set ns (λ p. prover_begin b p runs x_a salt root key work out) (given (refusal_number Length) b out work)

abbrev pub prover_points : List ℕ → List ℕ → Key → List ℕ → List ℕ → Outcome
prover_points b m2 key work out = prover_call b (refusal_number Length) work out (λ s. prover.points SHAKE256 s m2 key work out)

abbrev pub prover_leaf : List ℕ → List ℕ → Key → List ℕ → List ℕ → Outcome
prover_leaf b is key work out = prover_call b (refusal_number Length) work out (λ s. prover.leaf SHAKE256 s is key work out)
