-- What the judging of an exchange asks and gives.
--
-- transcript_in m leaves m5   the exchange of the messages held, with message 5
-- run_in p e m leaf m5        run e of it, from its hidden leaf and its part of message 5
-- verdict_at p t key e        the verdict on run e of an exchange
-- Turned                     what holds before run e is judged: its part of message 5 starts at `place`, the runs before it are accepted, and the work
--                            area is as it was, or its named length is zeros
-- RunAsked, RunsAsked        what the judging of a run and of all runs asks of its slices
use Rattle.std.specs.Prelude.{◌≡◌, List, ℕ, ◌≤◌, ◌<◌, length, get_or, Ok}
use Rattle.lists.specs.Zeroed.{zeroed}
use Rattle.parameters.specs.declared.Parameters.{Parameters}
use Rattle.parameters.specs.Limits.{Within}
use Rattle.layout.specs.Layout.{leaves, message5_length, work_length, matrix_length, y_length}
use Rattle.layout.specs.Lent.{Lent}
use Rattle.layout.specs.Maxima.{most_runs}
use Rattle.layout.specs.Runs.{messages5_length, message5_place}
use Rattle.shake256.specs.Fips.{SHAKE256}
use Rattle.answers.specs.Answer.{Answer}
use Rattle.exchange.specs.Opening.{Exchange, verdict}
use Rattle.exchange.specs.Values.{Key}
use Rattle.runs.specs.Opening.{Transcript, transcript, exchange_at, lowest}
use Rattle.openings.specs.Statement.{statement_at, exchange_in}
use Rattle.verifier.specs.Held.{held_length, message1_in, message2_in, message3_in}
pub mod Laws

abbrev pub transcript_in : List ℕ → List ℕ → List ℕ → Transcript
transcript_in m is m5 = transcript (message1_in m) (message2_in m) (message3_in m) is m5

unfoldable pub run_in : Parameters → ℕ → List ℕ → ℕ → List ℕ → Exchange
run_in p e m leaf m5 = exchange_in p (statement_at p e (message1_in m) (message2_in m) (message3_in m)) leaf m5

pub record RunAsked (p : Parameters) (e : ℕ) (m : List ℕ) (leaf : ℕ) (m5 matrix y work : List ℕ) : Type 0 where
  pub within : Within p
  pub few : e < most_runs
  pub sized-messages : length m ≡ held_length
  pub below : leaf < leaves p
  pub sized-message5 : length m5 ≡ message5_length p leaf
  pub sized-matrix : length matrix ≡ matrix_length p
  pub sized-y : length y ≡ y_length p
  pub sized-work : length work ≡ work_length p

pub record RunsAsked (p : Parameters) (m is m5 matrix y work : List ℕ) : Type 0 where
  pub within : Within p
  pub some : 1 ≤ length is
  pub few : length is ≤ most_runs
  pub sized-messages : length m ≡ held_length
  pub below : (e : ℕ) → e < length is → get_or is e 0 < leaves p
  pub sized-message5 : length m5 ≡ messages5_length p is
  pub lent : Lent p (length matrix) (length y) (length work)

abbrev pub verdict_at : Parameters → Transcript → Key → ℕ → Answer
verdict_at p t key e = verdict SHAKE256 p (exchange_at p t e) key

pub record Turned (p : Parameters) (t : Transcript) (key : Key) (before : List ℕ) (e place : ℕ) (work : List ℕ) : Type 0 where
  pub so_far : e ≤ length t.leaves
  pub is-place : place ≡ message5_place p t.leaves e
  pub accepted : lowest (verdict_at p t key) e ≡ Ok tt
  pub same_length : length work ≡ length before
  pub wiped : zeroed (work_length p) work ≡ zeroed (work_length p) before
  pub zeros : 1 ≤ e → work ≡ zeroed (work_length p) before
