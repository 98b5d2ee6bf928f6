-- An exchange of n runs as its verifier sees it, and the verdict (document 02, request 01).
--
-- Transcript          messages 1 to 5 of an exchange; message 4 is the hidden leaf of each run
-- message1_at t e      run e's message 1: salt, run byte, h
-- message3_at t e      run e's part of message 3
-- message5_at p t e    run e's part of message 5, which is as long as its leaf gives
-- exchange_at p t e    run e
-- lowest f n          the first refusal of f 0 to f (n−1), or `Ok`
-- verdict             'An exchange is accepted when all runs are, and otherwise gives the number of its lowest refused run'
-- Accepted            all runs are accepted
use Rattle.std.specs.Prelude.{List, ◌++◌, ℕ, zero, suc, ◌*◌, ◌<◌, take, Ok, Err}
use Rattle.lists.specs.Part.{part}
use Rattle.answers.specs.Answer.{Answer}
use Rattle.parameters.specs.declared.Parameters.{Parameters}
use Rattle.layout.specs.Layout.{message5_length}
use Rattle.layout.specs.Runs.{digest_place, message5_place}
use Rattle.exchange.specs.Values.{Key}
use Rattle.exchange.specs.Opening as run
use Rattle.exchange.specs.Opening.{Exchange, exchange}
use Rattle.runs.specs.Run.{run_prefix}
use Rattle.runs.specs.Messages.{message2_at, leaf_at}

pub record Transcript : Type 0 where
  pub message1 : List ℕ
  pub message2 : List ℕ
  pub message3 : List ℕ
  pub leaves : List ℕ
  pub message5 : List ℕ

abbrev pub transcript : List ℕ → List ℕ → List ℕ → List ℕ → List ℕ → Transcript
transcript m1 m2 m3 leaves m5 = record { message1 = m1; message2 = m2; message3 = m3; leaves = leaves; message5 = m5 }

unfoldable pub message1_at : List ℕ → ℕ → List ℕ
message1_at m1 e = run_prefix (take 32 m1) e ++ part m1 (digest_place e) 32

unfoldable pub message3_at : List ℕ → ℕ → List ℕ
message3_at m3 e = part m3 (e * 32) 32

unfoldable pub message5_at : Parameters → List ℕ → List ℕ → ℕ → List ℕ
message5_at p is m5 e = part m5 (message5_place p is e) (message5_length p (leaf_at is e))

unfoldable pub exchange_at : Parameters → Transcript → ℕ → Exchange
exchange_at p t e =
    exchange (message1_at t.message1 e) (message2_at p t.message2 e) (message3_at t.message3 e) (leaf_at t.leaves e)
    (message5_at p t.leaves t.message5 e)

unfoldable pub lowest : (ℕ → Answer) → ℕ → Answer
lowest f zero = Ok tt
lowest f (suc n) = or_next (lowest f n)
  where
    or_next : Answer → Answer
    or_next (Ok _) = f n
    or_next (Err r) = Err r

module _ (hash : List ℕ → ℕ → List ℕ) (p : Parameters) (n : ℕ) (t : Transcript) (key : Key) where
  unfoldable pub verdict : Answer
  verdict = lowest (λ e. run.verdict hash p (exchange_at p t e) key) n

  abbrev pub Accepted : Type 0
  Accepted = (e : ℕ) → e < n → run.Accepted hash p (exchange_at p t e) key
