-- What the trials of the exchange compute, the same of every sample.
--
-- Sample          a key, what an exchange of so many runs starts with, message 2, leaves to hide; what follows from them; message 5 for these
--                 leaves and for leaf n−1 in every run
-- judged s is m5  the number of the verdict on the sample's exchange that hides these leaves, with this message 5
-- Computed s      the definitions compute what the sample says, and the exchange that hides leaf n−1 in every run is accepted
-- run_lists salt root e       prefix and root of run e
-- exchange_lengths p n is     lengths of messages 1, 2, 3 and 5 of n runs that hide these leaves, and of the extractor's output
use Rattle.std.specs.Prelude.{◌≡◌, List, [], ◌∷◌, ℕ}
use Rattle.answers.specs.Number.{answer_number}
use Rattle.parameters.specs.declared.Parameters.{Parameters}
use Rattle.polynomial.specs.Interpolant.{interpolant_of, vanishing_of}
use Rattle.relation.specs.Key.{vector_of, locator_of, quotient_of}
use Rattle.layout.specs.Runs.{message1_length, messages2_length, messages3_length, messages5_length, outputs_length}
use Rattle.exchange.specs.Values.{Key}
use Rattle.runs.specs.Run.{run_at}
use Rattle.runs.specs.Messages as sent
use Rattle.runs.specs.Opening.{transcript, verdict}
use Rattle.test_standin.specs.StandIn.{stand_in}

pub record Sample : Type 0 where
  pub p : Parameters
  pub runs : ℕ
  pub key : Key
  pub x_a : List ℕ
  pub salt : List ℕ
  pub root : List ℕ
  pub message2 : List ℕ
  pub leaves : List ℕ
  pub lasts : List ℕ
  pub x : List ℕ
  pub S : List ℕ
  pub Q : List ℕ
  pub P : List ℕ
  pub F : List ℕ
  pub message1 : List ℕ
  pub message3 : List ℕ
  pub message5 : List ℕ
  pub last5 : List ℕ

abbrev pub judged : Sample → List ℕ → List ℕ → ℕ
judged s is m5 = answer_number (verdict stand_in s.p s.runs (transcript s.message1 s.message2 s.message3 is m5) s.key)

pub record Computed (s : Sample) : Type 0 where
  pub x-is : vector_of s.key.matrix s.key.y s.x_a ≡ s.x
  pub S-is : interpolant_of s.x ≡ s.S
  pub Q-is : locator_of s.p.w s.x ≡ s.Q
  pub P-is : quotient_of s.p.w s.x ≡ s.P
  pub F-is : vanishing_of s.p.m ≡ s.F
  pub message1-is : sent.message1 stand_in s.p s.runs s.x s.salt s.root ≡ s.message1
  pub message3-is : sent.message3 stand_in s.p s.runs s.x s.salt s.root s.key s.message2 ≡ s.message3
  pub message5-is : sent.message5 stand_in s.p s.runs s.x s.salt s.root s.key s.message2 s.leaves ≡ s.message5
  pub last5-is : sent.message5 stand_in s.p s.runs s.x s.salt s.root s.key s.message2 s.lasts ≡ s.last5
  pub last-judged : judged s s.lasts s.last5 ≡ 0

abbrev pub run_lists : (List ℕ → ℕ → List ℕ) → List ℕ → List ℕ → ℕ → List (List ℕ)
run_lists hash salt root e = (run_at hash salt root e).prefix ∷ (run_at hash salt root e).root ∷ []

abbrev pub exchange_lengths : Parameters → ℕ → List ℕ → List ℕ
exchange_lengths p n is = message1_length n ∷ messages2_length p n ∷ messages3_length n ∷ messages5_length p is ∷ outputs_length p n ∷ []
