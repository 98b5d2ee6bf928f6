-- When the verifier accepts an opening after a run of its calls.
--
-- AcceptedAfter           begin, points, response and leaf and nothing else since then, the lengths pass, and all runs of the opening are `Accepted`
use Rattle.std.proofs.Math.Path.{◌≡◌}
use Rattle.std.specs.Prelude.{List, [], ◌∷◌, ℕ}
use Rattle.std.proofs.Math.Bool.{true}
use Rattle.lists.specs.Checks.{all_true}
use Rattle.exchange.specs.Values.{Key}
use Rattle.runs.specs.Opening.{transcript, Accepted}
use Rattle.calls.specs.Lengths.{opening_lengths}
use Rattle.calls.specs.Verifier.History.{Begin, Call, begin_call, points_call, response_call, leaf_call, made}
use Rattle.calls.specs.Verifier.Since.{since}

module _ (hash : List ℕ → ℕ → List ℕ) where
  module _ (cs : List Call) (m5 : List ℕ) (key : Key) (work : List ℕ) where
    pub record AcceptedAfter : Type 0 where
      pub begin : Begin
      pub message2 : List ℕ
      pub message3 : List ℕ
      pub leaves : List ℕ
      pub calls : since (made hash cs) ≡ leaf_call leaves ∷ response_call message3 ∷ points_call message2 ∷ begin_call begin ∷ []
      pub lengths : all_true (opening_lengths begin.parameters leaves m5 key work) ≡ true
      pub accepted : Accepted hash begin.parameters begin.runs (transcript begin.message1 message2 message3 leaves m5) key
