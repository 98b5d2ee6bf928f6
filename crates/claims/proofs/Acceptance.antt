-- Demand 2: 'the verifier accepts an opening exactly when document 01's checks hold'.
--
-- accepts-exactly       it does
use Rattle.std.specs.Prelude.{◌≡◌, refl, List, ℕ, Ok, Err}
use Rattle.std.proofs.Common.{ap, ◌∙◌}
use Rattle.answers.specs.Answer.{Answer}
use Rattle.answers.specs.Number.{answer_number}
use Rattle.answers.specs.Number.Laws.{answers-apart, refused-not-0}
use Rattle.exchange.specs.Values.{Key}
use Rattle.runs.specs.Opening.{Accepted}
use Rattle.runs.proofs.Opening.Laws.{accepted-when, accepted-then}
use Rattle.calls.specs.Verifier.{Verifier, Judged, held_transcript, opening_checks, judge, opening}
use Rattle.claims.proofs.Verifier.{opening-closes}
use Rattle.claims.specs.Acceptance.{AcceptsExactly}

module _ (hash : List ℕ → ℕ → List ℕ) (s : Verifier) (m5 : List ℕ) (key : Key) (work : List ℕ) where
  answer-when : opening_checks hash s m5 key work ≡ Ok tt → Accepted hash s.parameters s.runs (held_transcript s m5) key
      → (opening hash s m5 key work).answer ≡ 0
  answer-when c a =
      ap (λ (o : Judged). o.answer) (opening-closes hash s m5 key work c) ∙ ap answer_number (accepted-when hash s.parameters s.runs (held_transcript s m5) key a)

  answer-then : (opening hash s m5 key work).answer ≡ 0
      → (opening_checks hash s m5 key work ≡ Ok tt) × Accepted hash s.parameters s.runs (held_transcript s m5) key
  unfolding opening judge
  answer-then = go (opening_checks hash s m5 key work)
    where
      go : (a : Answer) → (judge hash s m5 key work a).answer ≡ 0 → (a ≡ Ok tt) × Accepted hash s.parameters s.runs (held_transcript s m5) key
      go (Ok _) e = (refl, accepted-then hash s.parameters s.runs (held_transcript s m5) key (answers-apart _ (Ok tt) e))
      go (Err r) e = absurd (refused-not-0 r e)

pub accepts-exactly : (hash : List ℕ → ℕ → List ℕ) → AcceptsExactly hash
accepts-exactly hash = record { when = answer-when hash; only-when = answer-then hash }
