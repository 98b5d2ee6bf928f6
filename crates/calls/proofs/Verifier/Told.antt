-- The main theorem of the verifier's calls.
--
-- told-by-calls     after every run of calls each call gives what document 01 says of it by the calls that came before
-- number-told       the number by itself
use Rattle.std.specs.Prelude.{◌≡◌, List, ℕ}
use Rattle.std.proofs.Common.{sym, ◌∙◌}
use Rattle.std.proofs.Math.Path.{ap}
use Rattle.answers.specs.Order.{answer_of}
use Rattle.calls.specs.Verifier.{Verifier}
use Rattle.calls.specs.Verifier.History.{Call, outcome, after, made, conditions, Seen, seen, expected}
use Rattle.calls.proofs.Verifier.Reached.Moves.{history_at, history-tells, expected-same, moves}
use Rattle.calls.proofs.Verifier.Reached.Laws.{reached}

module _ (hash : List ℕ → ℕ → List ℕ) where
  pub told-by-calls : (cs : List Call) (c : Call) → seen (outcome hash (after hash cs) c) ≡ expected hash (made hash cs) c
  told-by-calls cs c =
      let r = reached hash cs in
      ap (λ (s : Verifier). seen (outcome hash s c)) r.session-at ∙ (moves hash r.stage r.passed c).gives
      ∙ expected-same hash (history_at r.stage) (made hash cs) (history-tells r.stage ∙ sym r.tells) c

  pub number-told : (cs : List Call) (c : Call) → (outcome hash (after hash cs) c).answer ≡ answer_of (conditions hash (made hash cs) c)
  unfolding expected
  number-told cs c = ap (λ (o : Seen). o.number) (told-by-calls cs c)
