-- The sessions that calls reach from a fresh one.
--
-- Reached cs, reached     what the calls cs tell is that of a stage, whose calls passed their checks, and the session is the stage's
-- guard-idle              in every session reached from a fresh one by any calls the guard changes nothing
-- since-stage             the calls since the last begin decide what the history tells
use Rattle.std.specs.Prelude.{◌≡◌, ℕ}
use Rattle.std.proofs.Math.Path.{refl, sym, ap}
use Rattle.std.proofs.Common.{◌∙◌}
use mathlib.Core.List.{List, [], ◌∷◌}
use Rattle.calls.specs.Verifier.{Verifier, fresh, standing}
use Rattle.calls.specs.Verifier.History.{Call, outcome, after, made, last_begin, points_since, response_since, leaf_since, opened_since}
use Rattle.calls.specs.Verifier.Since.{since}
use Rattle.calls.proofs.Verifier.Reached.Moves.{standing-at, all_done, history_at, history-tells, Moves, moves}
use Rattle.calls.specs.Verifier.Reached.{Telling, telling, next, session, Passed, Stage, unbegun, at}

module _ (hash : List ℕ → ℕ → List ℕ) where
  pub record Reached (cs : List Call) : Type 0 where
    pub stage : Stage
    pub passed : Passed (at stage)
    pub tells : telling (made hash cs) ≡ at stage
    pub session-at : after hash cs ≡ session (at stage)

  pub reached : (cs : List Call) → Reached cs
  unfolding after made fresh last_begin points_since response_since leaf_since opened_since since
  reached [] = record {
    stage = unbegun;
    passed = record { limits = refl; sized1 = refl; sized2 = refl; distinct = refl; sized3 = refl; sized4 = refl; below = refl };
    tells = refl;
    session-at = refl;
  }
  reached (c ∷ cs) = go (reached cs)
    where
      go : Reached cs → Reached (c ∷ cs)
      go r = record {
        stage = m.to;
        passed = m.passed;
        tells =
            ap (λ (s : Verifier). next (record { call = c; number = (outcome hash s c).answer }) (telling (made hash cs))) r.session-at
            ∙ ap (next (record { call = c; number = (outcome hash (session (at r.stage)) c).answer })) r.tells ∙ m.tells;
        session-at = ap (λ (s : Verifier). (outcome hash s c).verifier) r.session-at ∙ m.session-to;
      }
        where
          m : Moves hash r.stage c
          m = moves hash r.stage r.passed c

  pub guard-idle : (cs : List Call) → standing (after hash cs) ≡ (after hash cs).phase
  guard-idle cs =
      let r = reached cs in
      ap standing r.session-at ∙ standing-at r.stage r.passed ∙ ap (λ (s : Verifier). s.phase) (sym r.session-at)

  pub since-stage : (cs : List Call) (st : Stage) → since (made hash cs) ≡ (at st).calls → telling (made hash cs) ≡ at st
  unfolding history_at
  since-stage cs st e = go (reached cs)
    where
      go : Reached cs → telling (made hash cs) ≡ at st
      go r =
          r.tells ∙ sym (history-tells r.stage) ∙ ap (λ (l : List Call). telling (all_done l)) (sym (ap (λ (t : Telling). t.calls) r.tells) ∙ e)
          ∙ history-tells st
