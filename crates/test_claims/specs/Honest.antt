-- What an honest prover sends under the stand-in hash is accepted, in every run.
--
-- honest-accepted     so it is for any valid key, whose vector is x
-- honest-at           run e of it is the honest exchange of that run
use Rattle.std.specs.Prelude.{◌≡◌, List, ℕ, ◌<◌, length}
use Rattle.std.proofs.Common.{sym, ◌∙◌, subst}
use Rattle.parameters.specs.declared.Parameters.{Parameters}
use Rattle.relation.specs.Key.{vector_of}
use Rattle.layout.specs.Layout.{leaves, y_length}
use Rattle.exchange.specs.Values.{Key}
use Rattle.exchange.proofs.Messages.Laws.{Secret}
use Rattle.exchange.proofs.Messages.Opened.{honest, exchange-is}
use Rattle.runs.specs.Run.{run_at}
use Rattle.runs.specs.Messages.{message2_at, leaf_at, message1, message3, message5}
use Rattle.runs.proofs.Messages.Laws.{length-prefix, exchange-at, messages-accepted}
use Rattle.runs.specs.Opening.{Transcript, transcript, exchange_at, Accepted}
use Rattle.test_standin.specs.StandIn.{stand_in}
use Rattle.test_claims.specs.StandIn.{length-stand_in}

module _ (p : Parameters) (runs : ℕ) (key : Key) (salt root m2 is : List ℕ) where
  abbrev pub sent_by : List ℕ → Transcript
  sent_by x =
      transcript (message1 stand_in p runs x salt root) m2 (message3 stand_in p runs x salt root key m2) is (message5 stand_in p runs x salt root key m2 is)

  pub honest-accepted : (x_a x : List ℕ) → length x_a ≡ p.k → length key.y ≡ y_length p → vector_of key.matrix key.y x_a ≡ x
      → Secret p x → length salt ≡ 32 → length is ≡ runs → ((e : ℕ) → e < runs → leaf_at is e < leaves p)
      → Accepted stand_in p runs (sent_by x) key
  honest-accepted x_a x size size_y q secret h as_many below =
      subst (λ (x : List ℕ). Accepted stand_in p runs (sent_by x) key) q
      (messages-accepted stand_in length-stand_in p runs key x_a size size_y (subst (Secret p) (sym q) secret) salt root h m2 is as_many below)

  pub honest-at : (x : List ℕ) → Secret p x → length salt ≡ 32 → length is ≡ runs → (e : ℕ) → e < runs
      → exchange_at p (sent_by x) e ≡ honest stand_in p x (run_at stand_in salt root e) key (message2_at p m2 e) (leaf_at is e)
  honest-at x secret h as_many e l =
      exchange-at stand_in length-stand_in p runs x secret salt root key m2 is as_many h e l
      ∙ exchange-is stand_in p x (run_at stand_in salt root e) key (message2_at p m2 e) (leaf_at is e) (length-prefix salt e h)
