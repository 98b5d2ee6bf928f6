-- The eight calls one after the other: each gives what the next one needs, and the verdict on the prover's own messages is 0.
--
-- completeness     demand 2's last clause, for every hash whose output has the length asked for
use Rattle.std.specs.Prelude.{◌≡◌, List, ℕ, length}
use Rattle.std.proofs.Common.{ap, ap₂, ◌∙◌}
use Rattle.lists.specs.Zeroed.{zeroed}
use Rattle.answers.specs.Number.{answer_number}
use Rattle.parameters.specs.declared.Parameters.{Parameters}
use Rattle.relation.specs.Key.{vector_of}
use Rattle.layout.specs.Layout.{work_length}
use Rattle.layout.specs.Runs.{message1_length, messages2_length, messages3_length}
use Rattle.layout.specs.Runs.Laws.{RunsWithin}
use Rattle.exchange.specs.Values.{Key}
use Rattle.runs.specs.Messages.{message1, message3, message5}
use Rattle.runs.specs.Points.{DistinctPoints}
use Rattle.runs.proofs.Messages.Laws.{length-message1, length-message3, length-message5, messages-accepted}
use Rattle.runs.specs.Opening.{transcript}
use Rattle.runs.proofs.Opening.Laws.{accepted-when}
use Rattle.calls.specs.Prover as prover
use Rattle.calls.specs.Prover.{Prover}
use Rattle.calls.specs.Prover.History.{Call, after, made}
use Rattle.calls.specs.Verifier as verifier
use Rattle.calls.specs.Verifier.{Verifier}
use Rattle.claims.specs.Completeness.{ValidKey, MayStart, Slices, Leaves, Fitting, LeadsToAcceptance, Complete, prover_begin, verifier_begin, verifier_points, prover_points, verifier_response, verifier_leaf, prover_leaf, verifier_opening}
use Rattle.claims.proofs.Completeness.Reached.{may-start}
use Rattle.claims.proofs.Completeness.Sessions.{secret, begun_prover, answered_prover, closed_prover, prover_begin-is, prover_points-is, prover_leaf-is, pointed_verifier, responded_verifier, chosen_verifier, verifier_begin-is, verifier_points-is, verifier_response-is, verifier_leaf-is, verifier_opening-is}

module _ (hash : List ℕ → ℕ → List ℕ) (hash-length : (s : List ℕ) (n : ℕ) → length (hash s n) ≡ n)
    (p : Parameters) (runs : ℕ) (counted : RunsWithin runs) (key : Key) (x_a : List ℕ) (valid : ValidKey p key x_a) (cs : List Call) (v : Verifier)
    (salt root : List ℕ) (start : MayStart (made hash cs) salt root) (m2 : List ℕ) (size : length m2 ≡ messages2_length p runs)
    (distinct : DistinctPoints p runs m2) (is : List ℕ) (inside : Leaves p runs is) (lent : Slices) (fit : Fitting p runs is lent) where
  abbrev s : Prover
  s = after hash cs

  abbrev x : List ℕ
  x = vector_of key.matrix key.y x_a

  abbrev m1 : List ℕ
  m1 = message1 hash p runs x salt root

  abbrev m3 : List ℕ
  m3 = message3 hash p runs x salt root key m2

  abbrev m5 : List ℕ
  m5 = message5 hash p runs x salt root key m2 is

  size1 : length m1 ≡ message1_length runs
  size1 = length-message1 hash p runs x salt root start.salt-length hash-length

  size3 : length m3 ≡ messages3_length runs
  size3 = length-message3 hash hash-length p runs x (secret p key x_a valid) salt root key m2

  call1 : prover_begin hash p runs key x_a s v salt root m2 is lent
      ≡ record { answer = 0; prover = begun_prover p runs x salt root; out = m1; work = zeroed (work_length p) lent.begin-work }
  call1 = prover_begin-is hash p runs counted key x_a valid salt root s start.salt-length start.root-length (may-start hash cs salt root start)
      lent.begin-work lent.begin-out fit.begin-work fit.begin-out

  call2 : verifier_begin hash p runs key x_a s v salt root m2 is lent ≡ record { answer = 0; verifier = verifier.begun p runs m1 }
  call2 =
      ap (λ (o : prover.Outcome). verifier.begin v p runs o.out) call1
      ∙ verifier_begin-is p valid.within runs counted v m1 size1

  call3 : verifier_points hash p runs key x_a s v salt root m2 is lent
      ≡ record { answer = 0; verifier = pointed_verifier p runs m1 m2 }
  call3 =
      ap (λ (o : verifier.Outcome). verifier.points o.verifier m2) call2
      ∙ verifier_points-is p valid.within runs counted m1 m2 m3 is size distinct

  call4 : prover_points hash p runs key x_a s v salt root m2 is lent
      ≡ record { answer = 0; prover = answered_prover p runs x salt root m2; out = m3; work = zeroed (work_length p) lent.points-work }
  call4 =
      ap (λ (o : prover.Outcome). prover.points hash o.prover m2 key lent.points-work lent.points-out) call1
      ∙ prover_points-is hash p runs counted key x_a valid salt root m2 size lent.points-work lent.points-out fit.points-work distinct
      fit.points-out

  call5 : verifier_response hash p runs key x_a s v salt root m2 is lent
      ≡ record { answer = 0; verifier = responded_verifier p runs m1 m2 m3 }
  call5 =
      ap₂ (λ (o : verifier.Outcome) (o' : prover.Outcome). verifier.response o.verifier o'.out) call3 call4
      ∙ verifier_response-is p valid.within runs counted m1 m2 m3 is size3

  call6 : verifier_leaf hash p runs key x_a s v salt root m2 is lent
      ≡ record { answer = 0; verifier = chosen_verifier p runs m1 m2 m3 is }
  call6 =
      ap (λ (o : verifier.Outcome). verifier.leaf o.verifier is) call5
      ∙ verifier_leaf-is p valid.within runs counted m1 m2 m3 is inside

  call7 : prover_leaf hash p runs key x_a s v salt root m2 is lent
      ≡ record { answer = 0; prover = closed_prover p runs x salt root m2; out = m5; work = zeroed (work_length p) lent.leaf-work }
  call7 =
      ap (λ (o : prover.Outcome). prover.leaf hash o.prover is key lent.leaf-work lent.leaf-out) call4
      ∙ prover_leaf-is hash p runs counted key x_a valid salt root m2 size lent.leaf-work lent.leaf-out fit.leaf-work is inside fit.leaf-out

  call8 : (verifier_opening hash p runs key x_a s v salt root m2 is lent).answer ≡ 0
  call8 =
      ap₂ (λ (o : verifier.Outcome) (o' : prover.Outcome). (verifier.opening hash o.verifier o'.out key lent.opening-work).answer) call6 call7
      ∙ verifier_opening-is p valid.within runs counted m1 m2 m3 is hash key valid.lent m5 lent.opening-work size1 size size3 inside
      (length-message5 hash hash-length p runs x (secret p key x_a valid) salt root key m2 is inside.one-a-run) fit.opening-work
      ∙ ap answer_number
      (accepted-when hash p runs (transcript m1 m2 m3 is m5) key
      (messages-accepted hash hash-length p runs key x_a valid.long valid.lent.y (secret p key x_a valid) salt root start.salt-length m2 is
      inside.one-a-run inside.below))

  leads : LeadsToAcceptance hash p runs key x_a s v salt root m2 is lent
  leads = record {
    prover-begin = ap (λ (o : prover.Outcome). o.answer) call1;
    verifier-begin = ap (λ (o : verifier.Outcome). o.answer) call2;
    verifier-points = ap (λ (o : verifier.Outcome). o.answer) call3;
    prover-points = ap (λ (o : prover.Outcome). o.answer) call4;
    verifier-response = ap (λ (o : verifier.Outcome). o.answer) call5;
    verifier-leaf = ap (λ (o : verifier.Outcome). o.answer) call6;
    prover-leaf = ap (λ (o : prover.Outcome). o.answer) call7;
    accepted = call8;
  }

pub completeness : (hash : List ℕ → ℕ → List ℕ) → ((s : List ℕ) (n : ℕ) → length (hash s n) ≡ n) → Complete hash
completeness = leads
