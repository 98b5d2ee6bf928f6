-- What each call gives in an exchange with a valid key, on the session that the calls before it leave.
--
-- held-front                      what was put at the front of an array is read from there
-- secret                          x of a valid key
-- key_lengths-pass, leaves-pass    matrix, y and work area have lengths that no call refuses, and the leaves are below n
-- begun_prover, answered_prover, closed_prover   the prover's session after begin, points and leaf
-- held-stands                     its phase counts
-- prover_begin-is, prover_points-is, prover_leaf-is   what its calls give
-- pointed_verifier, responded_verifier, chosen_verifier   the verifier's session after points, response and leaf
-- due-passes                      the checks of a verifier's call that is due: 12 and 11 are past
-- verifier_begin-is, verifier_points-is, verifier_response-is, verifier_leaf-is, verifier_opening-is   what the verifier's calls give
use Rattle.std.specs.Prelude.{◌≡◌, Bool, true, false, List, [], ◌∷◌, ℕ, ◌≤◌, eqb, length, take, replicate, Ok}
use Rattle.std.proofs.Math.Path.{refl, ap}
use Rattle.std.proofs.Common.{◌∙◌, arith, take_at}
use borrow.Author.Tests.{eq-eqb, le-leb}
use Rattle.lists.specs.Part.{put_at}
use Rattle.lists.specs.Checks.{all_true}
use Rattle.lists.specs.Zeroed.{zeroed}
use Rattle.answers.specs.declared.Refusal.{Refusal}
use Rattle.answers.specs.declared.Refusal.TheVariants.{Length, Leaf, SamePoint}
use Rattle.answers.specs.Number.{answer_number}
use Rattle.answers.specs.Checks.{checks}
use Rattle.parameters.specs.declared.Parameters.{Parameters}
use Rattle.parameters.specs.Limits.{Within}
use Rattle.parameters.specs.Limits.Laws.{within-test}
use Rattle.relation.specs.Key.{weight_of, vector_of}
use Rattle.relation.proofs.Laws.Key.Vector.{length-vector, bytes-vector}
use Rattle.layout.specs.Layout.{work_length}
use Rattle.layout.specs.Maxima.{most_runs, most_message1, most_messages2, most_messages3}
use Rattle.layout.specs.Runs.{message1_length, messages2_length, messages3_length, messages5_length}
use Rattle.layout.specs.Runs.Laws.{RunsWithin, within-runs}
use Rattle.exchange.specs.Values.{Key}
use Rattle.exchange.proofs.Messages.Laws.{Secret}
use Rattle.runs.specs.Messages.{message1, message3, message5}
use Rattle.runs.specs.Points.{distinct_points, DistinctPoints}
use Rattle.runs.proofs.Points.Distinct.{distinct-points}
use Rattle.runs.specs.Opening.{transcript, verdict}
use Rattle.prover_phase.specs.declared.Phase.{Phase}
use Rattle.prover_phase.specs.declared.Phase.TheVariants.{Begun, Answered, Closed}
use Rattle.verifier_phase.specs.declared.Phase.{Phase as VerifierPhase}
use Rattle.verifier_phase.specs.declared.Phase.TheVariants as phase
use Rattle.calls.specs.Lengths.{key_lengths, opening_lengths, leaves_below}
use Rattle.calls.proofs.Lengths.Laws.{below-leaves}
use Rattle.calls.specs.Prover as prover
use Rattle.calls.specs.Prover.{Prover}
use Rattle.calls.specs.Verifier as verifier
use Rattle.calls.specs.Verifier.{Verifier}
use Rattle.calls.proofs.Verifier.Reached.Moves.{below-zeros}
use Rattle.claims.specs.Words.{Lent}
use Rattle.claims.proofs.Verifier.{opening-closes}
use Rattle.claims.specs.Completeness.{ValidKey, Leaves}

pub held-front : (n : ℕ) (d s : List ℕ) → length s ≡ n → take n (put_at d 0 s) ≡ s
unfolding put_at
held-front n d s e = take_at s _ n e

module _ (p : Parameters) (key : Key) (x_a : List ℕ) (valid : ValidKey p key x_a) where
  pub secret : Secret p (vector_of key.matrix key.y x_a)
  secret = record {
    within = valid.within;
    long =
        let a = valid.within.k-most in
        let b = valid.long in
        let c = valid.lent.y in
        length-vector key.matrix key.y x_a ∙ omega arith;
    light = valid.light;
    bytes = bytes-vector key.matrix key.y x_a valid.bytes-x_a valid.bytes-y;
  }

key_lengths-pass : (p : Parameters) (key : Key) → Lent p key → (work : List ℕ) → work_length p ≤ length work
    → all_true (key_lengths p key work) ≡ true
key_lengths-pass p key lent work h = rw (eq-eqb _ _ lent.matrix, eq-eqb _ _ lent.y, le-leb _ _ h)

leaves-pass : (p : Parameters) (runs : ℕ) (is : List ℕ) → Leaves p runs is → leaves_below p is ≡ true
leaves-pass p runs is h = below-leaves p is (λ e l. h.below e (let k = h.one-a-run in omega arith))

-- ---- the prover's calls

module _ (p : Parameters) (runs : ℕ) (x salt root : List ℕ) where
  abbrev held_prover : Phase → List ℕ → Prover
  held_prover phase m2 =
      record { phase = phase; parameters = p; runs = runs; x = prover.padded 255 x; salt = salt; root = root; message2 = m2 }

  abbrev pub begun_prover : Prover
  begun_prover = held_prover Begun (replicate most_messages2 0)

  abbrev pub answered_prover : List ℕ → Prover
  answered_prover m2 = held_prover Answered (prover.padded most_messages2 m2)

  abbrev pub closed_prover : List ℕ → Prover
  closed_prover m2 = held_prover Closed (prover.padded most_messages2 m2)

module _ (hash : List ℕ → ℕ → List ℕ) (p : Parameters) (runs : ℕ) (counted : RunsWithin runs) (key : Key) (x_a : List ℕ) (valid : ValidKey p key x_a)
    (salt root : List ℕ) where
  abbrev x : List ℕ
  x = vector_of key.matrix key.y x_a

  pub prover_begin-is : (s : Prover) → length salt ≡ 32 → length root ≡ 16 → prover.repeated s salt root ≡ false → (work out : List ℕ)
      → work_length p ≤ length work → length out ≡ message1_length runs
      → prover.begin hash s p runs x_a salt root key work out
      ≡ record { answer = 0; prover = begun_prover p runs x salt root; out = message1 hash p runs x salt root; work = zeroed (work_length p) work }
  unfolding prover.begin prover.begin_checks prover.begun
  prover_begin-is s salt-length root-length not-repeated work out hw ho =
      rw (
        within-test p valid.within,
        within-runs runs counted,
        eq-eqb (length x_a) p.k valid.long,
        eq-eqb (length salt) 32 salt-length,
        eq-eqb (length root) 16 root-length,
        eq-eqb (length out) (message1_length runs) ho,
        key_lengths-pass p key valid.lent work hw,
        le-leb (weight_of x) p.w valid.light,
        not-repeated,
      )

  held_x-is : take p.m (prover.padded 255 x) ≡ x
  held_x-is = held-front p.m (replicate 255 0) x (secret p key x_a valid).long

  held-stands : (phase : Phase) (m2 : List ℕ) → prover.is_fresh phase ≡ false → prover.standing (held_prover p runs x salt root phase m2) ≡ phase
  unfolding prover.standing prover.intact prover.held_x
  held-stands phase m2 e = rw (e, held_x-is, within-test p valid.within, within-runs runs counted, le-leb (weight_of x) p.w valid.light)

  module _ (m2 : List ℕ) (size : length m2 ≡ messages2_length p runs) (work out : List ℕ) (hw : work_length p ≤ length work) where
    pub prover_points-is : DistinctPoints p runs m2 → length out ≡ messages3_length runs
        → prover.points hash (begun_prover p runs x salt root) m2 key work out
        ≡ record {
          answer = 0;
          prover = answered_prover p runs x salt root m2;
          out = message3 hash p runs x salt root key m2;
          work = zeroed (work_length p) work;
        }
    unfolding prover.points prover.points_checks prover.closed prover.points_due prover.answered prover.held_x
    prover_points-is distinct ho =
        rw (
          held-stands Begun (replicate most_messages2 0) refl,
          eq-eqb (length m2) (messages2_length p runs) size,
          eq-eqb (length out) (messages3_length runs) ho,
          key_lengths-pass p key valid.lent work hw,
          distinct-points p runs m2 distinct,
          held_x-is,
        )

    pub prover_leaf-is : (is : List ℕ) → Leaves p runs is → length out ≡ messages5_length p is
        → prover.leaf hash (answered_prover p runs x salt root m2) is key work out
        ≡ record {
          answer = 0;
          prover = closed_prover p runs x salt root m2;
          out = message5 hash p runs x salt root key m2 is;
          work = zeroed (work_length p) work;
        }
    unfolding prover.leaf prover.leaf_checks prover.closed prover.leaf_due prover.opened prover.held_x prover.held_message2
    prover_leaf-is is leaves ho =
        rw (
          held-stands Answered (prover.padded most_messages2 m2) refl,
          eq-eqb (length is) runs leaves.one-a-run,
          eq-eqb (length out) (messages5_length p is) ho,
          key_lengths-pass p key valid.lent work hw,
          leaves-pass p runs is leaves,
          held_x-is,
          held-front (messages2_length p runs) (replicate most_messages2 0) m2 size,
        )

-- ---- the verifier's calls

module _ (p : Parameters) (runs : ℕ) (m1 m2 : List ℕ) where
  abbrev pub pointed_verifier : Verifier
  pointed_verifier = verifier.pointed (verifier.begun p runs m1) m2

  module _ (m3 : List ℕ) where
    abbrev pub responded_verifier : Verifier
    responded_verifier = verifier.responded pointed_verifier m3

    abbrev pub chosen_verifier : List ℕ → Verifier
    chosen_verifier is = verifier.chosen responded_verifier is

due-passes : (s : Verifier) (here : VerifierPhase) (cs : List (Bool × Refusal)) → Within s.parameters → RunsWithin s.runs
    → leaves_below s.parameters (verifier.held_leaves s) ≡ true
    → eqb (verifier.step s.phase) 0 ≡ false → eqb (verifier.step s.phase) 5 ≡ false
    → eqb (verifier.step s.phase) (verifier.step here) ≡ true → verifier.after_begin s here cs ≡ checks cs
unfolding verifier.closed verifier.due verifier.standing verifier.intact
due-passes s here cs within counted below not-fresh not-closed is-due =
    rw (within-test s.parameters within, within-runs s.runs counted, below, not-fresh, not-closed, is-due)

module _ (p : Parameters) (within : Within p) (runs : ℕ) (counted : RunsWithin runs) where
  pub verifier_begin-is : (v : Verifier) (m1 : List ℕ) → length m1 ≡ message1_length runs
      → verifier.begin v p runs m1 ≡ record { answer = 0; verifier = verifier.begun p runs m1 }
  unfolding verifier.begin verifier.begin_checks
  verifier_begin-is v m1 e = rw (within-test p within, within-runs runs counted, eq-eqb (length m1) (message1_length runs) e)

  module _ (m1 m2 m3 is : List ℕ) where
    pub verifier_points-is : length m2 ≡ messages2_length p runs → DistinctPoints p runs m2
        → verifier.points (verifier.begun p runs m1) m2 ≡ record { answer = 0; verifier = pointed_verifier p runs m1 m2 }
    unfolding verifier.points verifier.points_checks verifier.begun
    verifier_points-is e distinct =
        rw (
          due-passes (verifier.begun p runs m1) phase.Begun
              ((eqb (length m2) (messages2_length p runs), Length) ∷ (distinct_points p runs m2, SamePoint) ∷ []) within counted
              (below-zeros p runs most_runs) refl refl refl,
          eq-eqb _ _ e,
          distinct-points p runs m2 distinct,
        )

    pub verifier_response-is : length m3 ≡ messages3_length runs
        → verifier.response (pointed_verifier p runs m1 m2) m3 ≡ record { answer = 0; verifier = responded_verifier p runs m1 m2 m3 }
    unfolding verifier.response verifier.response_checks verifier.begun verifier.pointed
    verifier_response-is e =
        rw (
          due-passes (pointed_verifier p runs m1 m2) phase.Pointed ((eqb (length m3) (messages3_length runs), Length) ∷ []) within counted
              (below-zeros p runs most_runs) refl refl refl,
          eq-eqb _ _ e,
        )

    pub verifier_leaf-is : Leaves p runs is
        → verifier.leaf (responded_verifier p runs m1 m2 m3) is ≡ record { answer = 0; verifier = chosen_verifier p runs m1 m2 m3 is }
    unfolding verifier.leaf verifier.leaf_checks verifier.begun verifier.pointed verifier.responded
    verifier_leaf-is h =
        rw (
          due-passes (responded_verifier p runs m1 m2 m3) phase.Responded ((eqb (length is) runs, Length) ∷ (leaves_below p is, Leaf) ∷ []) within counted
              (below-zeros p runs most_runs) refl refl refl,
          eq-eqb _ _ h.one-a-run,
          leaves-pass p runs is h,
        )

    module _ (hash : List ℕ → ℕ → List ℕ) (key : Key) (lent : Lent p key) (m5 work : List ℕ) where
      held-leaves : Leaves p runs is → verifier.held_leaves (chosen_verifier p runs m1 m2 m3 is) ≡ is
      unfolding verifier.begun verifier.pointed verifier.responded verifier.chosen
      held-leaves h = held-front runs (replicate most_runs 0) is h.one-a-run

      opening-passes : Leaves p runs is → length m5 ≡ messages5_length p is → work_length p ≤ length work
          → verifier.opening_checks hash (chosen_verifier p runs m1 m2 m3 is) m5 key work ≡ Ok tt
      unfolding verifier.opening_checks verifier.begun verifier.pointed verifier.responded verifier.chosen
      opening-passes h e hw =
          due-passes (chosen_verifier p runs m1 m2 m3 is) phase.Chosen
          ((all_true (opening_lengths p (verifier.held_leaves (chosen_verifier p runs m1 m2 m3 is)) m5 key work), Length) ∷ [])
          within counted (ap (leaves_below p) (held-leaves h) ∙ leaves-pass p runs is h) refl refl refl
          ∙ rw (held-leaves h, eq-eqb _ _ e, key_lengths-pass p key lent work hw)

      pub verifier_opening-is : length m1 ≡ message1_length runs → length m2 ≡ messages2_length p runs → length m3 ≡ messages3_length runs
          → Leaves p runs is → length m5 ≡ messages5_length p is → work_length p ≤ length work
          → (verifier.opening hash (chosen_verifier p runs m1 m2 m3 is) m5 key work).answer
          ≡ answer_number (verdict hash p runs (transcript m1 m2 m3 is m5) key)
      unfolding verifier.held_transcript verifier.begun verifier.pointed verifier.responded verifier.chosen
      verifier_opening-is size1 size2 size3 h e hw =
          ap (λ (o : verifier.Judged). o.answer) (opening-closes hash (chosen_verifier p runs m1 m2 m3 is) m5 key work (opening-passes h e hw))
          ∙ rw (
            held-front (message1_length runs) (replicate most_message1 0) m1 size1,
            held-front (messages2_length p runs) (replicate most_messages2 0) m2 size2,
            held-front (messages3_length runs) (replicate most_messages3 0) m3 size3,
            held-front runs (replicate most_runs 0) is h.one-a-run,
          )
