-- Request 02 holds.
--
-- not-distinct, test-fails     the test of points, and what it says where it fails
-- points-alone                 the points of two messages 2 agree: so does the test
-- row_carried, row-14          what the number 0, and 14, says of a points call's checks
-- prover-number, verifier-number, extractor-number   the number of a call is that of its checks
-- early-carried, early-14      what 0, and 14, says of the checks before 5 in the extractor
-- accepted-distinct            an accepted opening goes back to a points call that was carried out
-- read-back                    four bytes read as a point and written again
-- request02                    it holds
use Rattle.std.proofs.Math.Path.{◌≡◌, refl, sym, ap}
use Rattle.std.proofs.Common.{◌∙◌, subst}
use Rattle.std.specs.Prelude.{Bool, ◌&&◌, not, List, [], ◌∷◌, ◌↔◌, ℕ, suc, ◌*◌, ◌<◌, eqb, length, get_or, Ok, Err}
use Rattle.std.proofs.Math.Bool.{true, false}
use Rattle.std.proofs.lemmas.Bool.{false≢true}
use native.Mathlib.Omega.{arith}
use Rattle.lists.specs.Part.{part}
use Rattle.lists.specs.Equal.{eq_list}
use Rattle.lists.specs.Checks.{all_true}
use Rattle.lists.specs.Checks.Laws.{and_left, and_right, not_so}
use Rattle.tower.specs.Field.{point, bytes_of}
use Rattle.tower.proofs.Field.Laws.{bytes_of-point}
use Rattle.shake256.specs.Fips.{SHAKE256}
use Rattle.answers.specs.Answer.{Answer}
use Rattle.answers.specs.declared.Refusal.TheVariants.{Parameter, Length, Leaf, Exchange as Differs, SameLeaf, NotDue, Closed as ExchangeClosed, SamePoint}
use Rattle.answers.specs.Number.{refusal_number, answer_number}
use Rattle.answers.specs.Checks.{checks}
use Rattle.parameters.specs.declared.Parameters.{Parameters}
use Rattle.parameters.specs.Limits.{within_limits}
use Rattle.parameters.specs.Limits.Laws.{within-test, test-within}
use Rattle.polynomial.specs.Bytes.{Bytes}
use Rattle.polynomial.specs.Bytes.Laws.{bytes_take, byte-at}
use Rattle.layout.specs.Layout.{message2_length}
use Rattle.layout.specs.Runs.{runs_within, messages2_length}
use Rattle.layout.specs.Runs.Laws.{runs-within, within-runs}
use Rattle.exchange.proofs.Sequences.Laws.{bytes_drop}
use Rattle.exchange.specs.Reading.{bytes_at, point_at}
use Rattle.exchange.specs.Values.{Key, point_of}
use Rattle.runs.specs.Messages.{message2_at}
use Rattle.runs.specs.Points.{point_bytes, distinct_points, DistinctPoints}
use Rattle.runs.proofs.Points.Distinct.{points-distinct, distinct-points}
use Rattle.runs.specs.Opening.{Transcript, verdict}
use Rattle.runs.specs.Extractor.{Finding, unequal, states, extract}
use Rattle.verifier_phase.specs.declared.Phase.TheVariants.{Begun}
use Rattle.calls.specs.Lengths.{points_lengths, leaves_below}
use Rattle.calls.specs.Judging.{judged}
use Rattle.calls.proofs.Judging.Laws.{verdict-judged}
use Rattle.calls.specs.Prover as prover
use Rattle.calls.specs.Prover.{Prover}
use Rattle.calls.specs.Prover.History.{points_call, outcome}
use Rattle.calls.proofs.Prover.Settled.{number-of}
use Rattle.calls.specs.Verifier as verifier
use Rattle.calls.specs.Verifier.{Verifier}
use Rattle.calls.specs.Verifier.History as history
use Rattle.calls.specs.Verifier.Reached.{Passed, at_leaf, at}
use Rattle.calls.proofs.Verifier.Reached.Laws.{reached, since-stage}
use Rattle.calls.specs.Verifier.Runs.{AcceptedAfter}
use Rattle.calls.specs.Extractor.{number_of, extract_lengths, both_distinct, same_statement, early_checks, found, second, first, early, extraction}
use Rattle.claims.specs.Request02.{RepeatedPoint, RepeatedInEither, PointsAlone, DistinctInField, Request02}

-- ---- the test of points

same_test : (b b' : Bool) → (b ≡ true → b' ≡ true) → (b' ≡ true → b ≡ true) → b ≡ b'
same_test true true h k = refl
same_test true false h k = sym (h refl)
same_test false true h k = k refl
same_test false false h k = refl

module _ (p : Parameters) (n : ℕ) (m2 : List ℕ) where
  not-distinct : distinct_points p n m2 ≡ false → DistinctPoints p n m2 → ⊥
  not-distinct e d = false≢true (sym e ∙ distinct-points p n m2 d)

  test-fails : (DistinctPoints p n m2 → ⊥) → distinct_points p n m2 ≡ false
  test-fails h = sym (not_so (distinct_points p n m2) (λ e. h (points-distinct p n m2 e)))

  agreeing : (m2' : List ℕ) → ((e l : ℕ) → e < n → l < p.t → point_bytes (message2_at p m2 e) l ≡ point_bytes (message2_at p m2' e) l)
      → distinct_points p n m2 ≡ true → distinct_points p n m2' ≡ true
  agreeing m2' same d =
      distinct-points p n m2'
      (λ e i l k a b q c. points-distinct p n m2 d e i l k a b q (same e i k a ∙ c ∙ sym (same e l k b)))

  both-then : (m2' : List ℕ) → (distinct_points p n m2 && distinct_points p n m2') ≡ true → DistinctPoints p n m2 × DistinctPoints p n m2'
  both-then m2' b = (
    points-distinct p n m2 (and_left (distinct_points p n m2) (distinct_points p n m2') b),
    points-distinct p n m2' (and_right (distinct_points p n m2) (distinct_points p n m2') b),
  )

  both-when : (m2' : List ℕ) → DistinctPoints p n m2 × DistinctPoints p n m2' → (distinct_points p n m2 && distinct_points p n m2') ≡ true
  both-when m2' d = rw (distinct-points p n m2 d.0, distinct-points p n m2' d.1)

points-alone : PointsAlone
points-alone p n m2 m2' same = same_test _ _ (agreeing p n m2 m2' same) (agreeing p n m2' m2 (λ e l k a. sym (same e l k a)))

-- ---- points calls

abbrev row : Bool → Bool → Bool → Bool → Answer
row a b c d = checks ((a, ExchangeClosed) ∷ (b, NotDue) ∷ (c, Length) ∷ (d, SamePoint) ∷ [])

row_carried : (a b c d : Bool) → answer_number (row a b c d) ≡ 0 → d ≡ true
row_carried false b c d e = absurd (omega arith)
row_carried true false c d e = absurd (omega arith)
row_carried true true false d e = absurd (omega arith)
row_carried true true true false e = absurd (omega arith)
row_carried true true true true e = refl

row-14 : (a b c d : Bool) → answer_number (row (not a) b c d) ≡ 14 → (a ≡ false) × (b ≡ true) × (c ≡ true) × (d ≡ false)
row-14 true b c d e = absurd (omega arith)
row-14 false false c d e = absurd (omega arith)
row-14 false true false d e = absurd (omega arith)
row-14 false true true true e = absurd (omega arith)
row-14 false true true false e = (refl, refl, refl, refl)

module _ (closed due lengths : Bool) (p : Parameters) (runs : ℕ) (m2 : List ℕ) (n : ℕ)
    (numbered : n ≡ answer_number (row (not closed) due lengths (distinct_points p runs m2))) where
  carried-distinct : n ≡ 0 → DistinctPoints p runs m2
  carried-distinct e = points-distinct p runs m2 (row_carried (not closed) due lengths _ (sym numbered ∙ e))

  only-repeated : n ≡ 14 → RepeatedPoint closed due lengths p runs m2
  only-repeated e =
      let f = row-14 closed due lengths (distinct_points p runs m2) (sym numbered ∙ e) in
      record { not-closed = f.0; is-due = f.1; lengths-right = f.2; not-distinct = not-distinct p runs m2 f.3 }

  repeated-14 : RepeatedPoint closed due lengths p runs m2 → n ≡ 14
  repeated-14 r = numbered ∙ rw (r.not-closed, r.is-due, r.lengths-right, test-fails p runs m2 r.not-distinct)

  gets-14 : (n ≡ 14) ↔ RepeatedPoint closed due lengths p runs m2
  gets-14 = (only-repeated, repeated-14)

prover-number : (hash : List ℕ → ℕ → List ℕ) (s : Prover) (m2 : List ℕ) (key : Key) (work out : List ℕ)
    → (prover.points hash s m2 key work out).answer
    ≡ answer_number (row (not (prover.closed s)) (prover.points_due s) (all_true (points_lengths s.parameters s.runs m2 key work out))
    (distinct_points s.parameters s.runs m2))
unfolding outcome prover.points_checks
prover-number hash s m2 key work out = number-of hash s (points_call m2 key work out)

settle-number : (a : Answer) (s next : Verifier) → (verifier.settle a s next).answer ≡ answer_number a
settle-number (Ok _) s next = refl
settle-number (Err r) s next = refl

verifier-number : (s : Verifier) (m2 : List ℕ) → (verifier.points s m2).answer
    ≡ answer_number (row (not (verifier.closed s)) (verifier.due s Begun) (eqb (length m2) (messages2_length s.parameters s.runs))
    (distinct_points s.parameters s.runs m2))
unfolding verifier.points verifier.points_checks
verifier-number s m2 = settle-number (verifier.points_checks s m2) s (verifier.pointed s m2)

-- ---- the extractor's call

module _ (hash : List ℕ → ℕ → List ℕ) (p : Parameters) (runs : ℕ) (t t' : Transcript) (key : Key) (work out : List ℕ) where
  found_number : (f : Finding) → number_of (found hash p runs t t' key work out f).answer ≡ 0
  unfolding found
  found_number (unequal run layer number) = refl
  found_number (states run axis s) = refl

  -- the openings' checks give 0, 5 or 7
  judged-not-14 : (n : ℕ) → judged n ≡ true → n ≡ 14 → ⊥
  judged-not-14 n j e = false≢true (sym (ap judged e) ∙ j)

  second-not : (a : Answer) → judged (answer_number a) ≡ true → number_of (second hash p runs t t' key work out a).answer ≡ 14 → ⊥
  unfolding second
  second-not (Ok _) j e = let z : ◌≡◌ {A = ℕ} 0 14 = sym (found_number (extract hash p runs key t t' out)) ∙ e in omega arith
  second-not (Err r) j e = judged-not-14 (refusal_number r) j e

  first-not : (a : Answer) → judged (answer_number a) ≡ true → number_of (first hash p runs t t' key work out a).answer ≡ 14 → ⊥
  unfolding first
  first-not (Ok _) j e = second-not (verdict hash p runs t' key) (verdict-judged hash p runs t' key) e
  first-not (Err r) j e = judged-not-14 (refusal_number r) j e

  abbrev number_by : Bool → Bool → Bool → Bool → Bool → Bool → ℕ
  number_by a b c d e f =
      number_of (early hash p runs t t' key work out
      (checks ((a, Parameter) ∷ (b, Length) ∷ (c, SamePoint) ∷ (d, Leaf) ∷ (e, Differs) ∷ (f, SameLeaf) ∷ []))).answer

  early-carried : (a b c d e f : Bool) → number_by a b c d e f ≡ 0 → c ≡ true
  unfolding early
  early-carried false b c d e f q = absurd (omega arith)
  early-carried true false c d e f q = absurd (omega arith)
  early-carried true true false d e f q = absurd (omega arith)
  early-carried true true true d e f q = refl

  early-14 : (a b c d e f : Bool) → number_by a b c d e f ≡ 14 → (a ≡ true) × (b ≡ true) × (c ≡ false)
  unfolding early
  early-14 false b c d e f q = absurd (omega arith)
  early-14 true false c d e f q = absurd (omega arith)
  early-14 true true false d e f q = (refl, refl, refl)
  early-14 true true true false e f q = absurd (omega arith)
  early-14 true true true true false f q = absurd (omega arith)
  early-14 true true true true true false q = absurd (omega arith)
  early-14 true true true true true true q = absurd (first-not (verdict hash p runs t key) (verdict-judged hash p runs t key) q)

  abbrev limits : Bool
  limits = within_limits p && runs_within runs

  abbrev lengths : Bool
  lengths = all_true (extract_lengths hash p runs t t' key work out)

  abbrev both : Bool
  both = distinct_points p runs t.message2 && distinct_points p runs t'.message2

  abbrev below : Bool
  below = leaves_below p t.leaves && leaves_below p t'.leaves

  abbrev same : Bool
  same = same_statement hash p runs t t' key work out

  abbrev apart : Bool
  apart = not (eq_list t.leaves t'.leaves)

  extractor-number : number_of (extraction hash p runs t t' key work out).answer ≡ number_by limits lengths both below same apart
  unfolding extraction early_checks both_distinct
  extractor-number = refl

  both-carried : number_of (extraction hash p runs t t' key work out).answer ≡ 0
      → DistinctPoints p runs t.message2 × DistinctPoints p runs t'.message2
  both-carried q = both-then p runs t.message2 t'.message2 (early-carried limits lengths both below same apart (sym extractor-number ∙ q))

  only-either : number_of (extraction hash p runs t t' key work out).answer ≡ 14 → RepeatedInEither hash p runs t t' key work out
  only-either q =
      let f = early-14 limits lengths both below same apart (sym extractor-number ∙ q) in
      record {
        within = test-within p (and_left (within_limits p) (runs_within runs) f.0);
        counted = runs-within runs (and_right (within_limits p) (runs_within runs) f.0);
        lengths-right = f.1;
        not-both-distinct = λ d. false≢true (sym f.2 ∙ both-when p runs t.message2 t'.message2 d);
      }

  either-14 : RepeatedInEither hash p runs t t' key work out → number_of (extraction hash p runs t t' key work out).answer ≡ 14
  unfolding early
  either-14 r =
      extractor-number
      ∙ rw (
        within-test p r.within,
        within-runs runs r.counted,
        r.lengths-right,
        sym (not_so both (λ b. r.not-both-distinct (both-then p runs t.message2 t'.message2 b))),
      )

-- ---- accepted openings

accepted-distinct : (hash : List ℕ → ℕ → List ℕ) (cs : List history.Call) (m5 : List ℕ) (key : Key) (work : List ℕ)
    (a : AcceptedAfter hash cs m5 key work) → DistinctPoints a.begin.parameters a.begin.runs a.message2
accepted-distinct hash cs m5 key work a = points-distinct a.begin.parameters a.begin.runs a.message2 passed.distinct
  where
    passed : Passed (at (at_leaf a.begin a.message2 a.message3 a.leaves))
    passed =
        let r = reached hash cs in
        subst Passed (sym r.tells ∙ since-stage hash cs (at_leaf a.begin a.message2 a.message3 a.leaves) a.calls) r.passed

-- ---- bytes and points

-- the four bytes at a place, read as a point and written again
read_back : (m2 : List ℕ) → Bytes m2 → (i : ℕ) → bytes_of (point_at m2 i) ≡ bytes_at m2 i 4
unfolding point_at bytes_at
read_back m2 h i =
    bytes_of-point ((get_or m2 i 0, get_or m2 (suc i) 0), (get_or m2 (suc (suc i)) 0, get_or m2 (suc (suc (suc i))) 0))
    (byte-at i m2 h, byte-at (suc i) m2 h, byte-at (suc (suc i)) m2 h, byte-at (suc (suc (suc i))) m2 h)

module _ (p : Parameters) where
  bytes-of-points : (m2 : List ℕ) → Bytes m2 → (i l : ℕ) → point_of p m2 i ≡ point_of p m2 l → point_bytes m2 i ≡ point_bytes m2 l
  unfolding point_of
  bytes-of-points m2 h i l e = sym (read_back m2 h (4 * i)) ∙ ap bytes_of e ∙ read_back m2 h (4 * l)

  points-of-bytes : (m2 : List ℕ) (i l : ℕ) → point_bytes m2 i ≡ point_bytes m2 l → point_of p m2 i ≡ point_of p m2 l
  unfolding point_of point_at
  points-of-bytes m2 i l e = ap point e

  bytes_run : (m2 : List ℕ) → Bytes m2 → (e : ℕ) → Bytes (message2_at p m2 e)
  unfolding message2_at part
  bytes_run m2 h e = bytes_take (message2_length p) _ (bytes_drop (e * message2_length p) m2 h)

  in_field : (n : ℕ) (m2 : List ℕ) → Bytes m2 → DistinctPoints p n m2 ↔ DistinctInField p n m2
  in_field n m2 h = (
    (λ d e i l k a b q c. d e i l k a b q (bytes-of-points (message2_at p m2 e) (bytes_run m2 h e) i l c)),
    (λ d e i l k a b q c. d e i l k a b q (points-of-bytes (message2_at p m2 e) i l c)),
  )

-- ---- it holds

pub request02 : Request02
request02 = record {
  points-differ-pairwise = record {
    at-prover = λ s m2 key work out.
        carried-distinct (prover.closed s) (prover.points_due s) (all_true (points_lengths s.parameters s.runs m2 key work out))
        s.parameters s.runs m2 _ (prover-number SHAKE256 s m2 key work out);
    at-verifier = λ s m2.
        carried-distinct (verifier.closed s) (verifier.due s Begun) (eqb (length m2) (messages2_length s.parameters s.runs))
        s.parameters s.runs m2 _ (verifier-number s m2);
    at-extractor = both-carried SHAKE256;
    in-accepted-openings = accepted-distinct SHAKE256;
  };
  repeated-point-gets-14 = record {
    at-prover = λ s m2 key work out. gets-14 _ _ _ s.parameters s.runs m2 _ (prover-number SHAKE256 s m2 key work out);
    at-verifier = λ s m2. gets-14 _ _ _ s.parameters s.runs m2 _ (verifier-number s m2);
    at-extractor = λ p runs t t' key work out. (only-either SHAKE256 p runs t t' key work out, either-14 SHAKE256 p runs t t' key work out);
  };
  multipliers-may-repeat = points-alone;
  distinct-as-points = record {
    equal-points-equal-bytes = λ p m2 h i l. (bytes-of-points p m2 h i l, points-of-bytes p m2 i l);
    distinct-in-field = in_field;
  };
}
