-- Document 02's request 02 at SHAKE256: 'No point twice. The paper's bound draws a set of points. The points of a run must differ pairwise, at
-- prover, verifier and extractor. Multipliers may repeat. The always-accepted clause and demand 3 are then about exchanges with distinct points. A
-- repeated point gets 14, checked straight after 2.' What it says of that clause and of demand 3 is a premise there (`Complete`, `Comparable`).
--
-- DifferPairwise hash   'The points of a run must differ pairwise, at prover, verifier and extractor': a points call that is carried out, on any
--                       session, has distinct points, so have both exchanges of an extractor's call that is, and so has every exchange whose
--                       opening is accepted, after any calls from a fresh session
-- RepeatedPoint         a points call whose checks before 14 pass, 12, 11 and 2, and whose points are not distinct
-- RepeatedInEither      an extractor's call whose checks before 14 pass, 1 and 2, and one of whose exchanges has points that are not distinct
-- Gets14 hash           'A repeated point gets 14, checked straight after 2': 14 is the answer exactly there
-- PointsAlone           'Multipliers may repeat': two messages 2 with the same points have distinct points together, whatever else they hold
-- DistinctInField       points that differ pairwise as elements of the points field
-- AsInField             of messages of bytes, equal as four bytes is equal as points, so distinct points are distinct in the field
-- Request02             all of it
use Rattle.std.specs.Prelude.{◌≡◌, Bool, true, false, List, ◌↔◌, ℕ, ◌<◌, eqb, length}
use Rattle.lists.specs.Checks.{all_true}
use Rattle.shake256.specs.Fips.{SHAKE256}
use Rattle.parameters.specs.declared.Parameters.{Parameters}
use Rattle.parameters.specs.Limits.{Within}
use Rattle.polynomial.specs.Bytes.{Bytes}
use Rattle.layout.specs.Runs.{messages2_length}
use Rattle.layout.specs.Runs.Laws.{RunsWithin}
use Rattle.exchange.specs.Values.{Key, point_of}
use Rattle.runs.specs.Messages.{message2_at}
use Rattle.runs.specs.Points.{point_bytes, distinct_points, DistinctPoints}
use Rattle.runs.specs.Opening.{Transcript}
use Rattle.verifier_phase.specs.declared.Phase.TheVariants.{Begun}
use Rattle.calls.specs.Lengths.{points_lengths}
use Rattle.calls.specs.Prover as prover
use Rattle.calls.specs.Prover.{Prover}
use Rattle.calls.specs.Verifier as verifier
use Rattle.calls.specs.Verifier.{Verifier}
use Rattle.calls.specs.Verifier.History as history
use Rattle.calls.specs.Verifier.Runs.{AcceptedAfter}
use Rattle.calls.specs.Extractor.{number_of, extract_lengths, extraction}

pub record DifferPairwise (hash : List ℕ → ℕ → List ℕ) : Type 0 where
  pub at-prover : (s : Prover) (m2 : List ℕ) (key : Key) (work out : List ℕ) → (prover.points hash s m2 key work out).answer ≡ 0
      → DistinctPoints s.parameters s.runs m2
  pub at-verifier : (s : Verifier) (m2 : List ℕ) → (verifier.points s m2).answer ≡ 0 → DistinctPoints s.parameters s.runs m2
  pub at-extractor : (p : Parameters) (runs : ℕ) (t t' : Transcript) (key : Key) (work out : List ℕ)
      → number_of (extraction hash p runs t t' key work out).answer ≡ 0
      → DistinctPoints p runs t.message2 × DistinctPoints p runs t'.message2
  pub in-accepted-openings : (cs : List history.Call) (m5 : List ℕ) (key : Key) (work : List ℕ) (a : AcceptedAfter hash cs m5 key work)
      → DistinctPoints a.begin.parameters a.begin.runs a.message2

pub record RepeatedPoint (closed due lengths : Bool) (p : Parameters) (runs : ℕ) (m2 : List ℕ) : Type 0 where
  pub not-closed : closed ≡ false
  pub is-due : due ≡ true
  pub lengths-right : lengths ≡ true
  pub not-distinct : DistinctPoints p runs m2 → ⊥

module _ (hash : List ℕ → ℕ → List ℕ) (p : Parameters) (runs : ℕ) (t t' : Transcript) (key : Key) (work out : List ℕ) where
  pub record RepeatedInEither : Type 0 where
    pub within : Within p
    pub counted : RunsWithin runs
    pub lengths-right : all_true (extract_lengths hash p runs t t' key work out) ≡ true
    pub not-both-distinct : DistinctPoints p runs t.message2 × DistinctPoints p runs t'.message2 → ⊥

pub record Gets14 (hash : List ℕ → ℕ → List ℕ) : Type 0 where
  pub at-prover : (s : Prover) (m2 : List ℕ) (key : Key) (work out : List ℕ) → ((prover.points hash s m2 key work out).answer ≡ 14)
      ↔ RepeatedPoint (prover.closed s) (prover.points_due s) (all_true (points_lengths s.parameters s.runs m2 key work out))
      s.parameters s.runs m2
  pub at-verifier : (s : Verifier) (m2 : List ℕ) → ((verifier.points s m2).answer ≡ 14)
      ↔ RepeatedPoint (verifier.closed s) (verifier.due s Begun) (eqb (length m2) (messages2_length s.parameters s.runs))
      s.parameters s.runs m2
  pub at-extractor : (p : Parameters) (runs : ℕ) (t t' : Transcript) (key : Key) (work out : List ℕ)
      → (number_of (extraction hash p runs t t' key work out).answer ≡ 14) ↔ RepeatedInEither hash p runs t t' key work out

abbrev pub PointsAlone : Type 0
PointsAlone = (p : Parameters) (n : ℕ) (m2 m2' : List ℕ)
    → ((e l : ℕ) → e < n → l < p.t → point_bytes (message2_at p m2 e) l ≡ point_bytes (message2_at p m2' e) l)
    → distinct_points p n m2 ≡ distinct_points p n m2'

abbrev pub DistinctInField : Parameters → ℕ → List ℕ → Type 0
DistinctInField p n m2 = (e i l : ℕ) → e < n → i < p.t → l < p.t → (i ≡ l → ⊥)
    → point_of p (message2_at p m2 e) i ≡ point_of p (message2_at p m2 e) l → ⊥

pub record AsInField : Type 0 where
  pub equal-points-equal-bytes : (p : Parameters) (m2 : List ℕ) → Bytes m2 → (i l : ℕ)
      → (point_of p m2 i ≡ point_of p m2 l) ↔ (point_bytes m2 i ≡ point_bytes m2 l)
  pub distinct-in-field : (p : Parameters) (n : ℕ) (m2 : List ℕ) → Bytes m2 → DistinctPoints p n m2 ↔ DistinctInField p n m2

pub record Request02 : Type 0 where
  pub points-differ-pairwise : DifferPairwise SHAKE256
  pub repeated-point-gets-14 : Gets14 SHAKE256
  pub multipliers-may-repeat : PointsAlone
  pub distinct-as-points : AsInField
