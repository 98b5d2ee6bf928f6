-- Demand 2, its last clause: 'with a valid key, its matrix and y unchanged throughout, every root and salt that an exchange may start
-- with, all points and multipliers and every leaf of the cube lead to acceptance.' It is about the calls, after any calls of the prover
-- and from any session of the verifier, so that a second exchange counts like the first; of the hash only the length of what it gives is used.
-- It holds for every run count, 1 to 32, with points and multipliers and a leaf for each run (document 02, request 01). 'The always-accepted
-- clause .. [is] then about exchanges with distinct points' (request 02): that is a premise on message 2; multipliers may repeat.
--
-- ValidKey p key x_a     'a valid key': parameters within their limits, matrix, y and x_A of the lengths that document 01 gives them,
--                       y and x_A of bytes, and x of at most w nonzero entries
-- MayStart h salt root  'root and salt that an exchange may start with' after the calls h: of their lengths, and not both equal to those of the
--                       last begin carried out
-- Slices                the work area and the output that each call is lent
-- Leaves p runs is      a leaf of the cube for each run
-- Fitting p runs is lent   outputs of their messages' lengths; 'a work area may be longer, never shorter than 2·D·(k+2w+12t)'
-- prover_begin, verifier_begin, verifier_points, prover_points, verifier_response, verifier_leaf, prover_leaf, verifier_opening
--                       the eight calls in their order, each given what the other session's call wrote, and the same matrix and y
-- LeadsToAcceptance     all eight are carried out, and the opening is accepted
-- Complete hash         the clause
use Rattle.std.specs.Prelude.{◌≡◌, List, ℕ, ◌≤◌, ◌<◌, length}
use Rattle.std.proofs.Math.Option.{some}
use Rattle.parameters.specs.declared.Parameters.{Parameters}
use Rattle.parameters.specs.Limits.{Within}
use Rattle.polynomial.specs.Bytes.{Bytes}
use Rattle.relation.specs.Key.{weight_of, vector_of}
use Rattle.layout.specs.Layout.{leaves, work_length}
use Rattle.layout.specs.Runs.{message1_length, messages2_length, messages3_length, messages5_length}
use Rattle.layout.specs.Runs.Laws.{RunsWithin}
use Rattle.exchange.specs.Values.{Key}
use Rattle.runs.specs.Messages.{leaf_at}
use Rattle.runs.specs.Points.{DistinctPoints}
use Rattle.calls.specs.Prover as prover
use Rattle.calls.specs.Prover.{Prover}
use Rattle.calls.specs.Prover.History.{Begin, Call, after, Made, made, last_begin}
use Rattle.calls.specs.Verifier as verifier
use Rattle.calls.specs.Verifier.{Verifier}
use Rattle.claims.specs.Words.{Lent}
pub mod Sample

-- ---- what is given

pub record ValidKey (p : Parameters) (key : Key) (x_a : List ℕ) : Type 0 where
  pub within : Within p
  pub lent : Lent p key
  pub long : length x_a ≡ p.k
  pub light : weight_of (vector_of key.matrix key.y x_a) ≤ p.w
  pub bytes-y : Bytes key.y
  pub bytes-x_a : Bytes x_a

pub record MayStart (h : List Made) (salt root : List ℕ) : Type 0 where
  pub salt-length : length salt ≡ 32
  pub root-length : length root ≡ 16
  pub not-repeated : (b : Begin) → last_begin h ≡ some b → (salt ≡ b.salt) × (root ≡ b.root) → ⊥

pub record Slices : Type 0 where
  pub begin-work : List ℕ
  pub begin-out : List ℕ
  pub points-work : List ℕ
  pub points-out : List ℕ
  pub leaf-work : List ℕ
  pub leaf-out : List ℕ
  pub opening-work : List ℕ

pub record Leaves (p : Parameters) (runs : ℕ) (is : List ℕ) : Type 0 where
  pub one-a-run : length is ≡ runs
  pub below : (e : ℕ) → e < runs → leaf_at is e < leaves p

pub record Fitting (p : Parameters) (runs : ℕ) (is : List ℕ) (lent : Slices) : Type 0 where
  pub begin-work : work_length p ≤ length lent.begin-work
  pub begin-out : length lent.begin-out ≡ message1_length runs
  pub points-work : work_length p ≤ length lent.points-work
  pub points-out : length lent.points-out ≡ messages3_length runs
  pub leaf-work : work_length p ≤ length lent.leaf-work
  pub leaf-out : length lent.leaf-out ≡ messages5_length p is
  pub opening-work : work_length p ≤ length lent.opening-work

-- ---- the eight calls

module _ (hash : List ℕ → ℕ → List ℕ) (p : Parameters) (runs : ℕ) (key : Key) (x_a : List ℕ) (s : Prover) (v : Verifier)
    (salt root m2 is : List ℕ) (lent : Slices) where
  abbrev pub prover_begin : prover.Outcome
  prover_begin = prover.begin hash s p runs x_a salt root key lent.begin-work lent.begin-out

  abbrev pub verifier_begin : verifier.Outcome
  verifier_begin = verifier.begin v p runs prover_begin.out

  abbrev pub verifier_points : verifier.Outcome
  verifier_points = verifier.points verifier_begin.verifier m2

  abbrev pub prover_points : prover.Outcome
  prover_points = prover.points hash prover_begin.prover m2 key lent.points-work lent.points-out

  abbrev pub verifier_response : verifier.Outcome
  verifier_response = verifier.response verifier_points.verifier prover_points.out

  abbrev pub verifier_leaf : verifier.Outcome
  verifier_leaf = verifier.leaf verifier_response.verifier is

  abbrev pub prover_leaf : prover.Outcome
  prover_leaf = prover.leaf hash prover_points.prover is key lent.leaf-work lent.leaf-out

  abbrev pub verifier_opening : verifier.Judged
  verifier_opening = verifier.opening hash verifier_leaf.verifier prover_leaf.out key lent.opening-work

  pub record LeadsToAcceptance : Type 0 where
    pub prover-begin : prover_begin.answer ≡ 0
    pub verifier-begin : verifier_begin.answer ≡ 0
    pub verifier-points : verifier_points.answer ≡ 0
    pub prover-points : prover_points.answer ≡ 0
    pub verifier-response : verifier_response.answer ≡ 0
    pub verifier-leaf : verifier_leaf.answer ≡ 0
    pub prover-leaf : prover_leaf.answer ≡ 0
    -- of the opening, 0 is accepted
    pub accepted : verifier_opening.answer ≡ 0

-- ---- the clause

abbrev pub Complete : (List ℕ → ℕ → List ℕ) → Type 0
Complete hash = (p : Parameters) (runs : ℕ) → RunsWithin runs → (key : Key) (x_a : List ℕ) → ValidKey p key x_a
    → (cs : List Call) (v : Verifier) (salt root : List ℕ) → MayStart (made hash cs) salt root
    → (m2 : List ℕ) → length m2 ≡ messages2_length p runs → DistinctPoints p runs m2
    → (is : List ℕ) → Leaves p runs is
    → (lent : Slices) → Fitting p runs is lent
    → LeadsToAcceptance hash p runs key x_a (after hash cs) v salt root m2 is lent
