-- Demand 3, in one piece, about the extractor's call over SHAKE256:
-- 'For every two openings, whoever made them, that are accepted under the same key, salt, commitment, points, multipliers and response digest
-- and hide different leaves, the extractor names two unequal strings hashed to one digest exactly when some two strings that it compares are
-- unequal, and otherwise gives every leaf's state, whose summed x, S, Q, P, a, b, c satisfy Hx = y and ε(SQ − PF)(r) = c − ab at each position;
-- and for every list of such pairs under one key, salt and commitment, free of such strings among them all, that meets m + w different points
-- at one position, each with two unequal multipliers, x is the same in all the pairs and has at most w nonzero entries.'
-- Over exchanges of several runs (document 02, request 01): the hidden leaves differ in at least one run, every such run is extracted, and the points of
-- the second half are counted 'at one position of one run, only from pairs whose hidden leaves differ in that run'. 'The always-accepted clause and
-- demand 3 are then about exchanges with distinct points' (request 02): both halves are, by what makes two openings comparable.
--
-- Demand3       the demand
use Rattle.std.specs.Prelude.{◌≡◌, List, ℕ, ◌≤◌, length}
use Rattle.algebra.specs.Each.{Each}
use Rattle.tower.specs.Field.{Point}
use Rattle.shake256.specs.Fips.{SHAKE256}
use Rattle.parameters.specs.declared.Parameters.{Parameters}
use Rattle.parameters.specs.Limits.{Within}
use Rattle.polynomial.specs.Bytes.{Bytes}
use Rattle.layout.specs.Layout.{work_length}
use Rattle.layout.specs.Runs.{outputs_length}
use Rattle.exchange.specs.Values.{Key}
use Rattle.runs.specs.Opening.{Transcript}
use Rattle.claims.specs.Words.{Comparable}
use Rattle.claims.specs.Extraction.{Extracts}
use Rattle.claims.specs.Weight.{Pair, InBytes, Meeting, OneLightX}

pub record Demand3 : Type 0 where
  -- two openings
  pub extraction : (p : Parameters) (runs : ℕ) (key : Key) (t t' : Transcript) → Comparable SHAKE256 p runs key t t'
      → (work out : List ℕ) → work_length p ≤ length work → length out ≡ outputs_length p runs
      → Extracts SHAKE256 p runs key t t' work out
  -- a list of pairs of openings: the points of run e
  pub weight : (p : Parameters) (runs : ℕ) (key : Key) (e : ℕ) (salt h : List ℕ) (qs : List Pair) (l : ℕ) (rs : List Point)
      → Within p → Bytes key.y → Each InBytes qs → Meeting SHAKE256 p runs key e salt h qs l rs
      → OneLightX SHAKE256 p runs key e qs
