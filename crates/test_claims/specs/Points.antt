-- Distinct points (document 02, request 02): messages 2 of two runs at three positions, so of three points and three multipliers a run.
--
-- multipliers         three multipliers, all 1
-- run0                a run whose points differ in every byte, with these multipliers
-- same_in_both_runs      the same points in both runs, and all multipliers equal: distinct, for a point is held against those of its own run alone
-- first_and_third       the first and the third point of run 1 are equal, neighbours differ: not distinct
-- three_bytes          points that differ in one byte of four, the last or the first: distinct
-- answers             a verifier after begin takes the first message and the third, and answers 14 to the second
use Rattle.std.specs.Prelude.{◌≡◌, refl, true, false, List, [], ◌∷◌, ◌++◌, ℕ, replicate}
use Rattle.std.proofs.Common.{sym, ◌∙◌}
use Rattle.std.proofs.lemmas.Bool.{false≢true}
use Rattle.parameters.specs.declared.Parameters.{Parameters}
use Rattle.runs.specs.Points.{distinct_points, DistinctPoints}
use Rattle.runs.proofs.Points.Distinct.{points-distinct, distinct-points}
use Rattle.calls.specs.Lengths.{leaves_below}
use Rattle.calls.specs.Verifier.{intact, standing, closed, due, begun, points_checks, pointed, points}
use Rattle.test_standin.specs.Definitions.{definitions}

abbrev p : Parameters
p = record { m = 2; k = 1; w = 1; axes = 1; t = 3 }

abbrev multipliers : List ℕ
multipliers = 1 ∷ 0 ∷ 0 ∷ 0 ∷ 1 ∷ 0 ∷ 0 ∷ 0 ∷ 1 ∷ 0 ∷ 0 ∷ 0 ∷ []

abbrev run0 : List ℕ
run0 = (16 ∷ 17 ∷ 18 ∷ 19 ∷ 20 ∷ 21 ∷ 22 ∷ 23 ∷ 24 ∷ 25 ∷ 26 ∷ 27 ∷ []) ++ multipliers

abbrev same_in_both_runs : List ℕ
same_in_both_runs = run0 ++ run0

abbrev first_and_third : List ℕ
first_and_third = run0 ++ ((16 ∷ 17 ∷ 18 ∷ 19 ∷ 20 ∷ 21 ∷ 22 ∷ 23 ∷ 16 ∷ 17 ∷ 18 ∷ 19 ∷ []) ++ multipliers)

abbrev three_bytes : List ℕ
three_bytes = run0 ++ ((16 ∷ 17 ∷ 18 ∷ 19 ∷ 16 ∷ 17 ∷ 18 ∷ 20 ∷ 17 ∷ 17 ∷ 18 ∷ 19 ∷ []) ++ multipliers)

tests : (distinct_points p 2 same_in_both_runs ≡ true) × (distinct_points p 2 first_and_third ≡ false) × (distinct_points p 2 three_bytes ≡ true)
unfolding definitions
tests = (refl, refl, refl)

pub same-in-both-runs : DistinctPoints p 2 same_in_both_runs
same-in-both-runs = points-distinct p 2 same_in_both_runs tests.0

pub first-and-third : DistinctPoints p 2 first_and_third → ⊥
first-and-third d = false≢true (sym tests.1 ∙ distinct-points p 2 first_and_third d)

pub three-bytes : DistinctPoints p 2 three_bytes
three-bytes = points-distinct p 2 three_bytes tests.2

pub answers : ((points (begun p 2 (replicate 96 0)) same_in_both_runs).answer ≡ 0)
    × ((points (begun p 2 (replicate 96 0)) first_and_third).answer ≡ 14)
    × ((points (begun p 2 (replicate 96 0)) three_bytes).answer ≡ 0)
unfolding points points_checks pointed begun closed due standing intact leaves_below definitions
answers = (refl, refl, refl)
