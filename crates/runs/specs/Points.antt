-- Distinct points: 'The points of a run must differ pairwise .. Multipliers may repeat' (document 02, request 02). Points are equal where their four bytes
-- are, and each is held against those of its own run alone.
--
-- point_bytes m2 l         the four bytes of point l in a run's message 2
-- new_point m2 l           no point before it is equal to it
-- distinct_in t m2         so it is at all t positions of a run
-- distinct_points p n m2   so it is in each of n runs
-- DistinctPoints p n m2   the same as a statement: the points at two positions of one run differ
use Rattle.std.specs.Prelude.{◌≡◌, Bool, not, List, ℕ, ◌*◌, ◌<◌}
use Rattle.lists.specs.Checks.{all_true}
use Rattle.lists.specs.Equal.{eq_list}
use Rattle.parameters.specs.declared.Parameters.{Parameters}
use Rattle.exchange.specs.Sequences.{listed}
use Rattle.exchange.specs.Reading.{bytes_at}
use Rattle.runs.specs.Messages.{message2_at}

abbrev pub point_bytes : List ℕ → ℕ → List ℕ
point_bytes m2 l = bytes_at m2 (4 * l) 4

unfoldable pub new_point : List ℕ → ℕ → Bool
new_point m2 l = all_true (listed (λ i. not (eq_list (point_bytes m2 i) (point_bytes m2 l))) l)

unfoldable pub distinct_in : ℕ → List ℕ → Bool
distinct_in t m2 = all_true (listed (new_point m2) t)

unfoldable pub distinct_points : Parameters → ℕ → List ℕ → Bool
distinct_points p n m2 = all_true (listed (λ e. distinct_in p.t (message2_at p m2 e)) n)

abbrev pub DistinctPoints : Parameters → ℕ → List ℕ → Type 0
DistinctPoints p n m2 = (e i l : ℕ) → e < n → i < p.t → l < p.t → (i ≡ l → ⊥)
    → point_bytes (message2_at p m2 e) i ≡ point_bytes (message2_at p m2 e) l → ⊥
