-- The laws of distinct points.
--
-- all_listed, listed-all   all tests f 0 to f (n−1) pass, as a row and one by one
-- some-fails               where one of them fails, the row does
-- all_none, all_more, all_end   a row starts, goes on where the next test passes, and ends
-- new-when, new_then       no point before point l is equal to it
use Rattle.std.specs.Prelude.{◌≡◌, Bool, ◌&&◌, List, [], ◌∷◌, ◌++◌}
use Rattle.std.proofs.Math.Path.{refl, sym, ap}
use Rattle.std.proofs.Common.{◌∙◌, not-suc-le-zero, le_refl, add-one, arith}
use Rattle.std.proofs.Math.Bool.{true, false, not, false≢true}
use Prim.Native.Nat.{ℕ, zero, suc, ◌+◌, ◌≤◌, ◌<◌}
use Rattle.std.proofs.Math.Decide.{dec_lt, ℕ_discrete}
use Rattle.lists.specs.Checks.{all_true}
use Rattle.lists.specs.Checks.Laws.{and_left, and_right, not_so}
use Rattle.lists.specs.Equal.{eq_list}
use Rattle.lists.specs.Equal.Laws.{eq_list-true, eq_list-of}
use Rattle.parameters.specs.declared.Parameters.{Parameters}
use Rattle.exchange.specs.Sequences.{listed}
use Rattle.runs.specs.Messages.{message2_at}
use Rattle.runs.specs.Points.{point_bytes, new_point, distinct_in, distinct_points, DistinctPoints}

-- ---- tests in a row

all_one : (bs : List Bool) (b : Bool) → all_true (bs ++ (b ∷ [])) ≡ (all_true bs && b)
all_one [] true = refl
all_one [] false = refl
all_one (true ∷ bs) b = all_one bs b
all_one (false ∷ bs) b = refl

module _ (f : ℕ → Bool) where
  pub all_listed : (n : ℕ) → ((i : ℕ) → i < n → f i ≡ true) → all_true (listed f n) ≡ true
  unfolding listed
  all_listed zero h = refl
  all_listed (suc n) h = all_one (listed f n) (f n) ∙ rw (all_listed n (λ i l. h i (omega arith)), h n (le_refl (suc n)))

  pub listed-all : (n : ℕ) → all_true (listed f n) ≡ true → (i : ℕ) → i < n → f i ≡ true
  unfolding listed
  listed-all zero e i l = absurd (not-suc-le-zero l)
  listed-all (suc n) e i l = go (ℕ_discrete i n) (listed-all n (and_left _ (f n) both) i)
    where
      both : (all_true (listed f n) && f n) ≡ true
      both = sym (all_one (listed f n) (f n)) ∙ e

      go : Dec (i ≡ n) → (i < n → f i ≡ true) → f i ≡ true
      go (yes q) ih = ap f q ∙ and_right (all_true (listed f n)) (f n) both
      go (no q) ih = ih (omega arith)

  pub some-fails : (n i : ℕ) → i < n → f i ≡ false → all_true (listed f n) ≡ false
  some-fails n i l e = sym (not_so (all_true (listed f n)) (λ q. false≢true (sym e ∙ listed-all n q i l)))

  pub all_none : all_true (listed f 0) ≡ true
  unfolding listed
  all_none = refl

  pub all_more : (n : ℕ) → all_true (listed f n) ≡ true → f n ≡ true → all_true (listed f (n + 1)) ≡ true
  unfolding listed
  all_more n h e = ap (λ (m : ℕ). all_true (listed f m)) (add-one n) ∙ all_one (listed f n) (f n) ∙ rw (h, e)

  pub all_end : (n i : ℕ) → i ≤ n → n ≤ i → all_true (listed f i) ≡ true → true ≡ all_true (listed f n)
  all_end n i l k h = let q : n ≡ i = omega arith in sym (ap (λ (j : ℕ). all_true (listed f j)) q ∙ h)

-- ---- points

module _ (m2 : List ℕ) where
  pub new-when : (l : ℕ) → ((i : ℕ) → i < l → point_bytes m2 i ≡ point_bytes m2 l → ⊥) → new_point m2 l ≡ true
  unfolding new_point
  new-when l h = all_listed _ l (λ i k. go i k (eq_list (point_bytes m2 i) (point_bytes m2 l)) refl)
    where
      go : (i : ℕ) → i < l → (b : Bool) → eq_list (point_bytes m2 i) (point_bytes m2 l) ≡ b → not b ≡ true
      go i k true q = absurd (h i k (eq_list-true (point_bytes m2 i) (point_bytes m2 l) q))
      go i k false q = refl

  pub new_then : (l : ℕ) → new_point m2 l ≡ true → (i : ℕ) → i < l → point_bytes m2 i ≡ point_bytes m2 l → ⊥
  unfolding new_point
  new_then l e i k q =
      false≢true (sym (ap not (eq_list-of (point_bytes m2 i) (point_bytes m2 l) q)) ∙ listed-all (λ i. not (eq_list (point_bytes m2 i) (point_bytes m2 l))) l e i k)
