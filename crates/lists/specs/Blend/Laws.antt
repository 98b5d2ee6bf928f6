-- The laws of `blend`, where both lists are of one length. A loop that writes s over l is at a blend.
--
-- blend-none, blend-all      nothing is written yet; everything is
-- blend-late                 an element that is not written yet
-- blend-up                   a turn: v is written at i
use Rattle.std.specs.Prelude.{◌≡◌, refl, ℕ, zero, suc, ◌+◌, ◌≤◌, ◌<◌, List, [], ◌∷◌, length, get_or, set}
use Rattle.std.proofs.Common.{ap, ap₂, ◌∙◌, le_of_suc-le-suc, not-suc-le-zero, add-one, arith}
use Rattle.lists.specs.Blend.{blend}

pub blend-none : (s l : List ℕ) → l ≡ blend 0 s l
unfolding blend
blend-none s l = refl

pub blend-all : (i : ℕ) (s l : List ℕ) → length s ≡ length l → length l ≤ i → blend i s l ≡ s
unfolding blend
blend-all zero [] [] e h = refl
blend-all zero (a ∷ s) [] e h = absurd (omega (arith, e))
blend-all zero s (b ∷ l) e h = absurd (not-suc-le-zero h)
blend-all (suc i) [] l e h = refl
blend-all (suc i) (a ∷ s) [] e h = absurd (omega (arith, e))
blend-all (suc i) (a ∷ s) (b ∷ l) e h = ap (◌∷◌ a) (blend-all i s l (omega (arith, e)) (le_of_suc-le-suc h))

-- ---- elements

pub blend-late : (i k : ℕ) (s l : List ℕ) → length s ≡ length l → i ≤ k → get_or (blend i s l) k 0 ≡ get_or l k 0
unfolding blend
blend-late zero k s l e h = refl
blend-late (suc i) k [] [] e h = refl
blend-late (suc i) k [] (b ∷ l) e h = absurd (omega (arith, e))
blend-late (suc i) k (a ∷ s) [] e h = absurd (omega (arith, e))
blend-late (suc i) zero (a ∷ s) (b ∷ l) e h = absurd (not-suc-le-zero h)
blend-late (suc i) (suc k) (a ∷ s) (b ∷ l) e h = blend-late i k s l (omega (arith, e)) (le_of_suc-le-suc h)

-- ---- a turn: p holds the blend

up_suc : (i : ℕ) (s l : List ℕ) → length s ≡ length l → i < length l → set (blend i s l) i (get_or s i 0) ≡ blend (suc i) s l
unfolding blend
up_suc i s [] e h = absurd (not-suc-le-zero h)
up_suc i [] (b ∷ l) e h = absurd (omega (arith, e))
up_suc zero (a ∷ s) (b ∷ l) e h = refl
up_suc (suc i) (a ∷ s) (b ∷ l) e h = ap (◌∷◌ a) (up_suc i s l (omega (arith, e)) (le_of_suc-le-suc h))

pub blend-up : (i v : ℕ) (s l p : List ℕ) → length s ≡ length l → i < length l → p ≡ blend i s l → v ≡ get_or s i 0 → set p i v ≡ blend (i + 1) s l
blend-up i v s l p e h ep ev = ap₂ (λ (q : List ℕ) (w : ℕ). set q i w) ep ev ∙ rw (add-one i) (up_suc i s l e h)
