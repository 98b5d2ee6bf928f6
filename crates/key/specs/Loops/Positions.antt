-- The marks of E, one position after the other, while k positions may still be filled in.
--
--   chosen a k           is a position with the entry a in E?
--   spared a k           how many may be filled in after it
--   chosen-zero, -other, spared-zero, -other
--                        both by whether the entry is zero
--   marks_from k i x      the marks from position i on
--   points_from i x       the interpolation points from position i on
--   marks-start          all marks are those of E
--   marks-step, points-step, marks-end
--                        what a turn takes off their front, and that nothing is left at the end
use Rattle.std.specs.Prelude.{◌≡◌, refl, Bool, true, false, List, [], ◌∷◌, ℕ, zero, suc, ◌+◌, ◌-◌, ◌≤◌, ◌<◌, length, drop, get_or, ltb}
use Rattle.std.proofs.Common.{sym, ap, ◌∙◌, add-one, arith, drop_of_length-le, drop-cons, lt-ltb}
use Rattle.polynomial.specs.Interpolant.{ascending}
use Rattle.relation.specs.Key.{weight_of, filled, positions}

unfoldable pub chosen : ℕ → ℕ → Bool
chosen (suc a) k = true
chosen zero zero = false
chosen zero (suc k) = true

unfoldable pub spared : ℕ → ℕ → ℕ
spared (suc a) k = k
spared zero zero = 0
spared zero (suc k) = k

pub chosen-other : (a k : ℕ) → (a ≡ 0 → ⊥) → true ≡ chosen a k
unfolding chosen
chosen-other zero k h = absurd (h refl)
chosen-other (suc a) k h = refl

pub chosen-zero : (a k : ℕ) → a ≡ 0 → ltb 0 k ≡ chosen a k
unfolding chosen
chosen-zero zero zero h = refl
chosen-zero zero (suc k) h = lt-ltb 0 (suc k) (omega arith)
chosen-zero (suc a) k h = absurd (omega (arith, h))

pub spared_other : (a k : ℕ) → (a ≡ 0 → ⊥) → k ≡ spared a k
unfolding spared
spared_other zero k h = absurd (h refl)
spared_other (suc a) k h = refl

pub spared-zero : (a k r : ℕ) → a ≡ 0 → r ≡ k - 1 → r ≡ spared a k
unfolding spared
spared-zero zero zero r h e = omega (arith, e)
spared-zero zero (suc k) r h e = omega (arith, e)
spared-zero (suc a) k r h e = absurd (omega (arith, h))

filled-cons : (k a : ℕ) (x : List ℕ) → filled k (a ∷ x) ≡ chosen a k ∷ filled (spared a k) x
unfolding filled chosen spared
filled-cons k (suc a) x = refl
filled-cons zero zero x = refl
filled-cons (suc k) zero x = refl

abbrev pub marks_from : ℕ → ℕ → List ℕ → List Bool
marks_from k i x = filled k (drop i x)

abbrev pub points_from : ℕ → List ℕ → List ℕ
points_from i x = ascending (i + 1) (length x - i)

pub marks-start : (w k : ℕ) (x : List ℕ) → k ≡ w - weight_of x → marks_from k 0 x ≡ positions w x
unfolding positions
marks-start w k x e = ap (λ (j : ℕ). filled j x) e

pub marks-step : (k i : ℕ) (x : List ℕ) → i < length x → marks_from k i x ≡ chosen (get_or x i 0) k ∷ marks_from (spared (get_or x i 0) k) (i + 1) x
marks-step k i x h =
    ap (filled k) (drop-cons x i 0 h ∙ ap (λ (j : ℕ). get_or x i 0 ∷ drop j x) (sym (add-one i))) ∙ filled-cons k (get_or x i 0) (drop (i + 1) x)

pub points-step : (i : ℕ) (x : List ℕ) → i < length x → points_from i x ≡ (i + 1) ∷ points_from (i + 1) x
unfolding ascending
points-step i x h =
    let n : length x - i ≡ suc (length x - (i + 1)) = omega arith in
    let s : suc (i + 1) ≡ i + 1 + 1 = omega arith in
    ap (ascending (i + 1)) n ∙ ap (λ (a : ℕ). (i + 1) ∷ ascending a (length x - (i + 1))) s

pub marks-end : (k i : ℕ) (x : List ℕ) → length x ≤ i → marks_from k i x ≡ []
unfolding filled
marks-end k i x h = ap (filled k) (drop_of_length-le x h)
