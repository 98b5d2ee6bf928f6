-- The laws of `xor_list` and `xor_at`.
--
-- get_d-xor_list                        an element of a sum, also past the end of a list
-- length-xor_list, length-xor_at        lengths, where the list added is the shorter
-- xor_list-comm, -assoc, -nil, -self   an addition in which each list is its own negative
-- xor_list-zeros                       zeros change nothing
-- xor_list-append                      sums of joined lists
-- take-, drop-, part-xor_list          each part of a sum is the sum of the parts, with no condition on lengths
-- xor_list-none, xor_list-more          a loop that adds s to d has come to `xor_list d (take i s)`
use Rattle.std.specs.Prelude.{◌≡◌, refl, ℕ, zero, suc, ◌+◌, ◌≤◌, ◌<◌, List, [], ◌∷◌, ◌++◌, length, take, drop, get_or, set, replicate}
use Rattle.std.proofs.Common.{sym, ap, ap₂, ◌∙◌, not-suc-le-zero, le_of_suc-le-suc, add-one, arith}
use Rattle.lists.specs.Xor.{◌⊕◌}
use Rattle.lists.specs.Xor.Laws.{⊕-assoc, ⊕-comm, ⊕-zero, zero-⊕, ⊕-self}
use Rattle.lists.specs.Part.{part}
use Rattle.lists.specs.Part.Laws.{length_part, length-put_at}
use Rattle.lists.specs.Sum.{xor_list, xor_at}

-- ---- elements and lengths

pub get_d-xor_list : (s t : List ℕ) (i : ℕ) → get_or (xor_list s t) i 0 ≡ get_or s i 0 ⊕ get_or t i 0
unfolding xor_list
get_d-xor_list [] t i = sym (zero-⊕ (get_or t i 0))
get_d-xor_list (x ∷ s) [] i = sym (⊕-zero (get_or (x ∷ s) i 0))
get_d-xor_list (x ∷ s) (y ∷ t) zero = refl
get_d-xor_list (x ∷ s) (y ∷ t) (suc i) = get_d-xor_list s t i

pub length-xor_list : (s t : List ℕ) → length t ≤ length s → length (xor_list s t) ≡ length s
unfolding xor_list
length-xor_list [] [] h = refl
length-xor_list [] (y ∷ t) h = absurd (not-suc-le-zero h)
length-xor_list (x ∷ s) [] h = refl
length-xor_list (x ∷ s) (y ∷ t) h = ap suc (length-xor_list s t (le_of_suc-le-suc h))

-- ---- an addition

pub xor_list-nil : (s : List ℕ) → xor_list s [] ≡ s
unfolding xor_list
xor_list-nil [] = refl
xor_list-nil (x ∷ s) = refl

pub xor_list-comm : (s t : List ℕ) → xor_list s t ≡ xor_list t s
unfolding xor_list
xor_list-comm [] t = sym (xor_list-nil t)
xor_list-comm (x ∷ s) [] = refl
xor_list-comm (x ∷ s) (y ∷ t) = ap₂ ◌∷◌ (⊕-comm x y) (xor_list-comm s t)

pub xor_list-assoc : (s t u : List ℕ) → xor_list (xor_list s t) u ≡ xor_list s (xor_list t u)
unfolding xor_list
xor_list-assoc [] t u = refl
xor_list-assoc (x ∷ s) [] u = refl
xor_list-assoc (x ∷ s) (y ∷ t) [] = refl
xor_list-assoc (x ∷ s) (y ∷ t) (z ∷ u) = ap₂ ◌∷◌ (⊕-assoc x y z) (xor_list-assoc s t u)

pub xor_list-self : (s : List ℕ) → xor_list s s ≡ replicate (length s) 0
unfolding xor_list
xor_list-self [] = refl
xor_list-self (x ∷ s) = ap₂ ◌∷◌ (⊕-self x) (xor_list-self s)

pub xor_list-zeros : (s : List ℕ) (n : ℕ) → n ≤ length s → xor_list s (replicate n 0) ≡ s
unfolding xor_list
xor_list-zeros s zero h = xor_list-nil s
xor_list-zeros [] (suc n) h = absurd (not-suc-le-zero h)
xor_list-zeros (x ∷ s) (suc n) h = ap₂ ◌∷◌ (⊕-zero x) (xor_list-zeros s n (le_of_suc-le-suc h))

-- ---- parts

pub xor_list-append : (a a' b b' : List ℕ) → length a ≡ length a' → xor_list (a ++ b) (a' ++ b') ≡ xor_list a a' ++ xor_list b b'
unfolding xor_list
xor_list-append [] [] b b' e = refl
xor_list-append [] (y ∷ a') b b' e = absurd (omega arith)
xor_list-append (x ∷ a) [] b b' e = absurd (omega arith)
xor_list-append (x ∷ a) (y ∷ a') b b' e = ap (◌∷◌ (x ⊕ y)) (xor_list-append a a' b b' (omega arith))

pub take-xor_list : (n : ℕ) (s t : List ℕ) → take n (xor_list s t) ≡ xor_list (take n s) (take n t)
unfolding xor_list
take-xor_list zero s t = refl
take-xor_list (suc n) [] t = refl
take-xor_list (suc n) (x ∷ s) [] = refl
take-xor_list (suc n) (x ∷ s) (y ∷ t) = ap (◌∷◌ (x ⊕ y)) (take-xor_list n s t)

pub drop-xor_list : (n : ℕ) (s t : List ℕ) → drop n (xor_list s t) ≡ xor_list (drop n s) (drop n t)
unfolding xor_list
drop-xor_list zero s t = refl
drop-xor_list (suc n) [] t = refl
drop-xor_list (suc n) (x ∷ s) [] = sym (xor_list-nil (drop n s))
drop-xor_list (suc n) (x ∷ s) (y ∷ t) = drop-xor_list n s t

pub part-xor_list : (s t : List ℕ) (at n : ℕ) → part (xor_list s t) at n ≡ xor_list (part s at n) (part t at n)
unfolding part
part-xor_list s t at n = ap (take n) (drop-xor_list at s t) ∙ take-xor_list n (drop at s) (drop at t)

-- ---- a loop that adds

pub xor_list-none : (d s : List ℕ) → d ≡ xor_list d (take 0 s)
xor_list-none d s = sym (xor_list-nil d)

xor_list-suc : (d s : List ℕ) (i : ℕ) → i < length d → i < length s
    → set (xor_list d (take i s)) i (get_or (xor_list d (take i s)) i 0 ⊕ get_or s i 0) ≡ xor_list d (take (suc i) s)
unfolding xor_list
xor_list-suc [] s i h k = absurd (not-suc-le-zero h)
xor_list-suc (x ∷ d) [] i h k = absurd (not-suc-le-zero k)
xor_list-suc (x ∷ d) (y ∷ s) zero h k = ap (◌∷◌ (x ⊕ y)) (xor_list-none d s)
xor_list-suc (x ∷ d) (y ∷ s) (suc i) h k = ap (◌∷◌ (x ⊕ y)) (xor_list-suc d s i (le_of_suc-le-suc h) (le_of_suc-le-suc k))

pub xor_list-more : (d s : List ℕ) (i : ℕ) → i < length d → i < length s
    → set (xor_list d (take i s)) i (get_or (xor_list d (take i s)) i 0 ⊕ get_or s i 0) ≡ xor_list d (take (i + 1) s)
xor_list-more d s i h k = rw (add-one i) (xor_list-suc d s i h k)

-- ---- xor_at

pub length-xor_at : (d : List ℕ) (at : ℕ) (s : List ℕ) → at + length s ≤ length d → length (xor_at d at s) ≡ length d
unfolding xor_at
length-xor_at d at s fits =
    let e = length_part d at (length s) fits in
    let f = length-xor_list (part d at (length s)) s (omega arith) in
    length-put_at d at (xor_list (part d at (length s)) s) (omega arith)
