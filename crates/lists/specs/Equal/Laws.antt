-- The laws of `eq_list`: it decides whether two lists are equal.
--
-- eq_list-true, eq_list-false            what its answer says
-- eq_list-refl, eq_list-of               the answer on equal lists
-- eq_list-length                        lists of different lengths
-- eq_list-more, eq_list-stop, eq_list-end a loop that compares has `eq_list (drop i a) (drop i b)` still to answer
use Rattle.std.specs.Prelude.{◌≡◌, refl, ℕ, suc, ◌+◌, ◌≤◌, ◌<◌, true, false, List, [], ◌∷◌, length, drop, get_or, eqb}
use Rattle.std.proofs.Common.{ap, ap₂, add-one, arith, drop_of_length-le}
use Rattle.std.proofs.Math.Decide.{ℕ_discrete}
use Rattle.std.proofs.Math.Bool.{and-false}
use Rattle.std.proofs.Math.Seq.{drop-cons}
use borrow.Author.Tests.{eq-eqb, ne_eqb}
use Rattle.lists.specs.Equal.{eq_list}
use Rattle.lists.specs.Checks.Laws.{and_left, and_right}

-- ---- the answer

eqb-true : (x y : ℕ) → eqb x y ≡ true → x ≡ y
eqb-true x y e = go (ℕ_discrete x y)
  where
    go : Dec (x ≡ y) → x ≡ y
    go (yes q) = q
    go (no q) = absurd (let h : eqb x y ≡ false = ne_eqb x y q in let z : ◌≡◌ {A = ℕ} 0 1 = cc in omega arith)

pub eq_list-true : (a b : List ℕ) → eq_list a b ≡ true → a ≡ b
unfolding eq_list
eq_list-true [] [] e = refl
eq_list-true [] (y ∷ b) e = absurd (let z : ◌≡◌ {A = ℕ} 0 1 = cc in omega arith)
eq_list-true (x ∷ a) [] e = absurd (let z : ◌≡◌ {A = ℕ} 0 1 = cc in omega arith)
eq_list-true (x ∷ a) (y ∷ b) e =
    ap₂ ◌∷◌ (eqb-true x y (and_left (eqb x y) (eq_list a b) e)) (eq_list-true a b (and_right (eqb x y) (eq_list a b) e))

pub eq_list-refl : (a : List ℕ) → eq_list a a ≡ true
unfolding eq_list
eq_list-refl [] = refl
eq_list-refl (x ∷ a) = rw (eq-eqb x x refl, eq_list-refl a)

pub eq_list-of : (a b : List ℕ) → a ≡ b → eq_list a b ≡ true
eq_list-of a b e = rw e (eq_list-refl b)

pub eq_list-false : (a b : List ℕ) → eq_list a b ≡ false → a ≡ b → ⊥
eq_list-false a b e q = let h = eq_list-of a b q in let z : ◌≡◌ {A = ℕ} 0 1 = cc in omega arith

pub eq_list-length : (a b : List ℕ) → (length a ≡ length b → ⊥) → eq_list a b ≡ false
unfolding eq_list
eq_list-length [] [] h = absurd (h refl)
eq_list-length [] (y ∷ b) h = refl
eq_list-length (x ∷ a) [] h = refl
eq_list-length (x ∷ a) (y ∷ b) h = rw (eq_list-length a b (λ e. h (ap suc e))) (and-false (eqb x y))

-- ---- a loop that compares

module _ (a b : List ℕ) (i : ℕ) (ha : i < length a) (hb : i < length b) where
  pub eq_list-more : get_or a i 0 ≡ get_or b i 0 → eq_list (drop i a) (drop i b) ≡ eq_list (drop (i + 1) a) (drop (i + 1) b)
  unfolding eq_list
  eq_list-more e = rw (add-one i, drop-cons a i 0 ha, drop-cons b i 0 hb, eq-eqb (get_or a i 0) (get_or b i 0) e)

  pub eq_list-stop : (get_or a i 0 ≡ get_or b i 0 → ⊥) → eq_list (drop i a) (drop i b) ≡ false
  unfolding eq_list
  eq_list-stop e = rw (drop-cons a i 0 ha, drop-cons b i 0 hb, ne_eqb (get_or a i 0) (get_or b i 0) e)

pub eq_list-end : (a b : List ℕ) (i : ℕ) → length a ≤ i → length b ≤ i → eq_list (drop i a) (drop i b) ≡ true
unfolding eq_list
eq_list-end a b i h k = rw (drop_of_length-le a h, drop_of_length-le b k)
