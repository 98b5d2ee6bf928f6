-- The laws of the order.
--
-- told cs            checks as conditions: the number of each, which holds where the check fails
-- absent n cs        no check of the list has the number n
-- picked ns cs       the numbers of the checks are picked from ns, in its order and none twice
-- picked_first       checks that are picked from ns answer the first number of ns whose condition holds
-- picked-order       the same of document 01's order
-- none_of ns f        no condition of ns holds
-- none_first         the answer is 0 where no condition of ns holds
-- First ns f n       n is one of ns, its condition holds, and none before it does
-- first-none         a number that is not one of ns is the answer only where it is 0 and no condition of ns holds
-- first-is           any other answer is the first of ns whose condition holds
-- answer-carried     so by document 01's order: 0 exactly when no condition holds
-- six-unanswered     6 is never the answer
-- answer-first       any other answer is the first number of the order whose condition holds
use Rattle.std.specs.Prelude.{◌≡◌, refl, Bool, ◌&&◌, ◌||◌, not, cond, List, [], ◌∷◌, ◌++◌, ◌↔◌, ℕ, eqb}
use Rattle.std.proofs.Math.Path.{sym}
use Rattle.std.proofs.Common.{ap, ◌∙◌, arith, eqb-true, eq-eqb}
use Rattle.std.proofs.Math.Bool.{true, false, and-false}
use Rattle.std.proofs.lemmas.Bool.{false≢true}
use Rattle.lists.specs.Checks.Laws.{and_left, and_right}
use Rattle.answers.specs.declared.Refusal.{Refusal}
use Rattle.answers.specs.Number.{refusal_number, answer_number}
use Rattle.answers.specs.Checks.{checks}
use Rattle.answers.specs.Order.{Conditions, order, holds, first_of, answer_of}

unfoldable pub told : List (Bool × Refusal) → Conditions
told [] = []
told (c ∷ cs) = (refusal_number c.1, not c.0) ∷ told cs

unfoldable pub absent : ℕ → List (Bool × Refusal) → Bool
absent n [] = true
absent n (c ∷ cs) = not (eqb n (refusal_number c.1)) && absent n cs

unfoldable pub picked : List ℕ → List (Bool × Refusal) → Bool
picked ns [] = true
picked [] (c ∷ cs) = false
picked (n ∷ ns) (c ∷ cs) = absent n cs && cond (eqb n (refusal_number c.1)) (picked ns cs) (picked ns (c ∷ cs))

-- ---- the first number

unfoldable pub none_of : List ℕ → (ℕ → Bool) → Bool
none_of [] f = true
none_of (n ∷ ns) f = not (f n) && none_of ns f

pub none_first : (ns : List ℕ) (f : ℕ → Bool) → none_of ns f ≡ true → first_of ns f ≡ 0
unfolding first_of none_of
none_first [] f h = refl
none_first (n ∷ ns) f h = go (f n) (none_first ns f) h
  where
    go : (b : Bool) → (none_of ns f ≡ true → first_of ns f ≡ 0) → (not b && none_of ns f) ≡ true → cond b n (first_of ns f) ≡ 0
    go true ih q = absurd (false≢true q)
    go false ih q = ih q

none-empty : (ns : List ℕ) → none_of ns (holds []) ≡ true
unfolding none_of holds
none-empty [] = refl
none-empty (n ∷ ns) = none-empty ns

pub record First (ns : List ℕ) (f : ℕ → Bool) (n : ℕ) : Type 0 where
  pub before : List ℕ
  pub behind : List ℕ
  pub stands : ns ≡ before ++ (n ∷ behind)
  pub holds-here : f n ≡ true
  pub none_before : none_of before f ≡ true

pub first-none : (ns : List ℕ) (f : ℕ → Bool) (m : ℕ) → none_of ns (λ n. eqb n m) ≡ true → first_of ns f ≡ m → (m ≡ 0) × (none_of ns f ≡ true)
unfolding first_of none_of
first-none [] f m p e = (sym e, refl)
first-none (n ∷ ns) f m p e = go (f n) (first-none ns f m (and_right (not (eqb n m)) _ p)) e
  where
    go : (b : Bool) → (first_of ns f ≡ m → (m ≡ 0) × (none_of ns f ≡ true)) → cond b n (first_of ns f) ≡ m → (m ≡ 0) × ((not b && none_of ns f) ≡ true)
    go true ih z = absurd (false≢true (sym (ap not (eq-eqb n m z)) ∙ and_left (not (eqb n m)) _ p))
    go false ih z = ih z

pub first-is : (ns : List ℕ) (f : ℕ → Bool) → (first_of ns f ≡ 0 → ⊥) → First ns f (first_of ns f)
unfolding first_of none_of
first-is [] f h = absurd (h refl)
first-is (n ∷ ns) f h = go (f n) refl (first-is ns f) h
  where
    go : (b : Bool) → f n ≡ b → ((first_of ns f ≡ 0 → ⊥) → First ns f (first_of ns f)) → (cond b n (first_of ns f) ≡ 0 → ⊥)
        → First (n ∷ ns) f (cond b n (first_of ns f))
    go true q ih z = record { before = []; behind = ns; stands = refl; holds-here = q; none_before = refl }
    go false q ih z =
        let r = ih z in
        record { before = n ∷ r.before; behind = r.behind; stands = ap (n ∷◌) r.stands; holds-here = r.holds-here; none_before = rw q r.none_before }

first-same : (ns : List ℕ) (f g : ℕ → Bool) → ((n : ℕ) → f n ≡ g n) → first_of ns f ≡ first_of ns g
unfolding first_of
first-same [] f g h = refl
first-same (n ∷ ns) f g h = rw (h n, first-same ns f g h)

-- ---- checks picked from a list of numbers

absent-holds : (n : ℕ) (cs : List (Bool × Refusal)) → absent n cs ≡ true → holds (told cs) n ≡ false
unfolding absent holds told
absent-holds n [] e = refl
absent-holds n (c ∷ cs) e = go (eqb n (refusal_number c.1)) (absent-holds n cs) e
  where
    go : (b : Bool) → (absent n cs ≡ true → holds (told cs) n ≡ false) → (not b && absent n cs) ≡ true → ((b && not c.0) || holds (told cs) n) ≡ false
    go true ih q = absurd (false≢true q)
    go false ih q = ih q

passed-holds : (r : Refusal) (cs : List (Bool × Refusal)) (n : ℕ) → holds (told ((true, r) ∷ cs)) n ≡ holds (told cs) n
unfolding holds told
passed-holds r cs n = rw (and-false (eqb n (refusal_number r)))

-- the first check of a row, from whether it has the number n and whether it passes
module _ (n : ℕ) (ns : List ℕ) (r : Refusal) (cs : List (Bool × Refusal)) (out : absent n cs ≡ true) where
  abbrev Row : Bool → Bool → Type 0
  Row same b = eqb n (refusal_number r) ≡ same → cond same (picked ns cs) (picked ns ((b, r) ∷ cs)) ≡ true
      → (picked ns cs ≡ true → answer_number (checks cs) ≡ first_of ns (holds (told cs)))
      → (picked ns ((b, r) ∷ cs) ≡ true → answer_number (checks ((b, r) ∷ cs)) ≡ first_of ns (holds (told ((b, r) ∷ cs))))
      → answer_number (checks ((b, r) ∷ cs)) ≡ first_of (n ∷ ns) (holds (told ((b, r) ∷ cs)))

  step : (same b : Bool) → Row same b
  unfolding first_of holds told
  step true true e q tail whole =
      rw (e, absent-holds n cs out) (tail q ∙ sym (first-same ns (holds (told ((true, r) ∷ cs))) (holds (told cs)) (passed-holds r cs)))
  step true false e q tail whole = rw e (sym (eqb-true n (refusal_number r) e))
  step false b e q tail whole = rw (e, absent-holds n cs out) (whole q)

pub picked_first : (ns : List ℕ) (cs : List (Bool × Refusal)) → picked ns cs ≡ true → answer_number (checks cs) ≡ first_of ns (holds (told cs))
unfolding picked told
picked_first [] [] e = sym (none_first [] (holds []) (none-empty []))
picked_first (n ∷ ns) [] e = sym (none_first (n ∷ ns) (holds []) (none-empty (n ∷ ns)))
picked_first [] (c ∷ cs) e = absurd (false≢true e)
picked_first (n ∷ ns) ((b, r) ∷ cs) e =
    step n ns r cs (and_left (absent n cs) _ e) (eqb n (refusal_number r)) b refl (and_right (absent n cs) _ e) (picked_first ns cs) (picked_first ns ((b, r) ∷ cs))

pub picked-order : (cs : List (Bool × Refusal)) → picked order cs ≡ true → answer_number (checks cs) ≡ answer_of (told cs)
unfolding answer_of
picked-order cs e = picked_first order cs e

-- ---- the answer by the order

pub answer-carried : (cs : Conditions) → answer_of cs ≡ 0 ↔ none_of order (holds cs) ≡ true
unfolding answer_of none_of first_of
answer-carried cs = (λ e. (first-none order (holds cs) 0 refl e).1, none_first order (holds cs))

pub six-unanswered : (cs : Conditions) → answer_of cs ≡ 6 → ⊥
unfolding answer_of none_of
six-unanswered cs e = let z : ◌≡◌ {A = ℕ} 6 0 = (first-none order (holds cs) 6 refl e).0 in omega arith

pub answer-first : (cs : Conditions) → (answer_of cs ≡ 0 → ⊥) → First order (holds cs) (answer_of cs)
unfolding answer_of
answer-first cs h = first-is order (holds cs) h
