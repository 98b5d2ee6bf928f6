-- The first element of a list that passes a test, over any tests.
--
-- head_or g b l        g of the first element of l, or b where there is none
-- head_or-append       of two lists one after the other
-- head_or-those        of those that pass: the first element decides, or the rest
-- head_or-listed       of those of f 0 to f (n − 1) that pass: the least number decides
-- those-those         those that pass one test and then another
-- none≢some, some-inj    None is not Some; what Some holds
-- first_below f n       the least number below n that passes the test f, if one does
-- first_below-some, first_below-none, first_below-is, first_below-inside   what it says of the least number
-- first_below-found, first_below-never   what a search from 0 on has found, or not
-- least-ext           tests that agree below n have the same least number
-- least-found, least-none   what a search from 0 on has found is the least number
use Rattle.std.specs.Prelude.{◌≡◌, Bool, ◌&&◌, ltb, ◌≤◌, Option, Some, None, is_some}
use Rattle.std.specs.Option.{unwrap_or}
use Rattle.std.proofs.Math.Path.{refl, ap, sym}
use Rattle.std.proofs.Common.{◌∙◌, le_refl, arith, lt-ltb, le-ltb, true≢false}
use Rattle.std.proofs.Math.Bool.{true, false, cond}
use mathlib.Core.List.{List, [], ◌∷◌, ◌++◌}
use Prim.Native.Nat.{ℕ, zero, suc, ◌<◌}
use Rattle.std.proofs.Math.Decide.{dec_lt}
use Rattle.exchange.specs.Sequences.{listed, those, least}
use Rattle.exchange.proofs.Sequences.Laws.{those-append, Least, least-is}

unfoldable pub head_or : {A B : Type 0} → (A → B) → B → List A → B
head_or g b [] = b
head_or g b (a ∷ l) = g a

-- ---- the least number

least-one : (f : ℕ → Bool) (n r s : ℕ) → Least f n r → Least f n s → r ≡ s
least-one f n r s h k = go (dec_lt r s) (dec_lt s r)
  where
    never : (i j : ℕ) → Least f n i → Least f n j → i < j → ⊥
    never i j u v l =
        let m = v.most in
        let yes-there : f i ≡ true = u.passes (omega arith) in
        let not_there : f i ≡ false = v.before i l in
        let z : ◌≡◌ {A = ℕ} 0 1 = cc in
        omega arith

    go : Dec (r < s) → Dec (s < r) → r ≡ s
    go (yes l) d = absurd (never r s h k l)
    go (no l) (yes m) = absurd (never s r k h m)
    go (no l) (no m) = omega arith

pub least-found : (f : ℕ → Bool) (n i : ℕ) → i < n → f i ≡ true → ((j : ℕ) → j < i → f j ≡ false) → i ≡ least f n
least-found f n i l t h = least-one f n i (least f n) (record { most = omega arith; passes = λ _. t; before = h }) (least-is f n)

pub least-none : (f : ℕ → Bool) (n : ℕ) → ((j : ℕ) → j < n → f j ≡ false) → n ≡ least f n
least-none f n h = least-one f n n (least f n) (record { most = le_refl n; passes = λ l. absurd (omega arith); before = h }) (least-is f n)

pub least-ext : (f g : ℕ → Bool) (n : ℕ) → ((i : ℕ) → i < n → f i ≡ g i) → least f n ≡ least g n
unfolding least
least-ext f g zero h = refl
least-ext f g (suc n) h = rw (least-ext f g n (λ i l. h i (omega arith)), h n (le_refl (suc n)))

pub none≢some : {A : Type 0} (a : A) → ◌≡◌ {A = Option A} None (Some a) → ⊥
none≢some {A} a e = let b : ◌≡◌ {A = Bool} false true = ap (is_some {T = A}) e in true≢false (sym b)

pub some-inj : {A : Type 0} (a b : A) → ◌≡◌ {A = Option A} (Some a) (Some b) → a ≡ b
some-inj a b e = ap (λ o. unwrap_or o a) e

unfoldable pub first_below : (ℕ → Bool) → ℕ → Option ℕ
first_below f n = cond (ltb (least f n) n) (Some (least f n)) None

module _ (f : ℕ → Bool) (n : ℕ) where
  pub first_below-is : is_some (first_below f n) ≡ ltb (least f n) n
  unfolding first_below
  first_below-is = go (ltb (least f n) n)
    where
      go : (b : Bool) → is_some (cond b (Some (least f n)) None) ≡ b
      go true = refl
      go false = refl

  pub first_below-some : (i : ℕ) → Some i ≡ first_below f n → (i ≡ least f n) × (i < n)
  unfolding first_below
  first_below-some i e = go (dec_lt (least f n) n)
    where
      go : Dec (least f n < n) → (i ≡ least f n) × (i < n)
      go (yes l) =
          let q = some-inj i (least f n) (e ∙ ap (λ (b : Bool). cond b (Some (least f n)) None) (lt-ltb (least f n) n l)) in (q, omega (arith, q))
      go (no l) =
          absurd (none≢some i (sym (e ∙ ap (λ (b : Bool). cond b (Some (least f n)) None) (le-ltb (least f n) n (omega arith)))))

  pub first_below-none : None ≡ first_below f n → n ≤ least f n
  unfolding first_below
  first_below-none e = go (dec_lt (least f n) n)
    where
      go : Dec (least f n < n) → n ≤ least f n
      go (yes l) = absurd (none≢some (least f n) (e ∙ ap (λ (b : Bool). cond b (Some (least f n)) None) (lt-ltb (least f n) n l)))
      go (no l) = omega arith

  pub first_below-inside : least f n < n → first_below f n ≡ Some (least f n)
  unfolding first_below
  first_below-inside l = rw (lt-ltb (least f n) n l)

  pub first_below-found : (i : ℕ) → i < n → f i ≡ true → ((j : ℕ) → j < i → f j ≡ false) → Some i ≡ first_below f n
  unfolding first_below
  first_below-found i l t h = rw (← least-found f n i l t h, lt-ltb i n l)

  pub first_below-never : ((j : ℕ) → j < n → f j ≡ false) → None ≡ first_below f n
  unfolding first_below
  first_below-never h = rw (← least-none f n h, le-ltb n n (le_refl n))

-- ---- the first element

module _ {A B : Type 0} (g : A → B) where
  pub head_or-append : (b : B) (xs ys : List A) → head_or g b (xs ++ ys) ≡ head_or g (head_or g b ys) xs
  unfolding head_or
  head_or-append b [] ys = refl
  head_or-append b (x ∷ xs) ys = refl

  module _ (f : A → Bool) where
    pub head_or-those : (b : B) (a : A) (l : List A) → head_or g b (those f (a ∷ l)) ≡ cond (f a) (g a) (head_or g b (those f l))
    unfolding head_or those
    head_or-those b a l = go (f a)
      where
        go : (t : Bool) → head_or g b (cond t (a ∷ those f l) (those f l)) ≡ cond t (g a) (head_or g b (those f l))
        go true = refl
        go false = refl

    pub head_or-listed : (b : B) (h : ℕ → A) (n : ℕ)
        → head_or g b (those f (listed h n)) ≡ cond (ltb (least (λ i. f (h i)) n) n) (g (h (least (λ i. f (h i)) n))) b
    unfolding listed least
    head_or-listed b h zero = unfold head_or those in refl
    head_or-listed b h (suc n) =
        ap (head_or g b) (those-append f (listed h n) (h n ∷ []))
        ∙ head_or-append b (those f (listed h n)) (those f (h n ∷ []))
        ∙ head_or-listed (head_or g b (those f (h n ∷ []))) h n
        ∙ go (dec_lt (least (λ i. f (h i)) n) n) (f (h n)) refl
      where
        one : head_or g b (those f (h n ∷ [])) ≡ cond (f (h n)) (g (h n)) b
        one = head_or-those b (h n) [] ∙ (unfold head_or those in refl)

        go : Dec (least (λ i. f (h i)) n < n) → (t : Bool) → f (h n) ≡ t
            → cond (ltb (least (λ i. f (h i)) n) n) (g (h (least (λ i. f (h i)) n))) (head_or g b (those f (h n ∷ [])))
            ≡ cond (ltb (least (λ i. f (h i)) (suc n)) (suc n)) (g (h (least (λ i. f (h i)) (suc n)))) b
        go (yes l) t e = rw (lt-ltb (least (λ i. f (h i)) n) n l, lt-ltb (least (λ i. f (h i)) n) (suc n) (omega arith))
        go (no l) true e = rw (le-ltb (least (λ i. f (h i)) n) n (omega arith), one, e, lt-ltb n (suc n) (le_refl (suc n)))
        go (no l) false e = rw (le-ltb (least (λ i. f (h i)) n) n (omega arith), one, e, le-ltb (suc n) (suc n) (le_refl (suc n)))

pub those-those : {A : Type 0} (f f' : A → Bool) (l : List A) → those f' (those f l) ≡ those (λ a. f a && f' a) l
unfolding those
those-those {A} f f' [] = refl
those-those {A} f f' (a ∷ l) = go (f a) (those-those f f' l)
  where
    go : (t : Bool) → those f' (those f l) ≡ those (λ a. f a && f' a) l
        → those f' (cond t (a ∷ those f l) (those f l)) ≡ cond (t && f' a) (a ∷ those (λ a. f a && f' a) l) (those (λ a. f a && f' a) l)
    go true e = ap (λ (r : List A). cond (f' a) (a ∷ r) r) e
    go false e = e
