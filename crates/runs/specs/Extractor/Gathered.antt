-- Lists one after another.
--
-- gathered-ext, mem-gathered, gathered-mem   what they depend on, and their elements
-- gathered_none, none-gathered   they are empty exactly where each is
-- FirstOf, gathered-first, first-gathered   their first element is that of the lowest list that has one
-- those-gathered, those-map      the elements that pass, of lists one after another, and of a list's images
-- mem-map, map-mem               the elements of a list's images
use Rattle.std.proofs.Math.Path.{◌≡◌, refl, ap, ap₂}
use Rattle.std.proofs.Common.{sym, ◌∙◌, subst, inl, inr, not-suc-le-zero}
use Rattle.std.specs.Prelude.{Bool, true, false, cond, ◌⊎◌}
use mathlib.Core.List.Memᴰ
use mathlib.Core.List.{List, [], ◌∷◌, ◌++◌, map, Memᴰ}
use Prim.Native.Nat.{ℕ, zero, suc, ◌<◌}
use Rattle.std.proofs.Math.Nat.{le_refl}
use Rattle.std.proofs.Math.Decide.{ℕ_discrete}
use native.Mathlib.Omega.{arith}
use Rattle.exchange.specs.Sequences.{those}
use Rattle.exchange.proofs.Sequences.Laws.{those-append}
use Rattle.runs.specs.Extractor.{gathered}

-- ---- lists one after another

module _ {A : Type 0} (f : ℕ → List A) where
  pub mem-gathered : (n e : ℕ) (a : A) → e < n → Memᴰ a (f e) → Memᴰ a (gathered f n)
  unfolding gathered
  mem-gathered zero e a l m = absurd (not-suc-le-zero l)
  mem-gathered (suc n) e a l m = go (ℕ_discrete e n) (mem-gathered n e a)
    where
      go : Dec (e ≡ n) → (e < n → Memᴰ a (f e) → Memᴰ a (gathered f n)) → Memᴰ a (gathered f n ++ f n)
      go (yes q) ih = Memᴰ.append_right (gathered f n) (subst (λ (e : ℕ). Memᴰ a (f e)) q m)
      go (no q) ih = Memᴰ.append_left (f n) (ih (omega arith) m)

  pub gathered-mem : (n : ℕ) (a : A) → Memᴰ a (gathered f n) → (e : ℕ) × (e < n) × Memᴰ a (f e)
  unfolding gathered
  gathered-mem zero a m = absurd (Memᴰ.not-nil m)
  gathered-mem (suc n) a m = go (Memᴰ.append_cases (gathered f n) m) (gathered-mem n a)
    where
      go : Memᴰ a (gathered f n) ⊎ Memᴰ a (f n) → (Memᴰ a (gathered f n) → (e : ℕ) × (e < n) × Memᴰ a (f e))
          → (e : ℕ) × (e < suc n) × Memᴰ a (f e)
      go (inl k) ih = ((ih k).0, let l = (ih k).1 in omega arith, (ih k).2)
      go (inr k) ih = (n, le_refl (suc n), k)

  pub gathered_none : (n : ℕ) → ((e : ℕ) → e < n → f e ≡ []) → gathered f n ≡ []
  unfolding gathered
  gathered_none zero h = refl
  gathered_none (suc n) h = ap₂ ◌++◌ (gathered_none n (λ e l. h e (omega arith))) (h n (le_refl (suc n)))

  pub none-gathered : (n : ℕ) → gathered f n ≡ [] → (e : ℕ) → e < n → f e ≡ []
  none-gathered n q e l = go (f e) refl
    where
      go : (xs : List A) → f e ≡ xs → f e ≡ []
      go [] h = h
      go (x ∷ xs) h = absurd (Memᴰ.not-nil (subst (Memᴰ x) q (mem-gathered n e x l (subst (Memᴰ x) (sym h) (Memᴰ.head refl)))))

  pub record FirstOf (n : ℕ) (a : A) : Type 0 where
    pub at : ℕ
    pub inside : at < n
    pub rest : List A
    pub is : f at ≡ a ∷ rest
    pub before : (e : ℕ) → e < at → f e ≡ []

  pub gathered-first : (n : ℕ) (a : A) (rest : List A) → gathered f n ≡ a ∷ rest → FirstOf n a
  unfolding gathered
  gathered-first zero a rest q = absurd (let z : ◌≡◌ {A = ℕ} 0 1 = cc in omega arith)
  gathered-first (suc n) a rest q = go (gathered f n) refl q (gathered-first n a)
    where
      go : (xs : List A) → gathered f n ≡ xs → xs ++ f n ≡ a ∷ rest → ((rest : List A) → gathered f n ≡ a ∷ rest → FirstOf n a) → FirstOf (suc n) a
      go [] h k ih = record { at = n; inside = le_refl (suc n); rest = rest; is = k; before = none-gathered n h }
      go (x ∷ xs) h k ih =
          let s : x ≡ a = cc in
          let i = ih xs (h ∙ ap (λ (y : A). y ∷ xs) s) in
          record { at = i.at; inside = let l = i.inside in omega arith; rest = i.rest; is = i.is; before = i.before }

  pub first-gathered : (n : ℕ) (a : A) → FirstOf n a → (rest : List A) × (gathered f n ≡ a ∷ rest)
  unfolding gathered
  first-gathered zero a h = absurd (not-suc-le-zero h.inside)
  first-gathered (suc n) a h = go (ℕ_discrete h.at n) (first-gathered n a)
    where
      go : Dec (h.at ≡ n) → (FirstOf n a → (rest : List A) × (gathered f n ≡ a ∷ rest)) → (rest : List A) × (gathered f n ++ f n ≡ a ∷ rest)
      go (yes q) ih = (h.rest, ap₂ ◌++◌ (gathered_none n (λ e l. h.before e (omega arith))) (ap f (sym q) ∙ h.is))
      go (no q) ih =
          let i = ih (record { at = h.at; inside = let l = h.inside in omega arith; rest = h.rest; is = h.is; before = h.before }) in
          (i.0 ++ f n, ap (λ (xs : List A). xs ++ f n) i.1)

pub gathered-ext : {A : Type 0} (f g : ℕ → List A) (n : ℕ) → ((e : ℕ) → e < n → f e ≡ g e) → gathered f n ≡ gathered g n
unfolding gathered
gathered-ext f g zero h = refl
gathered-ext f g (suc n) h = ap₂ ◌++◌ (gathered-ext f g n (λ e l. h e (omega arith))) (h n (le_refl (suc n)))

pub those-gathered : {A : Type 0} (g : A → Bool) (f : ℕ → List A) (n : ℕ) → those g (gathered f n) ≡ gathered (λ e. those g (f e)) n
unfolding gathered those
those-gathered g f zero = refl
those-gathered g f (suc n) = those-append g (gathered f n) (f n) ∙ ap (λ l. l ++ those g (f n)) (those-gathered g f n)

pub those-map : {A B : Type 0} (g : B → Bool) (h : A → B) (l : List A) → those g (map h l) ≡ map h (those (λ a. g (h a)) l)
unfolding those
those-map g h [] = refl
those-map g h (a ∷ l) = go (g (h a)) (those-map g h l)
  where
    go : (t : Bool) → those g (map h l) ≡ map h (those (λ a. g (h a)) l)
        → cond t (h a ∷ those g (map h l)) (those g (map h l)) ≡ map h (cond t (a ∷ those (λ a. g (h a)) l) (those (λ a. g (h a)) l))
    go true ih = ap (◌∷◌ (h a)) ih
    go false ih = ih

pub mem-map : {A B : Type 0} (h : A → B) (a : A) (l : List A) → Memᴰ a l → Memᴰ (h a) (map h l)
mem-map h a l (Memᴰ.head e) = Memᴰ.head (ap h e)
mem-map h a l (Memᴰ.tail {x} {xs} m) = Memᴰ.tail (mem-map h a xs m)

pub map-mem : {A B : Type 0} (h : A → B) (l : List A) (b : B) → Memᴰ b (map h l) → (a : A) × Memᴰ a l × (b ≡ h a)
map-mem h [] b m = absurd (Memᴰ.not-nil m)
map-mem h (x ∷ l) b m = go (Memᴰ.cases_cons m) (map-mem h l b)
  where
    go : (b ≡ h x) ⊎ Memᴰ b (map h l) → (Memᴰ b (map h l) → (a : _) × Memᴰ a l × (b ≡ h a)) → (a : _) × Memᴰ a (x ∷ l) × (b ≡ h a)
    go (inl q) ih = (x, Memᴰ.head refl, q)
    go (inr k) ih = ((ih k).0, Memᴰ.tail (ih k).1, (ih k).2)
