-- The laws of families put into lists.
--
-- append_inj               equal joins of two lists, the first ones of one length, have equal parts
-- bytes_drop               what is left of a list of bytes
-- length-joined            the length of n joined lists of one length
-- joined-ext, joined-inj   equal lists give equal joins; lists of one length with equal joins are equal
-- joined_at, part-joined   list i is found at its place
-- joined-rest              what follows the joined lists stands behind them
-- joined-parts             a list of n blocks of one size is the join of its blocks
-- joined-zeros             blocks of zeros
-- bytes-joined             joined lists of bytes are bytes
-- length-listed, get_d-listed   the length of a listed family, and its member i
-- listed-ext               equal members give equal lists
-- mem-listed, listed-mem   the elements of `listed f n` are f 0 to f (n−1)
-- mem-those, those-mem     the elements of `those f l` are the elements of l that pass
-- those-append             the elements that pass, of two lists one after the other
-- those-none, none-those   there are none exactly where every element of l fails
-- First, those-first       the first element that passes: it is one of l, and all before it fail
-- Least, least-is          the least number below n that passes: it passes, and all before it fail
use Rattle.std.proofs.Math.Path.{◌≡◌, refl, sym, ap, ap₂, subst}
use Rattle.std.proofs.Common.{◌∙◌, inl, inr, not-suc-le-zero, le_of_eq, suc-mul, zero-mul, lt-ltb, le-ltb, take-add, take_all, take_at, drop_at}
use Rattle.std.specs.Prelude.{Bool, ◌⊎◌, ltb, length, drop, replicate}
use Rattle.std.proofs.Math.Bool.{true, false, cond}
use Rattle.std.proofs.Math.Logic.{⊎_elim}
use mathlib.Core.List.Memᴰ
use mathlib.Core.List.{List, [], ◌∷◌, ◌++◌, append_assoc, append-nil, Memᴰ}
use Prim.Native.Nat.{ℕ, zero, suc, ◌+◌, ◌*◌, ◌≤◌, ◌<◌}
use Rattle.std.proofs.Math.Nat.{le_refl}
use Rattle.std.proofs.Math.Numerals.{add-one}
use Rattle.std.proofs.Math.Decide.{dec_lt, ℕ_discrete}
use native.Mathlib.Omega.{arith}
use Rattle.std.proofs.Math.ListN.{get_or, take, length-append, get_or-append}
use Rattle.std.proofs.lemmas.List.{replicate-append-replicate}
use Rattle.std.proofs.Math.Seq.{get_or_at}
use Rattle.lists.specs.Part.{part}
use Rattle.polynomial.specs.Bytes.{Bytes}
use Rattle.polynomial.specs.Bytes.Laws.{bytes-append}
use Rattle.exchange.specs.Sequences.{joined, listed, those, least}

pub append_inj : {A : Type 0} (a b c d : List A) → length a ≡ length c → a ++ b ≡ c ++ d → (a ≡ c) × (b ≡ d)
append_inj a b c d l e = (
  sym (take_at a b (length a) refl) ∙ ap (take (length a)) e ∙ take_at c d (length a) (sym l),
  sym (drop_at a b (length a) refl) ∙ ap (drop (length a)) e ∙ drop_at c d (length a) (sym l),
)

-- ---- bytes

pub bytes_drop : (n : ℕ) (s : List ℕ) → Bytes s → Bytes (drop n s)
bytes_drop zero s h = h
bytes_drop (suc n) [] h = tt
bytes_drop (suc n) (x ∷ s) h = bytes_drop n s h.1

-- ---- joined

pub joined-ext : (f g : ℕ → List ℕ) (n : ℕ) → ((i : ℕ) → i < n → f i ≡ g i) → joined f n ≡ joined g n
unfolding joined
joined-ext f g zero h = refl
joined-ext f g (suc n) h = ap₂ ◌++◌ (joined-ext f g n (λ i l. h i (omega arith))) (h n (le_refl (suc n)))

pub bytes-joined : (f : ℕ → List ℕ) (n : ℕ) → ((i : ℕ) → i < n → Bytes (f i)) → Bytes (joined f n)
unfolding joined
bytes-joined f zero h = tt
bytes-joined f (suc n) h = bytes-append (joined f n) (f n) (bytes-joined f n (λ i l. h i (omega arith))) (h n (le_refl (suc n)))

pub length-joined : (f : ℕ → List ℕ) (n size : ℕ) → ((i : ℕ) → i < n → length (f i) ≡ size) → length (joined f n) ≡ n * size
unfolding joined
length-joined f zero size h = sym (zero-mul size)
length-joined f (suc n) size h =
    length-append (joined f n) (f n) ∙ ap₂ ◌+◌ (length-joined f n size (λ i l. h i (omega arith))) (h n (le_refl (suc n))) ∙ sym (suc-mul n size)

pub joined-inj : (f g : ℕ → List ℕ) (n size : ℕ) → ((i : ℕ) → i < n → length (f i) ≡ size) → ((i : ℕ) → i < n → length (g i) ≡ size)
    → joined f n ≡ joined g n → (i : ℕ) → i < n → f i ≡ g i
unfolding joined
joined-inj f g zero size hf hg e i l = absurd (not-suc-le-zero l)
joined-inj f g (suc n) size hf hg e i l = go (ℕ_discrete i n) (joined-inj f g n size (λ i l. hf i (omega arith)) (λ i l. hg i (omega arith)))
  where
    parts : (joined f n ≡ joined g n) × (f n ≡ g n)
    parts =
        append_inj (joined f n) (f n) (joined g n) (g n)
        (length-joined f n size (λ i l. hf i (omega arith)) ∙ sym (length-joined g n size (λ i l. hg i (omega arith)))) e

    go : Dec (i ≡ n) → (joined f n ≡ joined g n → (i : ℕ) → i < n → f i ≡ g i) → f i ≡ g i
    go (yes q) ih = ap f q ∙ parts.1 ∙ ap g (sym q)
    go (no q) ih = ih parts.0 i (omega arith)

module _ (f : ℕ → List ℕ) (size : ℕ) where
  pub joined_at : (n : ℕ) → ((i : ℕ) → i < n → length (f i) ≡ size) → (rest : List ℕ) (i : ℕ) → i < n
      → take size (drop (i * size) (joined f n ++ rest)) ≡ f i
  unfolding joined
  joined_at zero h rest i l = absurd (not-suc-le-zero l)
  joined_at (suc n) h rest i l = regroup ∙ go (ℕ_discrete i n) (joined_at n (λ i l. h i (omega arith)) (f n ++ rest) i)
    where
      regroup : take size (drop (i * size) ((joined f n ++ f n) ++ rest)) ≡ take size (drop (i * size) (joined f n ++ (f n ++ rest)))
      regroup = ap (λ (s : List ℕ). take size (drop (i * size) s)) (append_assoc (joined f n) (f n) rest)

      go : Dec (i ≡ n) → (i < n → take size (drop (i * size) (joined f n ++ (f n ++ rest))) ≡ f i)
          → take size (drop (i * size) (joined f n ++ (f n ++ rest))) ≡ f i
      go (yes e) ih =
          ap (take size)
          (drop_at (joined f n) (f n ++ rest) (i * size)
          (length-joined f n size (λ i l. h i (omega arith)) ∙ ap (λ (k : ℕ). k * size) (sym e)))
          ∙ take_at (f n) rest size (h n (le_refl (suc n))) ∙ ap f (sym e)
      go (no e) ih = ih (omega arith)

  pub part-joined : (n : ℕ) → ((i : ℕ) → i < n → length (f i) ≡ size) → (i : ℕ) → i < n → part (joined f n) (i * size) size ≡ f i
  unfolding part
  part-joined n h i l = ap (λ (s : List ℕ). take size (drop (i * size) s)) (sym (append-nil (joined f n))) ∙ joined_at n h [] i l

  pub joined-rest : (n : ℕ) → ((i : ℕ) → i < n → length (f i) ≡ size) → (rest : List ℕ) → drop (n * size) (joined f n ++ rest) ≡ rest
  joined-rest n h rest = drop_at (joined f n) rest (n * size) (length-joined f n size h)

front : (d : List ℕ) (size n : ℕ) → take (n * size) d ≡ joined (λ q. part d (q * size) size) n
unfolding joined part
front d size zero = ap (λ (k : ℕ). take k d) (zero-mul size)
front d size (suc n) =
    ap (λ (k : ℕ). take k d) (suc-mul n size) ∙ take-add (n * size) size d
    ∙ ap (λ (s : List ℕ). s ++ take size (drop (n * size) d)) (front d size n)

pub joined-parts : (d : List ℕ) (size n : ℕ) → length d ≡ n * size → d ≡ joined (λ q. part d (q * size) size) n
joined-parts d size n e = sym (take_all (n * size) d (le_of_eq e)) ∙ front d size n

pub joined-zeros : (size n : ℕ) → joined (λ q. replicate size 0) n ≡ replicate (n * size) 0
unfolding joined
joined-zeros size zero = ap (λ (k : ℕ). replicate k 0) (sym (zero-mul size))
joined-zeros size (suc n) =
    ap (λ (s : List ℕ). s ++ replicate size 0) (joined-zeros size n) ∙ replicate-append-replicate (n * size) size 0
    ∙ ap (λ (k : ℕ). replicate k 0) (sym (suc-mul n size))

-- ---- listed

module _ {A : Type 0} where
  pub listed-ext : (f g : ℕ → A) (n : ℕ) → ((i : ℕ) → i < n → f i ≡ g i) → listed f n ≡ listed g n
  unfolding listed
  listed-ext f g zero h = refl
  listed-ext f g (suc n) h =
      ap₂ (λ (l : List A) (a : A). l ++ (a ∷ [])) (listed-ext f g n (λ i l. h i (omega arith))) (h n (le_refl (suc n)))

  pub length-listed : (f : ℕ → A) (n : ℕ) → length (listed f n) ≡ n
  unfolding listed
  length-listed f zero = refl
  length-listed f (suc n) = length-append (listed f n) (f n ∷ []) ∙ ap (λ (k : ℕ). k + 1) (length-listed f n) ∙ add-one n

  pub get_d-listed : (f : ℕ → A) (n i : ℕ) (d : A) → i < n → get_or (listed f n) i d ≡ f i
  unfolding listed
  get_d-listed f zero i d l = absurd (not-suc-le-zero l)
  get_d-listed f (suc n) i d l = go (ℕ_discrete i n) (get_d-listed f n i d)
    where
      go : Dec (i ≡ n) → (i < n → get_or (listed f n) i d ≡ f i) → get_or (listed f n ++ (f n ∷ [])) i d ≡ f i
      go (yes e) ih = get_or_at (listed f n) (f n) [] d i (length-listed f n ∙ sym e) ∙ ap f (sym e)
      go (no e) ih = get_or-append (listed f n) (f n ∷ []) d i (omega (arith, length-listed f n)) ∙ ih (omega arith)

  pub mem-listed : (f : ℕ → A) (n i : ℕ) → i < n → Memᴰ (f i) (listed f n)
  unfolding listed
  mem-listed f zero i l = absurd (not-suc-le-zero l)
  mem-listed f (suc n) i l = go (ℕ_discrete i n) (mem-listed f n i)
    where
      go : Dec (i ≡ n) → (i < n → Memᴰ (f i) (listed f n)) → Memᴰ (f i) (listed f n ++ (f n ∷ []))
      go (yes e) ih = Memᴰ.append_right (listed f n) (Memᴰ.head (ap f e))
      go (no e) ih = Memᴰ.append_left (f n ∷ []) (ih (omega arith))

  pub listed-mem : (f : ℕ → A) (n : ℕ) (a : A) → Memᴰ a (listed f n) → (i : ℕ) × (i < n) × (a ≡ f i)
  unfolding listed
  listed-mem f zero a m = absurd (Memᴰ.not-nil m)
  listed-mem f (suc n) a m = go (Memᴰ.append_cases (listed f n) m) (listed-mem f n a)
    where
      go : Memᴰ a (listed f n) ⊎ Memᴰ a (f n ∷ []) → (Memᴰ a (listed f n) → (i : ℕ) × (i < n) × (a ≡ f i))
          → (i : ℕ) × (i < suc n) × (a ≡ f i)
      go (inl k) ih = ((ih k).0, let l = (ih k).1 in omega arith, (ih k).2)
      go (inr k) ih = (n, le_refl (suc n), Memᴰ.eq_of_singleton k)

-- ---- those

module _ {A : Type 0} (f : A → Bool) where
  pub those-append : (xs ys : List A) → those f (xs ++ ys) ≡ those f xs ++ those f ys
  unfolding those
  those-append [] ys = refl
  those-append (x ∷ xs) ys = go (f x) (those-append xs ys)
    where
      go : (t : Bool) → those f (xs ++ ys) ≡ those f xs ++ those f ys
          → cond t (x ∷ those f (xs ++ ys)) (those f (xs ++ ys)) ≡ cond t (x ∷ those f xs) (those f xs) ++ those f ys
      go true ih = ap (◌∷◌ x) ih
      go false ih = ih

  pub mem-those : (a : A) (l : List A) → Memᴰ a l → f a ≡ true → Memᴰ a (those f l)
  unfolding those
  mem-those a l (Memᴰ.head {x} {xs} e) h =
      subst (λ (t : Bool). Memᴰ a (cond t (x ∷ those f xs) (those f xs))) (sym (ap f (sym e) ∙ h)) (Memᴰ.head e)
  mem-those a l (Memᴰ.tail {x} {xs} m) h = go (f x) (mem-those a xs m h)
    where
      go : (t : Bool) → Memᴰ a (those f xs) → Memᴰ a (cond t (x ∷ those f xs) (those f xs))
      go true k = Memᴰ.tail k
      go false k = k

  pub those-mem : (l : List A) (a : A) → Memᴰ a (those f l) → Memᴰ a l × (f a ≡ true)
  unfolding those
  those-mem [] a m = absurd (Memᴰ.not-nil m)
  those-mem (x ∷ l) a m = go (f x) refl m (those-mem l a)
    where
      go : (t : Bool) → f x ≡ t → Memᴰ a (cond t (x ∷ those f l) (those f l)) → (Memᴰ a (those f l) → Memᴰ a l × (f a ≡ true))
          → Memᴰ a (x ∷ l) × (f a ≡ true)
      go true e k ih = ⊎_elim (λ q. (Memᴰ.head q, ap f q ∙ e)) (λ q. (Memᴰ.tail (ih q).0, (ih q).1)) (Memᴰ.cases_cons k)
      go false e k ih = (Memᴰ.tail (ih k).0, (ih k).1)

  pub those-none : (l : List A) → ((a : A) → Memᴰ a l → f a ≡ false) → those f l ≡ []
  unfolding those
  those-none [] h = refl
  those-none (x ∷ l) h = rw (h x (Memᴰ.head refl)) (those-none l (λ a m. h a (Memᴰ.tail m)))

  pub none-those : (l : List A) → those f l ≡ [] → (a : A) → Memᴰ a l → f a ≡ false
  none-those l e a m = go (f a) refl
    where
      go : (t : Bool) → f a ≡ t → f a ≡ false
      go true q = absurd (Memᴰ.not-nil (subst (Memᴰ a) e (mem-those a l m q)))
      go false q = q

  pub record First (l : List A) (a : A) : Type 0 where
    pub before : List A
    pub after : List A
    pub is : l ≡ before ++ (a ∷ after)
    pub passes : f a ≡ true
    pub fail : (b : A) → Memᴰ b before → f b ≡ false

  pub those-first : (l : List A) (a : A) (r : List A) → those f l ≡ a ∷ r → First l a
  unfolding those
  those-first [] a r e = absurd (let z : ◌≡◌ {A = ℕ} 0 1 = cc in omega arith)
  those-first (x ∷ l) a r e = go (f x) refl e (those-first l a r)
    where
      go : (t : Bool) → f x ≡ t → cond t (x ∷ those f l) (those f l) ≡ a ∷ r → (those f l ≡ a ∷ r → First l a) → First (x ∷ l) a
      go true q e ih =
          let s : x ≡ a = cc in
          record { before = []; after = l; is = ap (λ (y : A). y ∷ l) s; passes = ap f (sym s) ∙ q; fail = λ b m. absurd (Memᴰ.not-nil m) }
      go false q e ih =
          let i = ih e in
          record {
            before = x ∷ i.before;
            after = i.after;
            is = ap (◌∷◌ x) i.is;
            passes = i.passes;
            fail = λ b m. ⊎_elim (λ s. ap f s ∙ q) (i.fail b) (Memᴰ.cases_cons m);
          }

-- ---- least

pub record Least (f : ℕ → Bool) (n r : ℕ) : Type 0 where
  pub most : r ≤ n
  pub passes : r < n → f r ≡ true
  pub before : (i : ℕ) → i < r → f i ≡ false

pub least-is : (f : ℕ → Bool) (n : ℕ) → Least f n (least f n)
unfolding least
least-is f zero = record { most = omega arith; passes = λ l. absurd (not-suc-le-zero l); before = λ i l. absurd (not-suc-le-zero l) }
least-is f (suc n) = go (dec_lt (least f n) n) (least-is f n)
  where
    last : (t : Bool) → f n ≡ t → least f n ≡ n → Least f n (least f n) → Least f (suc n) (cond t n (suc n))
    last true e q ih = record { most = omega arith; passes = λ l. e; before = λ i l. ih.before i (omega arith) }
    last false e q ih = record { most = omega arith; passes = λ l. absurd (omega arith); before = λ i l. below i l (ℕ_discrete i n) }
      where
        below : (i : ℕ) → i < suc n → Dec (i ≡ n) → f i ≡ false
        below i l (yes z) = ap f z ∙ e
        below i l (no z) = ih.before i (omega arith)

    go : Dec (least f n < n) → Least f n (least f n) → Least f (suc n) (cond (ltb (least f n) n) (least f n) (cond (f n) n (suc n)))
    go (yes l) ih =
        rw (lt-ltb (least f n) n l) (record { most = omega (arith, ih.most); passes = λ _. ih.passes l; before = ih.before })
    go (no l) ih = rw (le-ltb (least f n) n (omega arith)) (last (f n) refl (let h = ih.most in omega arith) ih)
