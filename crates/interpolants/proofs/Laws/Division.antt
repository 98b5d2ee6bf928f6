-- Division of shares, place by place.
--
--   eval-append, eval-scale     the value of joined lists, and of a multiple
--   bytes-share                 a share is bytes
--   value-turn, share-turn      one place a of the quotient: a·X^d = a·(X^d + g) + a·g; over bytes, and in each share
--   divided-start               nothing is divided yet
--   divided-turn                one place: the multiple of g by the word at place k − 1 is added to the d places before it
--   divided-end                 all places from d on are the quotient
use Rattle.std.specs.Prelude.{◌≡◌, refl, List, [], ◌∷◌, ◌++◌, map, ℕ, suc, ◌+◌, ◌-◌, ◌≤◌, ◌<◌, length, take, drop, get_or}
use Rattle.std.proofs.Math.Path.{sym}
use Rattle.std.proofs.Common.{ap, ap₂, ◌∙◌, append_assoc, arith, length-append, length-take, length-drop, take-append-drop, drop_of_length-le, take_all, take_at, drop_at, drop-cons, drop-drop, length-take-le}
use Rattle.std.proofs.lemmas.List.{length-map}
use Rattle.lists.specs.Xor.{◌⊕◌}
use Rattle.lists.specs.Xor.Laws.{zero-⊕}
use Rattle.lists.specs.Sum.{xor_list}
use Rattle.lists.specs.Sum.Laws.{length-xor_list}
use Rattle.algebra.specs.Polynomial.{eval, plus, scale, pow}
use Rattle.algebra.specs.Polynomial.Linear.{eval-sum}
use Rattle.algebra.specs.Polynomial.Lengths.{length-scale}
use Rattle.bytefield.specs.Product.{◌⊗◌, byte_ops}
use Rattle.bytefield.specs.Product.Laws.{bytefield, byte-linear, one-⊗, ⊗-lt, ⊗-assoc}
use Rattle.polynomial.specs.Bytes.{Bytes}
use Rattle.polynomial.specs.Bytes.Laws.{bytes-from, bytes-plus, bytes-scale, bytes-append, byte-eval}
use Rattle.packed.specs.Word.{scaled}
use Rattle.packed.specs.Share.{byte_at, share}
use Rattle.packed.specs.Share.Laws.{byte_at-lt, length-share, share-byte, share-append, share-added}
use Rattle.interpolants.specs.Division.{monic_at, with_quotient, Reduced, Divided}

-- ---- values

pub eval-append : (p q : List ℕ) (z : ℕ) → Bytes q → eval byte_ops (p ++ q) z ≡ eval byte_ops p z ⊕ pow byte_ops z (length p) ⊗ eval byte_ops q z
unfolding eval pow
eval-append [] q z h = sym (zero-⊕ _ ∙ one-⊗ (eval byte_ops q z) (byte-eval q z h))
eval-append (a ∷ p) q z h = rw (eval-append p q z h) (simp bytefield)

scale-step : (c a z v : ℕ) → c ⊗ a ⊕ z ⊗ (c ⊗ v) ≡ c ⊗ (a ⊕ z ⊗ v)
scale-step c a z v = simp bytefield

pub eval-scale : (c : ℕ) (p : List ℕ) (z : ℕ) → eval byte_ops (scale byte_ops c p) z ≡ c ⊗ eval byte_ops p z
unfolding eval scale
eval-scale c [] z = simp bytefield
eval-scale c (a ∷ p) z = ap (λ (v : ℕ). c ⊗ a ⊕ z ⊗ v) (eval-scale c p z) ∙ scale-step c a z (eval byte_ops p z)

-- ---- one place of the quotient

turn_step : (p q r g w v a z : ℕ) → p ⊕ w ⊗ (q ⊕ a ⊗ g) ⊕ w ⊗ (g ⊕ v) ⊗ (a ⊕ z ⊗ r) ≡ p ⊕ w ⊗ (q ⊕ v ⊗ (a ⊕ z ⊗ 0)) ⊕ w ⊗ z ⊗ (g ⊕ v) ⊗ r
turn_step p q r g w v a z = simp bytefield

module _ (g p q r : List ℕ) (a z : ℕ) (sized : length q ≡ length g) (bytes : Bytes q) (byte : a < 256) where
  value-turn : with_quotient g (length p) (p ++ plus byte_ops q (scale byte_ops a g)) (a ∷ r) z ≡ with_quotient g (suc (length p)) (p ++ (q ++ (a ∷ []))) r z
  unfolding eval pow
  value-turn =
      let one : Bytes (a ∷ []) = (byte, tt) in
      let pq = bytes-plus q (scale byte_ops a g) bytes (bytes-scale a g) in
      rw (eval-append p (plus byte_ops q (scale byte_ops a g)) z pq, eval-append p (q ++ (a ∷ [])) z (bytes-append q (a ∷ []) bytes one))
      (rw (eval-sum byte_ops byte-linear q (scale byte_ops a g) z (sized ∙ sym (length-scale byte_ops a g)), eval-scale a g z)
      (rw (eval-append q (a ∷ []) z one, sized) (turn_step _ _ _ _ _ _ a z)))

-- ---- shares

pub bytes-share : (i : ℕ) (t : List ℕ) → Bytes (share i t)
bytes-share i t = bytes-from (share i t) (share-byte i t)

-- the front and the back of a list told apart
apart : (g : List ℕ) (k n : ℕ) (s f b : List ℕ) (i z : ℕ) → s ≡ f ++ b → length f ≡ k → k - length g ≡ n
    → with_quotient g (k - length g) (take k (share i s)) (drop k (share i s)) z ≡ with_quotient g n (share i f) (share i b) z
apart g k n s f b i z es ef en =
    let l : length (share i f) ≡ k = length-share i f ∙ ef in
    rw (es, share-append i f b, take_at (share i f) (share i b) k l, drop_at (share i f) (share i b) k l, en) refl

module _ (g p q r : List ℕ) (v : ℕ) (sized : length q ≡ length g) where
  share-turn : (i z : ℕ) → i < 8 → with_quotient g (length p) (share i (p ++ xor_list q (map (scaled v) g))) (share i (v ∷ r)) z
      ≡ with_quotient g (suc (length p)) (share i (p ++ (q ++ (v ∷ [])))) (share i r) z
  unfolding share
  share-turn i z few =
      rw (share-append i p (xor_list q (map (scaled v) g)), share-added i v q g few, share-append i p (q ++ (v ∷ [])), share-append i q (v ∷ []))
      (rw (length-share i p) at
      (value-turn g (share i p) (share i q) (share i r) (byte_at i v) z (length-share i q ∙ sized) (bytes-share i q) (byte_at-lt i v)))

  parts-turn : (k : ℕ) (t t₀ t' : List ℕ) → k ≡ length p + length g + 1 → t ≡ (p ++ (q ++ (v ∷ []))) ++ r → t' ≡ (p ++ xor_list q (map (scaled v) g)) ++ (v ∷ r)
      → Reduced g k t t₀ → Reduced g (k - 1) t' t₀
  parts-turn k t t₀ t' e et et' h i few z =
      let m = length-map g (scaled v) in
      let x : length (xor_list q (map (scaled v) g)) ≡ length q = length-xor_list q (map (scaled v) g) (omega arith) in
      let l : length (p ++ xor_list q (map (scaled v) g)) ≡ k - 1 = simp length-append (omega arith) in
      let n : length (p ++ (q ++ (v ∷ []))) ≡ k = simp length-append (omega arith) in
      apart g (k - 1) (length p) t' (p ++ xor_list q (map (scaled v) g)) (v ∷ r) i z et' l (omega arith) ∙ share-turn i z few
      ∙ sym (apart g k (suc (length p)) t (p ++ (q ++ (v ∷ []))) r i z et n (omega arith)) ∙ h i few z

-- ---- the loop

pub divided-start : (g t : List ℕ) (k : ℕ) → k ≡ length t → Reduced g k t t
unfolding eval
divided-start g t k e i few z =
    let l = length-share i t in
    ap₂ (λ (x y : List ℕ). with_quotient g (k - length g) x y z)
    (take_all k (share i t) (omega arith)) (drop_of_length-le (share i t) {i = k} (omega arith)) ∙ simp bytefield

pub divided-turn : (g t t₀ ys : List ℕ) (low k : ℕ) → 0 < k → low + length g ≡ k - 1 → k ≤ length t
    → ys ≡ xor_list (take (k - 1 - low) (drop low t)) (map (scaled (get_or t (k - 1) 0)) g)
    → Reduced g k t t₀ → Reduced g (k - 1) (take low t ++ (ys ++ drop (k - 1 - low) (drop low t))) t₀
divided-turn g t t₀ ys low k pos el h ey e =
    let p = take low t in
    let n = k - 1 - low in
    let q = take n (drop low t) in
    let v = get_or t (k - 1) 0 in
    let i : low + n ≡ k - 1 = omega arith in
    let d : drop n (drop low t) ≡ v ∷ drop (suc (k - 1)) t = drop-drop n low t ∙ ap (λ (j : ℕ). drop j t) i ∙ drop-cons t (k - 1) 0 (omega arith) in
    let lp : length p ≡ low = length-take-le low t (omega arith) in
    let lq : length q ≡ length g = simp (length-take, length-drop) (omega arith) in
    parts-turn g p q (drop (suc (k - 1)) t) v lq k t t₀ _ (omega arith)
    (sym (take-append-drop low t) ∙ ap (◌++◌ p) (sym (take-append-drop n (drop low t)) ∙ ap (◌++◌ q) d) ∙ simp append_assoc)
    (ap₂ (λ (x y : List ℕ). p ++ (x ++ y)) ey d ∙ simp append_assoc)
    e

closed : (g f b : List ℕ) (z : ℕ) → with_quotient g 0 f b z ≡ eval byte_ops f z ⊕ monic_at g z ⊗ eval byte_ops b z
unfolding pow
closed g f b z = ap (◌⊕◌ (eval byte_ops f z)) (⊗-assoc 1 (monic_at g z) (eval byte_ops b z) ∙ one-⊗ _ (⊗-lt (monic_at g z) (eval byte_ops b z)))

pub divided-end : (g t t₀ : List ℕ) (k : ℕ) → k ≡ length g → Reduced g k t t₀ → Divided g t₀ t
divided-end g t t₀ k e h i few z =
    let o : k - length g ≡ 0 = omega arith in
    rw (o, e, closed g (take (length g) (share i t)) (drop (length g) (share i t)) z) at (h i few z)
