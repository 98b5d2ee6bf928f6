-- The quotient of the power sums by the complement is S, share by share.
--
--   share-end            the end of a share behind zeros
--   monic-value          the value of a polynomial whose leading coefficient is 1
--   length-low           the complement has 255 − m other coefficients
--   quotient-made        what is G(f_i)·x_i at each point and zero at the bytes above m leaves zeros and S of x
--   share-made           so the power sums leave zeros and S
use Rattle.std.specs.Prelude.{◌≡◌, refl, List, [], ◌∷◌, ◌++◌, ℕ, zero, suc, ◌+◌, ◌-◌, ◌<◌, length, take, drop, get_or, replicate}
use Rattle.std.proofs.Common.{sym, ap, ◌∙◌, arith, lit<, length-drop, take-append-drop, drop_at, length-take-le}
use Rattle.std.proofs.lemmas.List.{length-replicate}
use Rattle.lists.specs.Part.Laws.{tail-part}
use Rattle.lists.specs.Xor.{◌⊕◌}
use Rattle.algebra.specs.Polynomial.{eval, pow}
use Rattle.bytefield.specs.Product.{◌⊗◌, byte_ops}
use Rattle.bytefield.specs.Product.Laws.{bytefield, ⊗-lt, one-⊗}
use Rattle.polynomial.specs.Bytes.{Bytes}
use Rattle.polynomial.specs.Bytes.Laws.{bytes_take}
use Rattle.polynomial.specs.Interpolant.{interpolant_of}
use Rattle.packed.specs.Share.{share}
use Rattle.packed.specs.Share.Laws.{length-share}
use Rattle.interpolants.specs.PowerSum.{times_each, PowerSums}
use Rattle.interpolants.specs.Complement.{complement_of, scales_of}
use Rattle.interpolants.proofs.Laws.Complement.{length-complement, complement-monic}
use Rattle.interpolants.proofs.Laws.Interpolating.{transform-elsewhere, transform-here, interpolant-made}
use Rattle.interpolants.specs.Division.{Divided}
use Rattle.interpolants.proofs.Laws.Division.{eval-append, bytes-share}

share-drop : (i n : ℕ) (t : List ℕ) → share i (drop n t) ≡ drop n (share i t)
unfolding share
share-drop i zero t = refl
share-drop i (suc n) [] = refl
share-drop i (suc n) (v ∷ t) = share-drop i n t

-- the end as it is lent
pub share-end : (i m : ℕ) (a x : List ℕ) → share i a ≡ replicate (255 - m) 0 ++ x → share i (take (length a - (255 - m)) (drop (255 - m) a)) ≡ x
share-end i m a x e =
    ap (share i) (tail-part a (255 - m)) ∙ share-drop i (255 - m) a ∙ ap (drop (255 - m)) e
    ∙ drop_at (replicate (255 - m) 0) x (255 - m) (length-replicate (255 - m) 0)

pow-byte : (z n : ℕ) → pow byte_ops z n < 256
unfolding pow
pow-byte z zero = lit< tt
pow-byte z (suc n) = ⊗-lt (pow byte_ops z n) z

pub monic-value : (p g : List ℕ) (n z : ℕ) → p ≡ g ++ (1 ∷ []) → length g ≡ n → eval byte_ops p z ≡ eval byte_ops g z ⊕ pow byte_ops z n
unfolding eval
monic-value p g n z e l =
    let one : pow byte_ops z n ⊗ (1 ⊕ z ⊗ 0) ≡ pow byte_ops z n = simp bytefield (one-⊗ _ (pow-byte z n)) in
    rw (e, eval-append g (1 ∷ []) z (lit< tt, tt), l) (ap (◌⊕◌ (eval byte_ops g z)) one)

module _ (m : ℕ) (few : m < 256) where
  pub length-low : (g : List ℕ) → g ≡ complement_of m → length (take (255 - m) g) ≡ 255 - m
  length-low g e = let l : length g ≡ 256 - m = ap length e ∙ length-complement m few in length-take-le (255 - m) g (omega arith)

  -- a is what division of t by the complement left
  pub quotient-made : (i : ℕ) (x t a g : List ℕ) → i < 8 → length a ≡ 255 → g ≡ complement_of m → length x ≡ m → Bytes x
      → ((z : ℕ) → m < z → z < 256 → eval byte_ops (share i t) z ≡ 0)
      → ((j : ℕ) → j < m → eval byte_ops (share i t) (1 + j) ≡ eval byte_ops (complement_of m) (1 + j) ⊗ get_or x j 0)
      → Divided (take (255 - m) g) t a → share i a ≡ replicate (255 - m) 0 ++ interpolant_of x
  quotient-made i x t a g h la eg lx bx elsewhere here divided =
      let l = length-low (complement_of m) refl in
      let n = length-share i a in
      let q = share i a in
      sym (take-append-drop (255 - m) q)
      ∙ interpolant-made m x (share i t) (take (255 - m) q) (drop (255 - m) q) few lx bx elsewhere here (length-take-le (255 - m) q (omega arith))
      (bytes_take (255 - m) q (bytes-share i a)) (rw share-drop at (bytes-share i (drop (255 - m) a)))
      (λ z. rw (monic-value (complement_of m) (take (255 - m) (complement_of m)) (255 - m) z (complement-monic m) l) (rw (eg, l) at divided i h z))
      (simp length-drop (omega arith))

  pub share-made : (i : ℕ) (v t a w g : List ℕ) → i < 8 → length v ≡ m → length a ≡ 255 → w ≡ scales_of m → g ≡ complement_of m
      → PowerSums (times_each (share i v) w) (share i t) → Divided (take (255 - m) g) t a
      → share i a ≡ replicate (255 - m) 0 ++ interpolant_of (share i v)
  share-made i v t a w g h lv la ew eg sums divided =
      let lx : length (share i v) ≡ m = length-share i v ∙ lv in
      let p = rw ew at sums in
      quotient-made i _ t a g h la eg lx (bytes-share i v) (transform-elsewhere m _ _ few lx p) (transform-here m _ _ few lx p) divided
