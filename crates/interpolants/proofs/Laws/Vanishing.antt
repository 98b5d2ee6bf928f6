-- F from the complement G: F·G is X^255 + 1, so X^255 + 1 less X^m·G, divided by G, is F but its leading one.
--
--   one n               1 and n zeros
--   nonzero-around      each nonzero byte to the 255 is 1
--   begun-value         so what is divided has the value z^m·G(z) at each nonzero byte z
--   low_value           and F but its leading one the value f^m at each point f
--   vanishing-made      so the quotient is F but its leading one
use Rattle.std.specs.Prelude.{◌≡◌, refl, drop, get_or}
use Rattle.std.proofs.Math.Path.{sym, ap, ap₂}
use Rattle.std.proofs.Common.{◌∙◌, mul-zero, lit<, length-take-le}
use mathlib.Core.List.{List, [], ◌∷◌, ◌++◌, map, append_assoc}
use Prim.Native.Nat.{ℕ, zero, suc, ◌+◌, ◌-◌, ◌*◌, ◌<◌}
use native.Mathlib.Omega.{arith}
use Rattle.std.proofs.Math.ListN.{length, take, replicate, length-append}
use Rattle.std.proofs.lemmas.List.{length-replicate, length-map, replicate-append-replicate}
use Rattle.std.proofs.Math.Seq.{take_at, drop_at}
use Rattle.lists.specs.Xor.{◌⊕◌}
use Rattle.lists.specs.Xor.Laws.{⊕-comm, ⊕-self, ⊕-self-left}
use Rattle.lists.specs.Sum.{xor_list}
use Rattle.lists.specs.Sum.Laws.{xor_list-comm, xor_list-zeros}
use Rattle.lists.specs.Part.Laws.{tail-part, tail-back}
use Rattle.algebra.specs.Each.Laws.{each_all}
use Rattle.algebra.specs.Each.Laws.{each-to-map}
use Rattle.algebra.specs.Polynomial.{eval, pow, values}
use Rattle.bytefield.specs.Product.{◌⊗◌, byte_ops}
use Rattle.bytefield.specs.Product.Laws.{⊗-comm, bytefield}
use Rattle.bytefield.specs.Powers.{power}
use Rattle.bytefield.proofs.Laws.Powers.{logs_at}
use Rattle.bytefield.specs.Tables.{logs}
use Rattle.polynomial.specs.Bytes.{Bytes}
use Rattle.polynomial.specs.Bytes.Laws.{byte-at, byte-eval, bytes_take}
use Rattle.polynomial.specs.Interpolant.{interpolation_points, interpolant_of, vanishing_of}
use Rattle.polynomial.specs.Interpolant.Laws.{length-ascending, ascending-at, product-zero, length-vanishing, bytes-vanishing, vanishing-monic, interpolant-unique}
use Rattle.packed.specs.Maps.{get_d-map-in}
use Rattle.packed.specs.Share.{byte_at, share, placed}
use Rattle.packed.specs.Share.Laws.{share-append, zeros-share, share-own}
use Rattle.interpolants.specs.Complement.{complement_of}
use Rattle.interpolants.proofs.Laws.Complement.{bytes-complement, complement-monic, complement-zero}
use Rattle.interpolants.proofs.Laws.Interpolating.{zeros-value}
use Rattle.interpolants.proofs.Laws.Interpolating.Transform.{power-more, power-around}
use Rattle.interpolants.specs.Division.{Divided}
use Rattle.interpolants.proofs.Laws.Division.{eval-append}
use Rattle.interpolants.proofs.Laws.Shares.{share-end, monic-value, length-low, quotient-made}

abbrev one : ℕ → List ℕ
one n = 1 ∷ replicate n 0

-- ---- powers

pow-power : (b n : ℕ) → pow byte_ops (power b) n ≡ power (b * n)
unfolding pow power
pow-power b zero = rw (mul-zero b)
pow-power b (suc n) = ap (λ (x : ℕ). x ⊗ power b) (pow-power b n) ∙ ⊗-comm (power (b * n)) (power b) ∙ sym (power-more b n)

nonzero-around : (z : ℕ) → 0 < z → z < 256 → pow byte_ops z 255 ≡ 1
nonzero-around z s h = rw (logs_at z s h) at (pow-power (get_or logs z 0) 255 ∙ power-around (get_or logs z 0))

-- ---- values

cancel : (a b c : ℕ) → a ⊕ c ≡ c ⊕ b → a ≡ b
cancel a b c e = sym (⊕-self-left c a) ∙ ap (◌⊕◌ c) (⊕-comm c a ∙ e) ∙ ⊕-self-left c b

module _ (m : ℕ) (some : 0 < m) (few : m < 256) where
  sized : length (one (m - 1)) ≡ m
  sized = let l = length-replicate {A = ℕ} (m - 1) 0 in omega arith

  one-parted : one 254 ≡ one (m - 1) ++ replicate (255 - m) 0
  one-parted =
      let n : 254 ≡ m - 1 + (255 - m) = omega arith in
      ap (◌∷◌ 1) (ap (λ (k : ℕ). replicate k 0) n ∙ sym (replicate-append-replicate (m - 1) (255 - m) 0))

  begun-value : (z : ℕ) → 0 < z → z < 256
      → eval byte_ops (one (m - 1) ++ take (255 - m) (complement_of m)) z ≡ eval byte_ops (complement_of m) z ⊗ pow byte_ops z m
  unfolding eval
  begun-value z s h =
      let p = one (m - 1) in
      let g = take (255 - m) (complement_of m) in
      let l : length (p ++ g) ≡ 255 = length-append p g ∙ ap₂ ◌+◌ sized (length-low m few (complement_of m) refl) ∙ omega arith in
      let v : eval byte_ops p z ≡ 1 = rw (zeros-value (m - 1) z) (simp bytefield) in
      cancel _ _ 1
      (ap (◌⊕◌ (eval byte_ops (p ++ g) z)) (sym (nonzero-around z s h))
      ∙ sym (monic-value (p ++ complement_of m) (p ++ g) 255 z (ap (◌++◌ p) (complement-monic m) ∙ sym (append_assoc p g (1 ∷ []))) l)
      ∙ rw (eval-append p (complement_of m) z (bytes-complement m few), v, sized) (ap (◌⊕◌ 1) (⊗-comm _ _)))

  low_value : (i : ℕ) → i < m → eval byte_ops (take m (vanishing_of m)) (1 + i) ≡ pow byte_ops (1 + i) m
  unfolding vanishing_of
  low_value i h =
      cancel _ _ (pow byte_ops (1 + i) m)
      (sym (monic-value (vanishing_of m) _ m (1 + i) (vanishing-monic m) (length-take-le m (vanishing_of m) (omega (arith, length-vanishing m))))
      ∙ rw (ascending-at 1 m i h) at (product-zero (interpolation_points m) i (omega (arith, length-ascending 1 m))) ∙ sym (⊕-self _))

  -- ---- the quotient

  -- ys is what is left of the words from place m on, once the complement is added
  begun : (ys : List ℕ) → ys ≡ xor_list (take (255 - m) (drop m (one 254))) (map (placed 0) (take (255 - m) (complement_of m)))
      → share 0 (take m (one 254) ++ (ys ++ drop (255 - m) (drop m (one 254)))) ≡ one (m - 1) ++ take (255 - m) (complement_of m)
  unfolding share byte_at
  begun ys e =
      let p = one (m - 1) in
      let z : List ℕ = replicate (255 - m) 0 in
      let g = take (255 - m) (complement_of m) in
      let b = bytes_take (255 - m) (complement_of m) (bytes-complement m few) in
      ap (share 0) (tail-back (one 254) ys m (omega arith) ∙ ap (λ (l : List ℕ). l ++ ys) (ap (take m) one-parted ∙ take_at p z m sized))
      ∙ share-append 0 p ys ∙ ap₂ ◌++◌ (ap (◌∷◌ 1) (zeros-share 0 (m - 1)))
      (ap (share 0) (e ∙ ap (λ (l : List ℕ). xor_list l (map (placed 0) g)) (tail-part (one 254) m ∙ ap (drop m) one-parted ∙ drop_at p z m sized))
      ∙ share-own 0 z g (λ k. byte-at k g b) ∙ ap (λ (l : List ℕ). xor_list l g) (zeros-share 0 (255 - m))
      ∙ xor_list-comm z g ∙ xor_list-zeros g (255 - m) (omega (arith, length-low m few (complement_of m) refl)))

  pub vanishing-made : (g ys a out : List ℕ) → g ≡ complement_of m → length a ≡ 255
      → ys ≡ xor_list (take (255 - m) (drop m (one 254))) (map (placed 0) (take (255 - m) g))
      → Divided (take (255 - m) g) (take m (one 254) ++ (ys ++ drop (255 - m) (drop m (one 254)))) a
      → out ≡ share 0 (take (255 - (255 - m)) (drop (255 - m) a)) → out ≡ take m (vanishing_of m)
  vanishing-made g ys a out eg la ey divided eo =
      let f = take m (vanishing_of m) in
      let x = values byte_ops f (interpolation_points m) in
      let t = take m (one 254) ++ (ys ++ drop (255 - m) (drop m (one 254))) in
      let bf : Bytes f = bytes_take m (vanishing_of m) (bytes-vanishing m) in
      let bx : Bytes x = each-to-map (λ a. a < 256) (eval byte_ops f) (interpolation_points m) (each_all (λ z. byte-eval f z bf) (interpolation_points m)) in
      let lx : length x ≡ m = length-map (interpolation_points m) (eval byte_ops f) ∙ length-ascending 1 m in
      let lf : length f ≡ m = length-take-le m (vanishing_of m) (omega (arith, length-vanishing m)) in
      let value : (z : ℕ) → 0 < z → z < 256 → eval byte_ops (share 0 t) z ≡ eval byte_ops (complement_of m) z ⊗ pow byte_ops z m
      = λ z s h. rw (begun ys (rw eg at ey)) (begun-value z s h) in
      eo ∙ rw la at (share-end 0 m a (interpolant_of x) (quotient-made m few 0 x t a g (lit< tt) la eg lx bx
      (λ z h k. rw (value z (omega arith) k, complement-zero m z h k) (simp bytefield))
      (λ j h. value (1 + j) (omega arith) (omega arith) ∙ ap (◌⊗◌ (eval byte_ops (complement_of m) (1 + j)))
      (sym (get_d-map-in (eval byte_ops f) (interpolation_points m) j (omega (arith, length-ascending 1 m))
      ∙ ap (eval byte_ops f) (ascending-at 1 m j h) ∙ low_value j h))) divided))
      ∙ sym (interpolant-unique x (omega arith) f bx bf (lf ∙ sym lx) (ap (λ (n : ℕ). values byte_ops f (interpolation_points n)) lx))
