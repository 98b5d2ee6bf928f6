-- What the loops over the complement have come to, turn by turn.
--
--   horner-turn                                  the value of a polynomial, from its highest coefficient down
--   scales-start, scales-turn, scales-end     the scales, written one after the other
use Rattle.std.specs.Prelude.{◌≡◌, length, drop, get_or, set}
use Rattle.std.proofs.Math.Path.{sym, ap₂}
use Rattle.std.proofs.Common.{ap, ◌∙◌, add-one, take-append-drop, drop-cons, take-suc-set}
use mathlib.Core.List.{List, [], ◌∷◌, ◌++◌, append-nil}
use Prim.Native.Nat.{ℕ, suc, ◌+◌, ◌-◌, ◌≤◌, ◌<◌}
use native.Mathlib.Omega.{arith}
use Rattle.std.proofs.Math.ListN.{take}
use Rattle.std.proofs.Math.Seq.{append_snoc}
use Rattle.lists.specs.Xor.{◌⊕◌}
use Rattle.algebra.specs.Polynomial.{eval}
use Rattle.bytefield.specs.Product.{◌⊗◌, byte_ops}
use Rattle.interpolants.specs.Complement.{complement_of, scales_from, scales_of, factors_of}

pub horner-turn : (g : List ℕ) (f v i : ℕ) → 0 < i → i ≤ length g → v ≡ eval byte_ops (drop i g) f
    → get_or g (i - 1) 0 ⊕ f ⊗ v ≡ eval byte_ops (drop (i - 1) g) f
unfolding eval
horner-turn g f v i z h e =
    let n : i ≡ suc (i - 1) = omega arith in
    rw (drop-cons g (i - 1) 0 (omega arith)) (ap (λ (w : ℕ). get_or g (i - 1) 0 ⊕ f ⊗ w) (e ∙ ap (λ (j : ℕ). eval byte_ops (drop j g) f) n))

-- ---- n scales by g: i of them are written, and f is i

module _ (g : List ℕ) (n : ℕ) where
  abbrev pub Weighted : ℕ → ℕ → List ℕ → Type 0
  Weighted i f out = take i out ++ scales_from g (f + 1) (n - i) ≡ scales_from g 1 n

  pub scales-start : (out : List ℕ) → Weighted 0 0 out
  scales-start out = let e : n - 0 ≡ n = omega arith in ap (scales_from g 1) e

  pub scales-turn : (i f h w : ℕ) (out : List ℕ) → i < n → n ≤ length out → h ≡ f + 1 → w ≡ h ⊗ eval byte_ops g h
      → Weighted i f out → Weighted (i + 1) h (set out i w)
  unfolding scales_from
  scales-turn i f h w out l en eh ew e =
      let more : n - i ≡ suc (n - (i + 1)) = omega arith in
      let next : h + 1 ≡ suc (f + 1) = omega arith in
      let front : take (i + 1) (set out i w) ≡ take i out ++ (w ∷ []) = rw (add-one i) (take-suc-set out i w (omega arith)) in
      rw (front, next, append_snoc (take i out) w (scales_from g (suc (f + 1)) (n - (i + 1))), ew, eh) (rw more at e)

  pub scales-end : (f : ℕ) (out : List ℕ) → g ≡ complement_of n → drop n out ≡ complement_of n → Weighted n f out → out ≡ factors_of n
  unfolding scales_from scales_of factors_of
  scales-end f out eg ed e =
      let o : n - n ≡ 0 = omega arith in
      let w : take n out ≡ scales_of n = rw (← eg) (rw (o, append-nil (take n out)) at e) in
      sym (take-append-drop n out) ∙ ap₂ ◌++◌ w ed
