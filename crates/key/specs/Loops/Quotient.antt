-- Values over the distances of their points, and P from them.
--
--   distances-start, -turn, -end    a sum of logarithms: its power times the distances still to come is the product of all
--   ratio-zero, ratio-made          one value over its distances
--   ratios-turn                     the values one after the other, in place
--   tail_apart, through-made        the other points are lent as a tail
--   length-entries, split-apart, quotient-made
--                                   the polynomial through the values of x at E over these distances is P
use Rattle.std.specs.Prelude.{◌≡◌, refl, true, ℕ, zero, suc, ◌+◌, ◌-◌, ◌%◌, ◌≤◌, ◌<◌, length, take, drop, get_or, set}
use Rattle.std.proofs.Math.Path.{sym, ap, ap₂}
use Rattle.std.proofs.Common.{◌∙◌, subst, le_of_suc-le-suc, not-suc-le-zero, mod-eq_of_lt, add-one, arith, lit<, drop_of_length-le, drop-cons, take_at, drop_at}
use mathlib.Core.List.{List, [], ◌∷◌, ◌++◌}
use Rattle.lists.specs.Xor.{◌⊕◌}
use Rattle.lists.specs.Blend.{blend}
use Rattle.lists.specs.Blend.Laws.{blend-late, blend-up}
use Rattle.lists.specs.Part.Laws.{tail-part}
use Rattle.algebra.specs.Each.{Disjoint}
use Rattle.algebra.specs.Marks.Laws.{length-pick}
use Rattle.algebra.specs.Polynomial.{interpolate}
use Rattle.algebra.specs.Polynomial.Ratios.{distances, ratios}
use Rattle.bytefield.specs.Product.{◌⊗◌, byte_ops}
use Rattle.bytefield.specs.Product.Laws.{⊗-assoc, ⊗-lt, one-⊗, ⊗-one, zero-⊗}
use Rattle.bytefield.specs.Powers.{power, power-lt, power-add}
use Rattle.bytefield.proofs.Laws.Powers.{power-mod}
use Rattle.bytefield.specs.Inverse.{inverse}
use Rattle.polynomial.specs.Bytes.{Bytes}
use Rattle.relation.specs.Key.{weight_of, positions, quotient_of}
use Rattle.relation.proofs.Laws.Key.Positions.{length-positions, marked-positions}
use Rattle.relation.specs.Key.Polynomials.{inside, outside}
use Rattle.relation.proofs.Laws.Key.Polynomials.{apart, length-inside, quotient-ratios}
use Rattle.key.specs.Loops.Gather.{selected}

-- ---- the distances of a point

distances_lt : (f : ℕ) (gs : List ℕ) → distances byte_ops f gs < 256
unfolding distances
distances_lt f [] = lit< tt
distances_lt f (g ∷ gs) = ⊗-lt (f ⊕ g) (distances byte_ops f gs)

pub distances-start : (f : ℕ) (gs : List ℕ) → power 0 ⊗ distances byte_ops f (drop 0 gs) ≡ distances byte_ops f gs
unfolding power
distances-start f gs = one-⊗ (distances byte_ops f gs) (distances_lt f gs)

pub distances-turn : (f : ℕ) (gs : List ℕ) (i s v d total : ℕ) → i < length gs → d ≡ f ⊕ get_or gs i 0 → power v ≡ d
    → power s ⊗ distances byte_ops f (drop i gs) ≡ total → power (s + v) ⊗ distances byte_ops f (drop (i + 1) gs) ≡ total
unfolding distances
distances-turn f gs i s v d total h ed ev e =
    ap (λ (a : ℕ). a ⊗ distances byte_ops f (drop (i + 1) gs)) (power-add s v ∙ ap (◌⊗◌ (power s)) (ev ∙ ed))
    ∙ ⊗-assoc (power s) (f ⊕ get_or gs i 0) (distances byte_ops f (drop (i + 1) gs))
    ∙ sym (ap (λ (l : List ℕ). power s ⊗ distances byte_ops f l) (drop-cons gs i 0 h ∙ ap (λ (j : ℕ). get_or gs i 0 ∷ drop j gs) (sym (add-one i))))
    ∙ e

pub distances-end : (f : ℕ) (gs : List ℕ) (i s total : ℕ) → length gs ≤ i → power s ⊗ distances byte_ops f (drop i gs) ≡ total → power s ≡ total
unfolding distances
distances-end f gs i s total h e =
    sym (ap (λ (l : List ℕ). power s ⊗ distances byte_ops f l) (drop_of_length-le gs {i = i} h) ∙ ⊗-one (power s) ∙ mod-eq_of_lt (power-lt s)) ∙ e

-- ---- a value over its distances

pub ratio-zero : (y a : ℕ) → y ≡ 0 → 0 ≡ y ⊗ a
ratio-zero y a e = sym (ap (λ (v : ℕ). v ⊗ a) e ∙ zero-⊗ a)

pub ratio-made : (y s p d v r : ℕ) → power s ≡ d → p ≡ power (s % 255) → v ≡ inverse p → r ≡ y ⊗ v → r ≡ y ⊗ inverse d
ratio-made y s p d v r ed ep ev er = er ∙ ap (◌⊗◌ y) (ev ∙ ap inverse (ep ∙ power-mod s ∙ ed))

-- ---- all values

pub length-ratios : (gs fs ys : List ℕ) → length fs ≡ length ys → length (ratios byte_ops inverse gs fs ys) ≡ length ys
unfolding ratios
length-ratios gs [] [] e = refl
length-ratios gs [] (y ∷ ys) e = absurd (omega (arith, e))
length-ratios gs (f ∷ fs) [] e = refl
length-ratios gs (f ∷ fs) (y ∷ ys) e = ap suc (length-ratios gs fs ys (omega (arith, e)))

ratios-at : (gs fs ys : List ℕ) (i : ℕ) → length fs ≡ length ys → i < length ys
    → get_or (ratios byte_ops inverse gs fs ys) i 0 ≡ get_or ys i 0 ⊗ inverse (distances byte_ops (get_or fs i 0) gs)
unfolding ratios
ratios-at gs fs [] i e h = absurd (not-suc-le-zero h)
ratios-at gs [] (y ∷ ys) i e h = absurd (omega (arith, e))
ratios-at gs (f ∷ fs) (y ∷ ys) zero e h = refl
ratios-at gs (f ∷ fs) (y ∷ ys) (suc i) e h = ratios-at gs fs ys i (omega (arith, e)) (le_of_suc-le-suc h)

pub ratios-turn : (gs fs ys p : List ℕ) (i v : ℕ) → length fs ≡ length ys → i < length ys → p ≡ blend i (ratios byte_ops inverse gs fs ys) ys
    → v ≡ get_or p i 0 ⊗ inverse (distances byte_ops (get_or fs i 0) gs) → set p i v ≡ blend (i + 1) (ratios byte_ops inverse gs fs ys) ys
ratios-turn gs fs ys p i v e h ep ev =
    let l = length-ratios gs fs ys e in
    let r : get_or p i 0 ≡ get_or ys i 0 = ap (λ (q : List ℕ). get_or q i 0) ep ∙ blend-late i i (ratios byte_ops inverse gs fs ys) ys l (omega arith) in
    blend-up i v (ratios byte_ops inverse gs fs ys) ys p l h ep
    (ev ∙ ap (λ (y : ℕ). y ⊗ inverse (distances byte_ops (get_or fs i 0) gs)) r ∙ sym (ratios-at gs fs ys i e h))

-- ---- P; the slice p holds the points of E and then the others

pub tail_apart : (w : ℕ) (p : List ℕ) → Disjoint (take w p) (drop w p)
    → Disjoint (take w p) (take (length p - w) (drop w p))
tail_apart w p h = subst (λ (gs : List ℕ). Disjoint (take w p) gs) (sym (tail-part p w)) h

pub through-made : (w : ℕ) (p xs ys o : List ℕ) → ys ≡ ratios byte_ops inverse (take (length p - w) (drop w p)) (take w p) xs
    → o ≡ interpolate byte_ops inverse (take w p) ys → o ≡ interpolate byte_ops inverse (take w p) (ratios byte_ops inverse (drop w p) (take w p) xs)
through-made w p xs ys o ey eo =
    eo ∙ ap (interpolate byte_ops inverse (take w p)) (ey ∙ ap (λ (gs : List ℕ). ratios byte_ops inverse gs (take w p) xs) (tail-part p w))

module _ (w : ℕ) (x : List ℕ) (light : weight_of x ≤ w) (fits : w ≤ length x) where
  pub length-entries : length (selected true (positions w x) x) ≡ w
  unfolding selected
  length-entries = length-pick (positions w x) x (length-positions w x) ∙ marked-positions w x light fits

  front : take w (inside w x ++ outside w x) ≡ inside w x
  front = take_at (inside w x) (outside w x) w (length-inside w x light fits)

  behind : drop w (inside w x ++ outside w x) ≡ outside w x
  behind = drop_at (inside w x) (outside w x) w (length-inside w x light fits)

  pub split-apart : (p : List ℕ) → p ≡ inside w x ++ outside w x → Disjoint (take w p) (drop w p)
  split-apart p e =
      subst (λ (q : List ℕ). Disjoint (take w q) (drop w q)) (sym e)
      (subst (λ (fs : List ℕ). Disjoint fs (drop w (inside w x ++ outside w x))) (sym front)
      (subst (λ (gs : List ℕ). Disjoint (inside w x) gs) (sym behind) (apart w x)))

  pub quotient-made : (p xs o : List ℕ) → 1 ≤ w → length x < 256 → Bytes x → p ≡ inside w x ++ outside w x → xs ≡ selected true (positions w x) x
      → o ≡ interpolate byte_ops inverse (take w p) (ratios byte_ops inverse (drop w p) (take w p) xs) → o ≡ quotient_of w x
  unfolding selected
  quotient-made p xs o some short bytes ep ex eo =
      eo
      ∙ ap₂ (λ (fs gs : List ℕ). interpolate byte_ops inverse fs (ratios byte_ops inverse gs fs xs)) (ap (take w) ep ∙ front) (ap (drop w) ep ∙ behind)
      ∙ ap (λ (ys : List ℕ). interpolate byte_ops inverse (inside w x) (ratios byte_ops inverse (outside w x) (inside w x) ys)) ex
      ∙ sym (quotient-ratios w x light fits some short bytes)
