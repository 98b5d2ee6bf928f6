-- The loop that turns y ∷ p into y + (X + f) p in place: at turn i its slice is a blend of the new list and the old.
--
--   expand-at      coefficient i of the new list
--   expand-turn    a turn: t is the product with the coefficient above, v the sum
--   expand-end     the last coefficient stays
use Rattle.std.specs.Prelude.{◌≡◌, refl, List, [], ◌∷◌, ℕ, zero, suc, ◌+◌, ◌≤◌, ◌<◌, length, get_or, set}
use Rattle.std.proofs.Common.{sym, ap, ap₂, ◌∙◌, le_of_suc-le-suc, not-suc-le-zero, add-one, arith}
use Rattle.lists.specs.Xor.{◌⊕◌}
use Rattle.lists.specs.Blend.{blend}
use Rattle.lists.specs.Blend.Laws.{blend-late, blend-up}
use Rattle.algebra.specs.Polynomial.{expand}
use Rattle.algebra.specs.Polynomial.Lengths.{length-expand}
use Rattle.bytefield.specs.Product.{◌⊗◌, byte_ops}

expand-at : (f : ℕ) (l : List ℕ) (i : ℕ) → suc i < length l → get_or (expand byte_ops f l) i 0 ≡ get_or l i 0 ⊕ f ⊗ get_or l (suc i) 0
unfolding expand
expand-at f [] i h = absurd (not-suc-le-zero h)
expand-at f (y ∷ []) i h = absurd (omega (arith, h))
expand-at f (y ∷ c ∷ p) zero h = refl
expand-at f (y ∷ c ∷ p) (suc i) h = expand-at f (c ∷ p) i (le_of_suc-le-suc h)

expand-last : (f : ℕ) (l : List ℕ) (i : ℕ) → length l ≤ suc i → blend i (expand byte_ops f l) l ≡ expand byte_ops f l
unfolding expand blend
expand-last f [] zero h = refl
expand-last f [] (suc i) h = refl
expand-last f (y ∷ []) zero h = refl
expand-last f (y ∷ []) (suc zero) h = refl
expand-last f (y ∷ []) (suc (suc i)) h = refl
expand-last f (y ∷ c ∷ p) zero h = absurd (omega (arith, h))
expand-last f (y ∷ c ∷ p) (suc i) h = ap (◌∷◌ (y ⊕ f ⊗ c)) (expand-last f (c ∷ p) i (le_of_suc-le-suc h))

pub expand-turn : (f i : ℕ) (l p : List ℕ) (t v : ℕ) → i + 1 < length l → p ≡ blend i (expand byte_ops f l) l
    → t ≡ f ⊗ get_or p (i + 1) 0 → v ≡ get_or p i 0 ⊕ t → set p i v ≡ blend (i + 1) (expand byte_ops f l) l
expand-turn f i l p t v h ep et ev =
    let e : length (expand byte_ops f l) ≡ length l = length-expand byte_ops f l in
    let a : get_or p i 0 ≡ get_or l i 0 = ap (λ (q : List ℕ). get_or q i 0) ep ∙ blend-late i i (expand byte_ops f l) l e (omega arith) in
    let b : get_or p (i + 1) 0 ≡ get_or l (i + 1) 0 = ap (λ (q : List ℕ). get_or q (i + 1) 0) ep ∙ blend-late i (i + 1) (expand byte_ops f l) l e (omega arith) in
    blend-up i v (expand byte_ops f l) l p e (omega arith) ep
    (ev ∙ ap₂ ◌⊕◌ a (et ∙ ap (◌⊗◌ f) (b ∙ ap (λ (k : ℕ). get_or l k 0) (add-one i))) ∙ sym (expand-at f l i (omega arith)))

pub expand-end : (f i : ℕ) (l p : List ℕ) → length l ≤ i + 1 → p ≡ blend i (expand byte_ops f l) l → p ≡ expand byte_ops f l
expand-end f i l p h ep = ep ∙ expand-last f l i (omega arith)
