-- The loop that turns values zs at the points gs into their slopes from the value y at f, in place and upwards.
--
--   slopes-turn            a turn: a and b are the differences, c the inverse, v the product
use Rattle.std.specs.Prelude.{◌≡◌, refl, List, [], ◌∷◌, ℕ, zero, suc, ◌+◌, ◌<◌, length, get_or, set}
use Rattle.std.proofs.Common.{sym, ap, ap₂, ◌∙◌, le_of_suc-le-suc, not-suc-le-zero, arith}
use Rattle.lists.specs.Xor.{◌⊕◌}
use Rattle.lists.specs.Blend.{blend}
use Rattle.lists.specs.Blend.Laws.{blend-late, blend-up}
use Rattle.algebra.specs.Polynomial.{slopes}
use Rattle.algebra.specs.Polynomial.Lengths.{length-slopes}
use Rattle.bytefield.specs.Product.{◌⊗◌, byte_ops}
use Rattle.bytefield.specs.Inverse.{inverse}

slopes-at : (f y : ℕ) (gs zs : List ℕ) (i : ℕ) → length gs ≡ length zs → i < length zs
    → get_or (slopes byte_ops inverse f y gs zs) i 0 ≡ (get_or zs i 0 ⊕ y) ⊗ inverse (get_or gs i 0 ⊕ f)
unfolding slopes
slopes-at f y gs [] i e h = absurd (not-suc-le-zero h)
slopes-at f y [] (z ∷ zs) i e h = absurd (omega (arith, e))
slopes-at f y (g ∷ gs) (z ∷ zs) zero e h = refl
slopes-at f y (g ∷ gs) (z ∷ zs) (suc i) e h = slopes-at f y gs zs i (omega (arith, e)) (le_of_suc-le-suc h)

pub slopes-turn : (f y i : ℕ) (gs l p : List ℕ) (a b c v : ℕ) → length gs ≡ length l → i < length l → p ≡ blend i (slopes byte_ops inverse f y gs l) l
    → a ≡ get_or p i 0 ⊕ y → b ≡ get_or gs i 0 ⊕ f → c ≡ inverse b → v ≡ a ⊗ c → set p i v ≡ blend (i + 1) (slopes byte_ops inverse f y gs l) l
slopes-turn f y i gs l p a b c v n h ep ea eb ec ev =
    let s : List ℕ = slopes byte_ops inverse f y gs l in
    let e : length s ≡ length l = length-slopes byte_ops inverse f y gs l n in
    let r : get_or p i 0 ≡ get_or l i 0 = ap (λ (q : List ℕ). get_or q i 0) ep ∙ blend-late i i s l e (omega arith) in
    blend-up i v s l p e h ep
    (ev ∙ ap₂ ◌⊗◌ (ea ∙ ap (λ (x : ℕ). x ⊕ y) r) (ec ∙ ap inverse eb) ∙ sym (slopes-at f y gs l i n h))
