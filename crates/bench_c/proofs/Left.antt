-- A total and the sum of products over what is left of two lists are the whole sum: before the first place, from one place to the next, and
-- where nothing is left of one.
use Rattle.std.specs.Prelude.{◌≡◌, refl, List, [], ◌∷◌, ℕ, length}
use Rattle.std.proofs.Common.{sym, ap, ap₂, ◌∙◌, arith}
use Rattle.lists.specs.Xor.{◌⊕◌}
use Rattle.lists.specs.Xor.Laws.{⊕-assoc, ⊕-zero, zero-⊕}
use Rattle.bytefield.specs.Product.{◌⊗◌}
use Rattle.bench_c.specs.Dot.{dot}

pub left-start : (a b c d : List ℕ) → c ≡ a → d ≡ b → 0 ⊕ dot c d ≡ dot a b
left-start a b c d ec ed = zero-⊕ (dot c d) ∙ ap₂ dot ec ed

pub left-next : (a b c d : List ℕ) (x y s t n whole : ℕ) → c ≡ x ∷ a → d ≡ y ∷ b → t ≡ x ⊗ y → n ≡ s ⊕ t → s ⊕ dot c d ≡ whole → n ⊕ dot a b ≡ whole
unfolding dot
left-next a b c d x y s t n whole ec ed et en e = rw (en, et, ⊕-assoc s (x ⊗ y) (dot a b)) (rw (ec, ed) at e)

dot-nil : (a : List ℕ) → dot a [] ≡ 0
unfolding dot
dot-nil [] = refl
dot-nil (x ∷ a) = refl

pub left-end-a : (a b : List ℕ) (s whole : ℕ) → length a ≡ 0 → s ⊕ dot a b ≡ whole → s ≡ whole
unfolding dot
left-end-a [] b s whole h e = sym (⊕-zero s) ∙ e
left-end-a (x ∷ a) b s whole h e = absurd (omega arith)

pub left-end-b : (a b : List ℕ) (s whole : ℕ) → length b ≡ 0 → s ⊕ dot a b ≡ whole → s ≡ whole
left-end-b a [] s whole h e = sym (⊕-zero s) ∙ ap (◌⊕◌ s) (sym (dot-nil a)) ∙ e
left-end-b a (y ∷ b) s whole h e = absurd (omega arith)
