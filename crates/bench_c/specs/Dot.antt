-- The sum of products of bytes.
--
--   dot a b                  the sum of a_i ⊗ b_i over the places that both have
--   Sofar a b s i            s is the sum over the places below i, so that what is still to add gives the whole
--   dot-start, -next, -end   the laws of the loop
use Rattle.std.specs.Prelude.{◌≡◌, refl, List, [], ◌∷◌, ℕ, ◌+◌, ◌≤◌, ◌<◌, length, get_or, drop}
use Rattle.std.proofs.Common.{sym, ap, ◌∙◌, add-one, drop_of_length-le, drop-cons}
use Rattle.lists.specs.Xor.{◌⊕◌}
use Rattle.lists.specs.Xor.Laws.{⊕-assoc, ⊕-zero, zero-⊕}
use Rattle.bytefield.specs.Product.{◌⊗◌}

unfoldable pub dot : List ℕ → List ℕ → ℕ
dot [] b = 0
dot (x ∷ a) [] = 0
dot (x ∷ a) (y ∷ b) = x ⊗ y ⊕ dot a b

abbrev pub Sofar : List ℕ → List ℕ → ℕ → ℕ → Type 0
Sofar a b s i = s ⊕ dot (drop i a) (drop i b) ≡ dot a b

pub dot-start : (a b : List ℕ) → Sofar a b 0 0
dot-start a b = zero-⊕ (dot a b)

dot-drop : (a b : List ℕ) (i : ℕ) → i < length a → i < length b
    → dot (drop i a) (drop i b) ≡ get_or a i 0 ⊗ get_or b i 0 ⊕ dot (drop (i + 1) a) (drop (i + 1) b)
unfolding dot
dot-drop a b i ha hb = rw (add-one i) (rw (drop-cons a i 0) (rw (drop-cons b i 0) refl))

pub dot-next : (a b : List ℕ) (s t n i : ℕ) → i < length a → i < length b → t ≡ get_or a i 0 ⊗ get_or b i 0 → n ≡ s ⊕ t → Sofar a b s i → Sofar a b n (i + 1)
dot-next a b s t n i ha hb et en e =
    ap (λ (x : ℕ). x ⊕ rest) (en ∙ ap (λ (x : ℕ). s ⊕ x) et) ∙ ⊕-assoc s (get_or a i 0 ⊗ get_or b i 0) rest
    ∙ ap (λ (x : ℕ). s ⊕ x) (sym (dot-drop a b i ha hb)) ∙ e
  where
    rest : ℕ
    rest = dot (drop (i + 1) a) (drop (i + 1) b)

dot-nil : (a : List ℕ) → dot a [] ≡ 0
unfolding dot
dot-nil [] = refl
dot-nil (x ∷ a) = refl

pub dot-end-a : (a b : List ℕ) (s i : ℕ) → length a ≤ i → Sofar a b s i → s ≡ dot a b
unfolding dot
dot-end-a a b s i h e = sym (⊕-zero s) ∙ (rw (drop_of_length-le a h) at e)

pub dot-end-b : (a b : List ℕ) (s i : ℕ) → length b ≤ i → Sofar a b s i → s ≡ dot a b
dot-end-b a b s i h e =
    sym (⊕-zero s) ∙ ap (λ (x : ℕ). s ⊕ x) (sym (dot-nil (drop i a))) ∙ (rw (drop_of_length-le b h) at e)
