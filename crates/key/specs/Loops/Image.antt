-- H'x: each row is a sum that grows with its entries, and the rows are written one after the other.
--
--   dot-start, dot-turn, dot-end    a row: a plus the product of what stands from i on is the total
--   dot-take                        only the row's own bytes count
--   rows-turn                       row i, which starts at a, is written
use Rattle.std.specs.Prelude.{◌≡◌, refl, List, [], ◌∷◌, ℕ, zero, suc, ◌+◌, ◌*◌, ◌≤◌, ◌<◌, length, take, drop, get_or, set}
use Rattle.std.proofs.Common.{sym, ap, ◌∙◌, le_of_suc-le-suc, not-suc-le-zero, suc-mul, zero-mul, add-one, arith, length-drop, drop-cons, drop-drop}
use Rattle.lists.specs.Xor.{◌⊕◌}
use Rattle.lists.specs.Xor.Laws.{⊕-assoc, ⊕-zero, zero-⊕}
use Rattle.lists.specs.Blend.{blend}
use Rattle.lists.specs.Blend.Laws.{blend-up}
use Rattle.bytefield.specs.Product.{◌⊗◌}
use Rattle.relation.specs.Key.{dot, rows}
use Rattle.relation.proofs.Laws.Key.Vector.{length-rows}

dot-nil : (hs xs : List ℕ) → length xs ≤ 0 → dot hs xs ≡ 0
unfolding dot
dot-nil hs [] h = refl
dot-nil hs (x ∷ xs) h = absurd (not-suc-le-zero h)

pub dot-start : (hs xs : List ℕ) → 0 ⊕ dot (drop 0 hs) (drop 0 xs) ≡ dot hs xs
dot-start hs xs = zero-⊕ (dot hs xs)

pub dot-turn : (hs xs : List ℕ) (i a t b total : ℕ) → i < length hs → i < length xs → t ≡ get_or hs i 0 ⊗ get_or xs i 0 → b ≡ a ⊕ t
    → a ⊕ dot (drop i hs) (drop i xs) ≡ total → b ⊕ dot (drop (i + 1) hs) (drop (i + 1) xs) ≡ total
unfolding dot
dot-turn hs xs i a t b total h k et eb e =
    ap (λ (x : ℕ). x ⊕ dot (drop (i + 1) hs) (drop (i + 1) xs)) (eb ∙ ap (◌⊕◌ a) et)
    ∙ ⊕-assoc a (get_or hs i 0 ⊗ get_or xs i 0) (dot (drop (i + 1) hs) (drop (i + 1) xs))
    ∙ rw (add-one i) (rw (drop-cons hs i 0 h, drop-cons xs i 0 k) at e)

pub dot-end : (hs xs : List ℕ) (i a total : ℕ) → length xs ≤ i → a ⊕ dot (drop i hs) (drop i xs) ≡ total → a ≡ total
dot-end hs xs i a total h e =
    sym (⊕-zero a) ∙ ap (◌⊕◌ a) (sym (dot-nil (drop i hs) (drop i xs) (omega (arith, length-drop i xs)))) ∙ e

pub dot-take : (hs xs : List ℕ) → dot (take (length xs) hs) xs ≡ dot hs xs
unfolding dot
dot-take hs [] = refl
dot-take [] (x ∷ xs) = refl
dot-take (h ∷ hs) (x ∷ xs) = ap (◌⊕◌ (h ⊗ x)) (dot-take hs xs)

rows_at : (n : ℕ) (h x : List ℕ) (i : ℕ) → i < n → get_or (rows n h x) i 0 ≡ dot (drop (i * length x) h) x
unfolding rows
rows_at zero h x i l = absurd (not-suc-le-zero l)
rows_at (suc n) h x zero l = ap (λ (k : ℕ). dot (drop k h) x) (sym (zero-mul (length x)))
rows_at (suc n) h x (suc i) l =
    let e : length x + i * length x ≡ suc i * length x = (let m = suc-mul i (length x) in omega arith) in
    rows_at n (drop (length x) h) x i (le_of_suc-le-suc l)
    ∙ ap (λ (k : List ℕ). dot k x) (drop-drop (i * length x) (length x) h ∙ ap (λ (k : ℕ). drop k h) e)

pub rows-turn : (h x : List ℕ) (i a v : ℕ) (l p : List ℕ) → i < length l → a ≡ i * length x → p ≡ blend i (rows (length l) h x) l
    → v ≡ dot (take (length x) (drop a h)) x → set p i v ≡ blend (i + 1) (rows (length l) h x) l
rows-turn h x i a v l p k ea ep ev =
    blend-up i v (rows (length l) h x) l p (length-rows (length l) h x) k ep
    (ev ∙ dot-take (drop a h) x ∙ ap (λ (j : ℕ). dot (drop j h) x) ea ∙ sym (rows_at (length l) h x i k))
