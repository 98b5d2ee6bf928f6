-- H'x column by column: entry i of x adds its multiple of column i.
--
--   column n k i h               the n entries i, k + i, 2 k + i, .. of a matrix with rows of k bytes
--   front k x                    the first k entries of x, and zeros behind them
--   length-column, column-at     the length of a column, and its entries
--   length_front, front-all      the length of a front; the front that is all of x
--   rows_none, rows_more         H' times the first i entries of x
--   turn                         one entry more, for each share
use Rattle.std.specs.Prelude.{◌≡◌, refl, List, [], ◌∷◌, map, ℕ, zero, suc, ◌+◌, ◌*◌, ◌<◌, length, drop, get_or, replicate}
use Rattle.std.proofs.Common.{sym, ap, ap₂, ◌∙◌, not-suc-le-zero, le_of_suc-le-suc, suc-mul, add-one, arith, get_or-drop}
use Rattle.lists.specs.Xor.{◌⊕◌}
use Rattle.lists.specs.Xor.Laws.{⊕-assoc, zero-⊕}
use Rattle.lists.specs.Sum.{xor_list}
use Rattle.algebra.specs.Polynomial.{plus, scale}
use Rattle.bytefield.specs.Product.{◌⊗◌, byte_ops}
use Rattle.bytefield.specs.Product.Laws.{bytefield, ⊗-zero}
use Rattle.relation.specs.Key.{dot, rows}
use Rattle.packed.specs.Word.{scaled}
use Rattle.packed.specs.Share.{share}
use Rattle.packed.specs.Share.Laws.{length-share, get_d-share, share-added}

unfoldable pub column : ℕ → ℕ → ℕ → List ℕ → List ℕ
column zero k i h = []
column (suc n) k i h = get_or h i 0 ∷ column n k i (drop k h)

unfoldable pub front : ℕ → List ℕ → List ℕ
front k [] = []
front zero (a ∷ x) = 0 ∷ front zero x
front (suc k) (a ∷ x) = a ∷ front k x

pub length-column : (n k i : ℕ) (h : List ℕ) → length (column n k i h) ≡ n
unfolding column
length-column zero k i h = refl
length-column (suc n) k i h = ap suc (length-column n k i (drop k h))

pub column-at : (n k i : ℕ) (h : List ℕ) (j : ℕ) → j < n → get_or (column n k i h) j 0 ≡ get_or h (j * k + i) 0
unfolding column
column-at zero k i h j l = absurd (not-suc-le-zero l)
column-at (suc n) k i h zero l = let e : i ≡ 0 * k + i = omega arith in ap (λ (a : ℕ). get_or h a 0) e
column-at (suc n) k i h (suc j) l =
    let e : k + (j * k + i) ≡ suc j * k + i = omega (arith, suc-mul j k) in
    column-at n k i (drop k h) j (le_of_suc-le-suc l) ∙ get_or-drop k h (j * k + i) 0 ∙ ap (λ (a : ℕ). get_or h a 0) e

length_front : (k : ℕ) (x : List ℕ) → length (front k x) ≡ length x
unfolding front
length_front k [] = refl
length_front zero (a ∷ x) = ap suc (length_front zero x)
length_front (suc k) (a ∷ x) = ap suc (length_front k x)

pub front-all : (x : List ℕ) → front (length x) x ≡ x
unfolding front
front-all [] = refl
front-all (a ∷ x) = ap (◌∷◌ a) (front-all x)

-- ---- one row

dot-none : (h x : List ℕ) → dot h (front 0 x) ≡ 0
unfolding dot front
dot-none h [] = refl
dot-none [] (a ∷ x) = refl
dot-none (b ∷ h) (a ∷ x) = ap₂ ◌⊕◌ (⊗-zero b) (dot-none h x) ∙ zero-⊕ 0

first_entry : (b a d : ℕ) → b ⊗ a ⊕ d ≡ (b ⊗ 0 ⊕ d) ⊕ a ⊗ b
first_entry b a d = simp bytefield

dot-more : (h x : List ℕ) (i : ℕ) → i < length x → dot h (front (suc i) x) ≡ dot h (front i x) ⊕ get_or x i 0 ⊗ get_or h i 0
unfolding dot front
dot-more h [] i l = absurd (not-suc-le-zero l)
dot-more [] (a ∷ x) zero l = sym (zero-⊕ (a ⊗ 0) ∙ ⊗-zero a)
dot-more [] (a ∷ x) (suc i) l = sym (zero-⊕ (get_or x i 0 ⊗ 0) ∙ ⊗-zero (get_or x i 0))
dot-more (b ∷ h) (a ∷ x) zero l = first_entry b a (dot h (front 0 x))
dot-more (b ∷ h) (a ∷ x) (suc i) l =
    ap (◌⊕◌ (b ⊗ a)) (dot-more h x i (le_of_suc-le-suc l)) ∙ sym (⊕-assoc (b ⊗ a) (dot h (front i x)) (get_or x i 0 ⊗ get_or h i 0))

-- ---- all rows

pub rows_none : (n : ℕ) (h x : List ℕ) → rows n h (front 0 x) ≡ replicate n 0
unfolding rows
rows_none zero h x = refl
rows_none (suc n) h x = ap₂ ◌∷◌ (dot-none h x) (rows_none n (drop (length (front 0 x)) h) x)

rows_more : (n i : ℕ) (h x : List ℕ) → i < length x
    → rows n h (front (suc i) x) ≡ plus byte_ops (rows n h (front i x)) (scale byte_ops (get_or x i 0) (column n (length x) i h))
unfolding rows plus scale column
rows_more zero i h x l = refl
rows_more (suc n) i h x l = ap₂ ◌∷◌ (dot-more h x i l) (rw (length_front (suc i) x, length_front i x) (rows_more n i (drop (length x) h) x l))

-- ---- each share

pub turn : (s n i : ℕ) (h x out : List ℕ) → s < 8 → i < length x → share s out ≡ rows n h (front i (share s x))
    → share s (xor_list out (map (scaled (get_or x i 0)) (column n (length x) i h))) ≡ rows n h (front (i + 1) (share s x))
turn s n i h x out hs hi e =
    let l = length-share s x in
    rw (share-added s (get_or x i 0) out (column n (length x) i h) hs, e, add-one i, rows_more n i h (share s x) (omega arith), get_d-share s x i, l) refl
