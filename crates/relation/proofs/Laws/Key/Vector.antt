-- The laws of the key's vector.
--
--   length-rows, length-vector    lengths
--   rows-xor                      H'(a + b) = H'a + H'b
--   bytes-rows, bytes-vector      they have bytes as entries
use Rattle.std.specs.Prelude.{◌≡◌, refl, List, [], ◌∷◌, ℕ, zero, suc, ◌+◌, ◌<◌, length, drop}
use Rattle.std.proofs.Common.{sym, ap, ap₂, ◌∙◌, arith, lit<, length-append}
use Rattle.lists.specs.Xor.{◌⊕◌}
use Rattle.lists.specs.Xor.Laws.{zero-⊕, ⊕-lt}
use Rattle.lists.specs.Sum.{xor_list}
use Rattle.lists.specs.Sum.Laws.{length-xor_list}
use Rattle.bytefield.specs.Product.{◌⊗◌}
use Rattle.bytefield.specs.Product.Laws.{⊗-lt, bytefield}
use Rattle.polynomial.specs.Bytes.{Bytes}
use Rattle.polynomial.specs.Bytes.Laws.{bytes-append, bytes-xor_list}
use Rattle.relation.specs.Key.{dot, rows, vector_of}

-- ---- lengths

pub length-rows : (n : ℕ) (h x : List ℕ) → length (rows n h x) ≡ n
unfolding rows
length-rows zero h x = refl
length-rows (suc n) h x = ap suc (length-rows n (drop (length x) h) x)

pub length-vector : (h y x_a : List ℕ) → length (vector_of h y x_a) ≡ length x_a + length y
unfolding vector_of
length-vector h y x_a =
    let r = length-rows (length y) h x_a in
    let s = length-xor_list (rows (length y) h x_a) y (omega arith) in
    length-append x_a (xor_list (rows (length y) h x_a) y) ∙ omega arith

-- ---- sums

dot-step : (h a b d e : ℕ) → h ⊗ (a ⊕ b) ⊕ (d ⊕ e) ≡ h ⊗ a ⊕ d ⊕ (h ⊗ b ⊕ e)
dot-step h a b d e = simp bytefield

dot-xor : (h x y : List ℕ) → length x ≡ length y → dot h (xor_list x y) ≡ dot h x ⊕ dot h y
unfolding dot xor_list
dot-xor h [] [] l = sym (zero-⊕ 0)
dot-xor h [] (b ∷ y) l = absurd (omega (arith, l))
dot-xor h (a ∷ x) [] l = absurd (omega (arith, l))
dot-xor [] (a ∷ x) (b ∷ y) l = sym (zero-⊕ 0)
dot-xor (c ∷ h) (a ∷ x) (b ∷ y) l = ap (◌⊕◌ (c ⊗ (a ⊕ b))) (dot-xor h x y (omega (arith, l))) ∙ dot-step c a b (dot h x) (dot h y)

pub rows-xor : (n : ℕ) (h x y : List ℕ) → length x ≡ length y → rows n h (xor_list x y) ≡ xor_list (rows n h x) (rows n h y)
unfolding rows xor_list
rows-xor zero h x y l = refl
rows-xor (suc n) h x y l =
    ap₂ ◌∷◌ (dot-xor h x y l)
    (ap (λ (k : ℕ). rows n (drop k h) (xor_list x y)) (length-xor_list x y (omega (arith, l))) ∙ rows-xor n (drop (length x) h) x y l
    ∙ ap (λ (k : ℕ). xor_list (rows n (drop (length x) h) x) (rows n (drop k h) y)) l)

-- ---- bytes

byte-dot : (h x : List ℕ) → dot h x < 256
unfolding dot
byte-dot h [] = lit< tt
byte-dot [] (x ∷ xs) = lit< tt
byte-dot (h ∷ hs) (x ∷ xs) = ⊕-lt 8 (⊗-lt h x) (byte-dot hs xs)

pub bytes-rows : (n : ℕ) (h x : List ℕ) → Bytes (rows n h x)
unfolding rows
bytes-rows zero h x = tt
bytes-rows (suc n) h x = (byte-dot h x, bytes-rows n (drop (length x) h) x)

pub bytes-vector : (h y x_a : List ℕ) → Bytes x_a → Bytes y → Bytes (vector_of h y x_a)
unfolding vector_of
bytes-vector h y x_a a b =
    bytes-append x_a (xor_list (rows (length y) h x_a) y) a
    (bytes-xor_list (rows (length y) h x_a) y (bytes-rows (length y) h x_a) b)
