-- Bytes in a lane: bytes of one lane, xored in one by one, are one xor of their word, which is the number that they write; a whole
-- lane is taken at once.
use mathlib.Core.Path.{refl, sym, ap, ◌≡◌, ◌∙◌}
use mathlib.Core.Logic.{⊎_elim}
use mathlib.Core.List.{List, [], ◌++◌, ◌∷◌, append_assoc}
use Prim.Native.Nat.{ℕ, zero, suc, ◌+◌, ◌-◌, ◌*◌, ◌/◌, ◌%◌, ◌^◌, ◌≤◌, ◌<◌}
use native.Mathlib.Nat.{add-zero, zero-mul, mul-one, mul_assoc, eq-zero-or-pos}
use native.Mathlib.Numerals.{add-one}
use native.Mathlib.Omega.{arith}
use lib.Bits.{bit_xor, xor_zero_r, xor_comm, xor_shifted}
use lib.ListN.{length, take, drop, get_or, set}
use lib.Pow.{pow-add}
use lib.Seq.{drop-cons, get_or-set_same, set-set, set-get_or, set_out, take_at, drop_at, drop-drop, length-take-le}
use Rattle.std.proofs.lemmas.List.{set_split, take_more}
use Rattle.std.specs.Int.{w64, from_le_bytes}
use Rattle.fips.specs.Bytes.{word}
use Rattle.shake256.specs.Bytes.{xor_at, xor_bytes}
use Rattle.shake256.proofs.Xor.{xor_assoc, xor-shl}

-- ---- the bytes vs, the first at byte j of the lane, xored into the lane x one by one

abbrev pub folded : ℕ → ℕ → List ℕ → ℕ
folded x j [] = x
folded x j (v ∷ vs) = folded (bit_xor x (v * 2 ^ (8 * j))) (j + 1) vs

byte-up : (w j : ℕ) → w * 2 ^ 8 * 2 ^ (8 * j) ≡ w * 2 ^ (8 * (j + 1))
byte-up w j = let more : 8 + 8 * j ≡ 8 * (j + 1) = omega arith in
    mul_assoc w (2 ^ 8) (2 ^ (8 * j)) ∙ ap (λ (k : ℕ). w * k) (sym (pow-add 2 8 (8 * j))) ∙ ap (λ (k : ℕ). w * 2 ^ k) more

pub folded-word : (x j : ℕ) (vs : List ℕ) → folded x j vs ≡ bit_xor x (word vs * 2 ^ (8 * j))
unfolding word
folded-word x j [] = sym (ap (bit_xor x) (zero-mul (2 ^ (8 * j))) ∙ xor_zero_r x)
folded-word x j (v ∷ vs) = folded-word (bit_xor x (v * 2 ^ (8 * j))) (j + 1) vs ∙ xor_assoc x (v * 2 ^ (8 * j)) (word vs * 2 ^ (8 * (j + 1)))
    ∙ ap (bit_xor x) (ap (bit_xor (v * 2 ^ (8 * j))) (sym (byte-up (word vs) j)) ∙ sym (xor-shl v (word vs * 2 ^ 8) (8 * j)))

-- ---- one lane of a state

at-lane : (k j : ℕ) → j < 8 → (8 * k + j) / 8 ≡ k
at-lane k j h = omega arith

at_byte : (k j : ℕ) → j < 8 → (8 * k + j) % 8 ≡ j
at_byte k j h = omega arith

next-byte : (k j : ℕ) → (8 * k + j) + 1 ≡ 8 * k + (j + 1)
next-byte k j = omega arith

-- what is stored at k counts for nothing where k is past the end
pub set-read : (a : List ℕ) (k x : ℕ) (f : ℕ → ℕ) → set a k (f (get_or (set a k x) k 0)) ≡ set a k (f x)
set-read a k x f = ⊎_elim (λ h. let past : length a ≤ k = omega arith in set_out a k _ past ∙ sym (set_out a k _ past))
    (λ h. ap (λ (y : ℕ). set a k (f y)) (get_or-set_same a k x 0 (omega arith))) (eq-zero-or-pos (length a - k))

xor_at-lane : (a : List ℕ) (k x j v : ℕ) → j < 8 → xor_at (set a k x) (8 * k + j) v ≡ set a k (bit_xor x (v * 2 ^ (8 * j)))
xor_at-lane a k x j v hj = rw (at-lane k j hj, at_byte k j hj) (set-set a k x _ ∙ set-read a k x (λ y. bit_xor y (v * 2 ^ (8 * j))))

xor_bytes-folded : (a : List ℕ) (k x j : ℕ) (vs : List ℕ) → j + length vs ≤ 8 → xor_bytes (set a k x) (8 * k + j) vs ≡ set a k (folded x j vs)
unfolding xor_bytes
xor_bytes-folded a k x j [] h = refl
xor_bytes-folded a k x j (v ∷ vs) h = (λ i. xor_bytes (xor_at-lane a k x j v (omega arith) i) (next-byte k j i) vs)
    ∙ xor_bytes-folded a k (bit_xor x (v * 2 ^ (8 * j))) (j + 1) vs (omega arith)

-- at most eight bytes from the start of lane k on
pub xor_bytes-lane : (a : List ℕ) (k : ℕ) (vs : List ℕ) → length vs ≤ 8 → xor_bytes a (8 * k) vs ≡ set a k (bit_xor (get_or a k 0) (word vs))
xor_bytes-lane a k vs h = (λ t. xor_bytes (sym (set-get_or a k 0) t) (sym (add-zero (8 * k)) t) vs) ∙ xor_bytes-folded a k (get_or a k 0) 0 vs (omega arith)
    ∙ ap (set a k) (folded-word (get_or a k 0) 0 vs ∙ ap (bit_xor (get_or a k 0)) (mul-one (word vs)))

pub one_more : (n k : ℕ) → (n + 1) + k ≡ n + suc k
one_more n k = omega arith

pub xor_bytes-append : (a : List ℕ) (i : ℕ) (x y : List ℕ) → xor_bytes a i (x ++ y) ≡ xor_bytes (xor_bytes a i x) (i + length x) y
unfolding xor_bytes
xor_bytes-append a i [] y = ap (λ (j : ℕ). xor_bytes a j y) (sym (add-zero i))
xor_bytes-append a i (v ∷ x) y =
    xor_bytes-append (xor_at a i v) (i + 1) x y ∙ ap (λ (j : ℕ). xor_bytes (xor_bytes (xor_at a i v) (i + 1) x) j y) (one_more i (length x))

-- ---- parts of a slice

pub part-cons : (s : List ℕ) (i n : ℕ) → i < length s → take (suc n) (drop i s) ≡ get_or s i 0 ∷ take n (drop (i + 1) s)
part-cons s i n h = ap (take (suc n)) (drop-cons s i 0 h) ∙ ap (λ (j : ℕ). get_or s i 0 ∷ take n (drop j s)) (sym (add-one i))

-- n elements of s, from j on
abbrev pub elements : List ℕ → ℕ → ℕ → List ℕ
elements s j zero = []
elements s j (suc n) = get_or s j 0 ∷ elements s (j + 1) n

part-elements : (s : List ℕ) (j n : ℕ) → j + n ≤ length s → take n (drop j s) ≡ elements s j n
part-elements s j zero h = refl
part-elements s j (suc n) h = part-cons s j n (omega arith) ∙ ap (λ (l : List ℕ). get_or s j 0 ∷ l) (part-elements s (j + 1) n (omega arith))

-- ---- a word is the number of its bytes

word-none : word [] ≡ 0
unfolding word
word-none = refl

word-digit : (b : ℕ) (bs : List ℕ) → b < 2 ^ 8 → word (b ∷ bs) ≡ word bs * 2 ^ 8 + b
unfolding word
word-digit b bs h = xor_comm b (word bs * 2 ^ 8) ∙ xor_shifted (word bs) 8 b h

word-eight : (a b c d e f g h : ℕ) → a < 2 ^ 8 → b < 2 ^ 8 → c < 2 ^ 8 → d < 2 ^ 8 → e < 2 ^ 8 → f < 2 ^ 8 → g < 2 ^ 8 → h < 2 ^ 8
    → from_le_bytes w64 (a ∷ b ∷ c ∷ d ∷ e ∷ f ∷ g ∷ h ∷ []) ≡ word (a ∷ b ∷ c ∷ d ∷ e ∷ f ∷ g ∷ h ∷ [])
word-eight a b c d e f g h ha hb hc hd he hf hg hh =
    omega (
      arith,
      word-digit a (b ∷ c ∷ d ∷ e ∷ f ∷ g ∷ h ∷ []) ha,
      word-digit b (c ∷ d ∷ e ∷ f ∷ g ∷ h ∷ []) hb,
      word-digit c (d ∷ e ∷ f ∷ g ∷ h ∷ []) hc,
      word-digit d (e ∷ f ∷ g ∷ h ∷ []) hd,
      word-digit e (f ∷ g ∷ h ∷ []) he,
      word-digit f (g ∷ h ∷ []) hf,
      word-digit g (h ∷ []) hg,
      word-digit h [] hh,
      word-none,
    )

-- the first eight bytes of s as a number
pub word-front : (s : List ℕ) → ((k : ℕ) → get_or s k 0 < 2 ^ 8) → 8 ≤ length s → from_le_bytes w64 (elements s 0 8) ≡ word (take 8 s)
word-front s bytes h = word-eight _ _ _ _ _ _ _ _ (bytes 0) (bytes 1) (bytes 2) (bytes 3) (bytes 4) (bytes 5) (bytes 6) (bytes 7)
    ∙ ap word (sym (part-elements s 0 8 h))

-- ---- a whole lane at byte n

whole : (n : ℕ) → n % 8 ≡ 0 → n ≡ 8 * (n / 8)
whole n h = omega arith

pub taken-lane : (a : List ℕ) (n : ℕ) (vs : List ℕ) → n % 8 ≡ 0 → length vs ≤ 8
    → set a (n / 8) (bit_xor (get_or a (n / 8) 0) (word vs)) ≡ xor_bytes a n vs
taken-lane a n vs even h = sym (ap (λ (j : ℕ). xor_bytes a j vs) (whole n even) ∙ xor_bytes-lane a (n / 8) vs h)

-- ---- a lane is stored byte by byte: l holds the first j bytes of b, and then what o holds

pub stored-more : (b o l : List ℕ) (j : ℕ) → j < length b → j < length l → l ≡ take j b ++ drop j o
    → set l j (get_or b j 0) ≡ take (j + 1) b ++ drop (j + 1) o
stored-more b o l j hb hl is = let front : length (take j b) ≡ j = length-take-le j b (omega arith) in let v = get_or b j 0 in
    let rest : drop (suc j) (take j b ++ drop j o) ≡ drop (j + 1) o = ap (λ (k : ℕ). drop k (take j b ++ drop j o)) (sym (add-one j))
    ∙ sym (drop-drop 1 j (take j b ++ drop j o)) ∙ ap (drop 1) (drop_at (take j b) (drop j o) j front) ∙ drop-drop 1 j o in
    set_split l j v hl ∙ (λ t. take j (is t) ++ (v ∷ drop (suc j) (is t))) ∙ (λ t. take_at (take j b) (drop j o) j front t ++ (v ∷ rest t))
    ∙ sym (append_assoc (take j b) (v ∷ []) (drop (j + 1) o)) ∙ ap (λ (x : List ℕ). x ++ drop (j + 1) o) (sym (take_more b j 0 hb))
