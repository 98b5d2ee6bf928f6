-- Bytes of a state of 25 lanes (FIPS 202, 3.1.2, 3.1.3 and B.1): byte i is byte i mod 8 of lane i / 8, the lowest first.
--
--   word bs          the bits of the bytes bs side by side, those of the first byte lowest            B.1
--   byte_of w j       byte j of the lane w
--   byte_at S i       byte i of the state S
--   bytes_at S i n    n bytes of the state S, from byte i on
use Rattle.std.specs.Prelude.{ℕ, zero, suc, ◌*◌, ◌/◌, ◌%◌, ◌^◌, List, [], ◌∷◌, get_or}
use Rattle.fips.specs.Steps.{◌⊕◌}

unfoldable pub word : List ℕ → ℕ
word [] = 0
word (b ∷ bs) = b ⊕ (word bs * 2 ^ 8)

abbrev pub byte_of : ℕ → ℕ → ℕ
byte_of w j = w / 2 ^ (8 * j) % 2 ^ 8

abbrev pub byte_at : List ℕ → ℕ → ℕ
byte_at S i = byte_of (get_or S (i / 8) 0) (i % 8)

abbrev pub bytes_at : List ℕ → ℕ → ℕ → List ℕ
bytes_at S i zero = []
bytes_at S i (suc n) = byte_at S i ∷ bytes_at S (suc i) n
