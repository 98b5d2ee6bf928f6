-- Hexadecimal (document 01, Key listing: 'hex lower case, two digits a byte (an empty field is no bytes)').
--
-- is_hex_digit b         b is one of 0 to 9, a to f
-- hex_value b           the number that a hex digit stands for, 0 for any other byte
-- is_hex f              f is pairs of hex digits
-- bytes_of f            the bytes that they stand for
-- hex_digit n           the digit of a number below 16
-- hex_text s            the bytes s in hex
use Rattle.std.specs.Prelude.{Bool, true, false, cond, ◌&&◌, ◌||◌, ℕ, ◌+◌, ◌-◌, ◌*◌, ◌/◌, ◌%◌, List, [], ◌∷◌, leb, ltb}
pub mod Laws

unfoldable pub is_hex_digit : ℕ → Bool
is_hex_digit b = (leb 48 b && leb b 57) || (leb 97 b && leb b 102)

unfoldable pub hex_value : ℕ → ℕ
hex_value b = cond (leb 48 b && leb b 57) (b - 48) (cond (leb 97 b && leb b 102) (b - 87) 0)

unfoldable pub is_hex : List ℕ → Bool
is_hex [] = true
is_hex (a ∷ []) = false
is_hex (a ∷ b ∷ f) = is_hex_digit a && (is_hex_digit b && is_hex f)

unfoldable pub bytes_of : List ℕ → List ℕ
bytes_of [] = []
bytes_of (a ∷ []) = []
bytes_of (a ∷ b ∷ f) = (16 * hex_value a + hex_value b) ∷ bytes_of f

abbrev pub hex_digit : ℕ → ℕ
hex_digit n = cond (ltb n 10) (48 + n) (87 + n)

unfoldable pub hex_text : List ℕ → List ℕ
hex_text [] = []
hex_text (b ∷ s) = hex_digit (b / 16) ∷ hex_digit (b % 16) ∷ hex_text s
