-- The four lines of a key (document 01, Key listing).
--
-- set_word, matrix_word, syndrome_word, key_word   the words of the lines
-- key_form          the lines: 'set: m, k, w, D, t; key: x_A', 'decimals of one to three digits', the matrix, y and x_A in hex
-- word_of i         the word of line i
-- last_field i      the place of the last field of line i
-- number_at s j     the number at place j of the set line of s
-- numbers_in s      the numbers of the set line of s, which stand at 1 to 5
-- bytes_at s i      the bytes of line i of s (the matrix, y and x_A stand on lines 1 to 3)
use Rattle.std.specs.Prelude.{ℕ, cond, List, [], ◌∷◌, eqb}
use Rattle.text.specs.Decimal.{value_of}
use Rattle.text.specs.Hex.{bytes_of}
use Rattle.text.specs.Form.{Kind, word, decimal, hex, field_at}

unfoldable pub set_word : List ℕ
set_word = 115 ∷ 101 ∷ 116 ∷ []

unfoldable pub matrix_word : List ℕ
matrix_word = 109 ∷ 97 ∷ 116 ∷ 114 ∷ 105 ∷ 120 ∷ []

unfoldable pub syndrome_word : List ℕ
syndrome_word = 115 ∷ 121 ∷ 110 ∷ 100 ∷ 114 ∷ 111 ∷ 109 ∷ 101 ∷ []

unfoldable pub key_word : List ℕ
key_word = 107 ∷ 101 ∷ 121 ∷ []

abbrev pub number : Kind
number = decimal 3

abbrev pub key_form : List (List Kind)
key_form =
    (word set_word ∷ number ∷ number ∷ number ∷ number ∷ number ∷ []) ∷ (word matrix_word ∷ hex ∷ []) ∷ (word syndrome_word ∷ hex ∷ [])
    ∷ (word key_word ∷ hex ∷ []) ∷ []

abbrev pub word_of : ℕ → List ℕ
word_of i = cond (eqb i 0) set_word (cond (eqb i 1) matrix_word (cond (eqb i 2) syndrome_word key_word))

abbrev pub last_field : ℕ → ℕ
last_field i = cond (eqb i 0) 5 1

abbrev pub number_at : List ℕ → ℕ → ℕ
number_at s j = value_of (field_at s 0 j)

abbrev pub numbers_in : List ℕ → List ℕ
numbers_in s = number_at s 1 ∷ number_at s 2 ∷ number_at s 3 ∷ number_at s 4 ∷ number_at s 5 ∷ []

abbrev pub bytes_at : List ℕ → ℕ → List ℕ
bytes_at s i = bytes_of (field_at s i 1)
