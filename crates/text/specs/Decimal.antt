-- Decimals (document 01, Key listing: 'decimals of one to three digits without leading zeros').
--
-- is_digit b            b is one of the digits 0 to 9
-- all_digits f          every byte of f is
-- leading_zero f        f begins with 0 and goes on
-- is_decimal n f        f is a decimal of one to n digits without a leading zero
-- value_of f            the number that the digits of f stand for
-- decimal_text n        the decimal of n, for n below 1,000
use Rattle.std.specs.Prelude.{Bool, true, false, cond, not, ◌&&◌, ℕ, ◌+◌, ◌-◌, ◌*◌, ◌/◌, ◌%◌, List, [], ◌∷◌, eqb, leb, ltb, length}
use Rattle.lists.specs.Checks.{all_true}
use Rattle.text.specs.Fold.{fold}
pub mod Laws

unfoldable pub is_digit : ℕ → Bool
is_digit b = leb 48 b && leb b 57

unfoldable pub all_digits : List ℕ → Bool
all_digits [] = true
all_digits (b ∷ f) = is_digit b && all_digits f

abbrev pub leading_zero : List ℕ → Bool
leading_zero [] = false
leading_zero (a ∷ []) = false
leading_zero (a ∷ b ∷ f) = eqb a 48

abbrev pub is_decimal : ℕ → List ℕ → Bool
is_decimal n f = all_true (leb 1 (length f) ∷ leb (length f) n ∷ all_digits f ∷ not (leading_zero f) ∷ [])

-- one more digit
abbrev pub grown : ℕ → ℕ → ℕ
grown v b = 10 * v + (b - 48)

abbrev pub value_of : List ℕ → ℕ
value_of f = fold grown 0 f

unfoldable pub decimal_text : ℕ → List ℕ
decimal_text n =
    cond (ltb n 10) ((48 + n) ∷ [])
    (cond (ltb n 100) ((48 + n / 10) ∷ (48 + n % 10) ∷ []) ((48 + n / 100) ∷ (48 + n / 10 % 10) ∷ (48 + n % 10) ∷ []))
