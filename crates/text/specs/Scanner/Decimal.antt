-- A decimal, digit by digit.
--
-- decimal_start             before the first byte
-- decimal_broken s          the field is no decimal
-- decimal_step limit s b    after the byte b, where at most `limit` digits are allowed (9 or fewer: the value stays small)
-- decimal_accepts s         the field, ended here, is a decimal
use Rattle.std.specs.Prelude.{ℕ, ◌+◌, Bool, true, false, cond, not, ◌&&◌, ltb, leb, eqb}
use Rattle.text.specs.Decimal.{is_digit, grown}
use Rattle.text.specs.declared.decimal.DecimalScan.{DecimalScan}
pub mod Laws

abbrev pub decimal_start : DecimalScan
decimal_start = record { digits = 0; value = 0; zero = false; sound = true }

abbrev pub decimal_broken : DecimalScan → DecimalScan
decimal_broken s = record { digits = s.digits; value = s.value; zero = s.zero; sound = false }

unfoldable pub decimal_step : ℕ → DecimalScan → ℕ → DecimalScan
decimal_step limit s b =
    cond (is_digit b && (ltb s.digits limit && (not s.zero && leb s.value 99_999_999)))
    (record { digits = s.digits + 1; value = grown s.value b; zero = eqb s.digits 0 && eqb b 48; sound = s.sound })
    (decimal_broken s)

unfoldable pub decimal_accepts : DecimalScan → Bool
decimal_accepts s = not (eqb s.digits 0) && s.sound
