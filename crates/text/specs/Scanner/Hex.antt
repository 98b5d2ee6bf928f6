-- A hex field, digit by digit, its bytes into a lent slice.
--
-- hex_start             before the first byte
-- HexHeld              a scanner's state beside what the lent slice holds
-- counted cap n        one more than n, up to one more than cap
-- hex_step h b          after the byte b: a first digit is kept, a second one completes a byte, which is stored where the slice has room
-- hex_step_after p h b  the same, where p is the digit kept
-- hex_accepts s         the field, ended here, is hex
use Rattle.std.specs.Prelude.{ℕ, ◌+◌, ◌*◌, ◌%◌, Bool, true, cond, ◌&&◌, List, Option, None, Some, is_none, leb, length, set}
use Rattle.text.specs.Hex.{is_hex_digit, hex_value}
use Rattle.text.specs.declared.hex.HexScan.{HexScan}
pub mod Laws

abbrev pub hex_start : HexScan
hex_start = record { count = 0; half = None; sound = true }

pub record HexHeld : Type 0 where
  pub scan : HexScan
  pub out : List ℕ

abbrev pub hex_held : HexScan → List ℕ → HexHeld
hex_held s d = record { scan = s; out = d }

unfoldable pub counted : ℕ → ℕ → ℕ
counted cap n = cond (leb n cap) (n + 1) n

abbrev pub hex_step_after : Option ℕ → HexHeld → ℕ → HexHeld
hex_step_after None h b =
    hex_held (record { count = h.scan.count; half = Some (hex_value b); sound = h.scan.sound && is_hex_digit b }) h.out
hex_step_after (Some high) h b =
    hex_held (record { count = counted (length h.out) h.scan.count; half = None; sound = h.scan.sound && is_hex_digit b })
    (set h.out h.scan.count (high % 16 * 16 + hex_value b))

unfoldable pub hex_step : HexHeld → ℕ → HexHeld
hex_step h b = hex_step_after h.scan.half h b

unfoldable pub hex_accepts : HexScan → Bool
hex_accepts s = is_none s.half && s.sound
