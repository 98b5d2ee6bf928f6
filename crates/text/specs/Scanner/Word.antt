-- A field compared with a word, byte by byte.
--
-- word_start            before the first byte
-- word_step w s b       after the byte b: one more byte agrees, or the field is not w
-- word_accepts w s      the field, ended here, is w
use Rattle.std.specs.Prelude.{ℕ, ◌+◌, Bool, true, false, cond, ◌&&◌, List, ltb, eqb, length, get_or}
use Rattle.text.specs.declared.word.WordScan.{WordScan}
pub mod Laws

abbrev pub word_start : WordScan
word_start = record { at = 0; sound = true }

unfoldable pub word_step : List ℕ → WordScan → ℕ → WordScan
word_step w s b =
    cond (ltb s.at (length w) && eqb (get_or w s.at 0) b) (record { at = s.at + 1; sound = s.sound }) (record { at = s.at; sound = false })

unfoldable pub word_accepts : List ℕ → WordScan → Bool
word_accepts w s = eqb s.at (length w) && s.sound
