-- The power sums in two stages. The exponents e below 255 fall into 15 classes, e = κ + 15·q, and an exponent o of the sums is
-- 17·o₁ + o₂: then e·o and 17·κ·o₁ + e·o₂ agree modulo 255.
--
--   Asked            what the power sums are asked for: n rows, each as long as the scales, and the scales
--   scaled_by rows n w e
--                    the entries of the rows at the byte 03 to the e, side by side, times the scale of that byte
--   progression      the word v times 03 to the s, s + e, s + 2·e and so on
--   class_sum x κ o   the first stage: the sum over the class κ of x e times 03 to the e·o
--   class_term x κ o  the second stage: what the class adds to the sum of exponent o
--   class_sums x n o  what the first n classes add to it
use Rattle.std.specs.Prelude.{◌≡◌, List, ℕ, ◌+◌, ◌*◌, ◌/◌, ◌%◌, ◌≤◌, ◌<◌, length, get_or}
use Rattle.bytefield.specs.Powers.{power}
use Rattle.packed.specs.Word.{scaled}
use Rattle.interpolants.specs.PowerSum.{entry_of}
use Rattle.interpolants.specs.Sums.{total}
use Rattle.interpolants.specs.Words.{words_of}

pub record Asked (rows : List ℕ) (n : ℕ) (w : List ℕ) : Type 0 where
  pub few : n ≤ 8
  pub sized : length rows ≡ n * length w
  pub fits : length w < 256
  pub nonzero : (i : ℕ) → i < length w → 0 < get_or w i 0

unfoldable pub scaled_by : List ℕ → ℕ → List ℕ → ℕ → ℕ
scaled_by rows n w e = scaled (entry_of (words_of rows n (length w)) (power e)) (entry_of w (power e))

abbrev pub progression : ℕ → ℕ → ℕ → ℕ → ℕ
progression v s e j = scaled v (power (s + e * j))

unfoldable pub class_sum : (ℕ → ℕ) → ℕ → ℕ → ℕ
class_sum x κ o = total (λ q. progression (x (κ + 15 * q)) 0 (κ + 15 * q) o) 17

unfoldable pub class_term : (ℕ → ℕ) → ℕ → ℕ → ℕ
class_term x κ o = progression (class_sum x κ (o % 17)) 0 (17 * κ) (o / 17)

abbrev pub class_sums : (ℕ → ℕ) → ℕ → ℕ → ℕ
class_sums x n o = total (λ κ. class_term x κ o) n
