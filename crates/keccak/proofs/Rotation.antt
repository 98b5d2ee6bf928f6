-- A shift up and a shift down by the rest of the width, joined by `or`, are a rotation. Assumes nothing.
use mathlib.Core.Path.{◌≡◌, sym, ap, ◌∙◌, subst}
use Prim.Native.Nat.{ℕ, ◌+◌, ◌-◌, ◌*◌, ◌/◌, ◌%◌, ◌^◌, ◌≤◌, ◌<◌}
use native.Mathlib.Nat.{mul-mod_left, add-zero, add-sub_of_le, sub-add_cancel, mul-one, mod-eq_of_lt, div-eq_of_lt}
use lib.Bits.{bit_or, or_shifted}
use lib.Pow.{mod-pow-add, shl-shr, shr_lt}

-- the low digits, moved up by r, fill none of the r low places
pub up : (x r j : ℕ) → x * 2 ^ r % 2 ^ (j + r) ≡ (x % 2 ^ j) * 2 ^ r
up x r j = mod-pow-add (x * 2 ^ r) j r ∙ simp (shl-shr, mul-mod_left, add-zero)

or-rot : (x r j : ℕ) → x < 2 ^ (r + j) → bit_or (x * 2 ^ r % 2 ^ (j + r)) (x / 2 ^ j) ≡ x * 2 ^ r % 2 ^ (j + r) + x / 2 ^ j
or-rot x r j h = rw up (or_shifted (x % 2 ^ j) r (x / 2 ^ j) (shr_lt r j h))

-- a shift up and a shift down by the rest of the width are a rotation
pub or-rotl : (x r w : ℕ) → r ≤ w → x < 2 ^ w → bit_or (x * 2 ^ r % 2 ^ w) (x / 2 ^ (w - r)) ≡ x * 2 ^ r % 2 ^ w + x / 2 ^ (w - r)
or-rotl x r w le h = subst (λ (n : ℕ). bit_or (x * 2 ^ r % 2 ^ n) (x / 2 ^ (w - r)) ≡ x * 2 ^ r % 2 ^ n + x / 2 ^ (w - r)) (sub-add_cancel le)
    (or-rot x r (w - r) (subst (λ (n : ℕ). x < 2 ^ n) (sym (add-sub_of_le le)) h))

-- a rotation by 0
pub rotl-zero : (x w : ℕ) → x < w → x ≡ x * 1 % w + x / w
rotl-zero x w h = sym (ap (λ (y : ℕ). y % w + x / w) (mul-one x) ∙ rw (mod-eq_of_lt h, div-eq_of_lt h) (add-zero x))
