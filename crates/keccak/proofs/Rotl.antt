-- `rotl a r` moves bit z of a to bit (z + r) mod 64, as θ and ρ of FIPS 202 do with the bits of a lane.
use mathlib.Core.Path.{◌≡◌, sym, ap, ◌∙◌, subst}
use mathlib.Core.Logic.{⊎_elim}
use Prim.Native.Nat.{ℕ, suc, ◌+◌, ◌-◌, ◌*◌, ◌/◌, ◌%◌, ◌^◌, ◌≤◌, ◌<◌}
use native.Mathlib.Nat.{eq-zero-or-pos}
use native.Mathlib.Omega.{arith}
use lib.Pow.{shr-shr, shr_lt, high, low, field, mod-mod-pow}
use Rattle.fips.specs.Steps.{rotl}
use Rattle.keccak.proofs.Rotation.{up}

abbrev pub bit : ℕ → ℕ → ℕ
bit a z = a / 2 ^ z % 2

-- a bit of the low k places
bit-mod : (a k z : ℕ) → z < k → bit (a % 2 ^ k) z ≡ bit a z
bit-mod a k z h = let more = k - suc z in let sum : (more + 1) + z ≡ k = omega arith in
    subst (λ (n : ℕ). bit (a % 2 ^ n) z ≡ bit a z) sum (ap (λ (x : ℕ). x % 2) (field a (more + 1) z) ∙ mod-mod-pow (a / 2 ^ z) more 1)

-- the bits of two numbers side by side
bit-above : (hi lo r z : ℕ) → lo < 2 ^ r → bit (hi * 2 ^ r + lo) (r + z) ≡ bit hi z
bit-above hi lo r z h = ap (λ (x : ℕ). x % 2) (sym (shr-shr (hi * 2 ^ r + lo) r z) ∙ ap (λ (x : ℕ). x / 2 ^ z) (high hi r h))

bit_below : (hi lo r z : ℕ) → lo < 2 ^ r → z < r → bit (hi * 2 ^ r + lo) z ≡ bit lo z
bit_below hi lo r z h below = sym (bit-mod (hi * 2 ^ r + lo) r z below) ∙ ap (λ (x : ℕ). bit x z) (low hi r h)

-- the width is j + r: the j low bits go up by r places, the r high bits down by j
module _ (a r j : ℕ) (small : a < 2 ^ (r + j)) where
  bit_up : (z : ℕ) → z < j → bit (a * 2 ^ r % 2 ^ (j + r) + a / 2 ^ j) (r + z) ≡ bit a z
  bit_up z h = rw up (bit-above (a % 2 ^ j) (a / 2 ^ j) r z (shr_lt r j small) ∙ bit-mod a j z h)

  bit-down : (z : ℕ) → z < r → bit (a * 2 ^ r % 2 ^ (j + r) + a / 2 ^ j) z ≡ bit a (j + z)
  bit-down z h = rw up (bit_below (a % 2 ^ j) (a / 2 ^ j) r z (shr_lt r j small) h ∙ ap (λ (x : ℕ). x % 2) (shr-shr a j z))

pub rotl-bit : (a r z : ℕ) → a < 2 ^ 64 → r < 64 → z < 64 → bit (rotl a r) ((z + r) % 64) ≡ bit a z
unfolding rotl
rotl-bit a r z small hr hz =
    let j = 64 - r in let width : j + r ≡ 64 = omega arith in let width' : r + j ≡ 64 = omega arith in
    let small' : a < 2 ^ (r + j) = subst (λ (n : ℕ). a < 2 ^ n) (sym width') small in
    ⊎_elim (λ over. let down = z - j in let place : (z + r) % 64 ≡ down = omega arith in ap (bit (a * 2 ^ r % 2 ^ 64 + a / 2 ^ j)) place
    ∙ subst (λ (n : ℕ). bit (a * 2 ^ r % 2 ^ n + a / 2 ^ j) down ≡ bit a (j + down)) width (bit-down a r j small' down (omega arith))
    ∙ ap (bit a) (back j z (omega arith)))
    (λ under. let place : (z + r) % 64 ≡ r + z = omega arith in ap (bit (a * 2 ^ r % 2 ^ 64 + a / 2 ^ j)) place
    ∙ subst (λ (n : ℕ). bit (a * 2 ^ r % 2 ^ n + a / 2 ^ j) (r + z) ≡ bit a z) width (bit_up a r j small' z (omega arith))) (eq-zero-or-pos (j - z))
  where
    back : (j z : ℕ) → j ≤ z → j + (z - j) ≡ z
    back j z h = omega arith
