-- The laws of SHAKE256 for those who hash in pieces. With `absorbed-append`, `squeezed-add` and `after-add` of `Sponges` any
-- pieces absorbed and squeezed give SHAKE256 of what they make together.
--
--   squeezed-SHAKE256    absorb, finish, squeeze: FIPS 202's SHAKE256
--   length-SHAKE256      n bytes
--   SHAKE256-byte        each below 256
--   word-cons            on bytes, a word is their number in base 2 ^ 8
use mathlib.Core.Path.{refl, sym, ap, ◌≡◌, ◌∙◌}
use mathlib.Core.List.{List, ◌∷◌}
use Prim.Native.Nat.{ℕ, zero, suc, ◌+◌, ◌-◌, ◌*◌, ◌/◌, ◌%◌, ◌^◌, ◌<◌}
use native.Mathlib.Nat.{zero-add}
use native.Mathlib.Omega.{arith}
use lib.Bits.{xor_comm, xor_shifted}
use lib.ListN.{length, get_or, length-append}
use Rattle.fips.specs.Parameters.{rate}
use Rattle.fips.specs.Bytes.{word}
use Rattle.fips.specs.Shake256.{pad, padded, zeros, enough, absorb, SHAKE256}
use Rattle.shake256.specs.declared.Sponge.{Sponge}
use Rattle.shake256.specs.Stream.{start, ready, next, absorbed, finished, squeezed}
use Rattle.shake256.proofs.Sponges.{mk, absorbed-append, squeezed-ready, length-squeezed}
use Rattle.shake256.proofs.Blocks.{length-pad, finished-pad, absorbed-at, absorbed-blocks, squeezed-blocks}

-- a finished sponge has absorbed the padded message
finished-padded : (M : List ℕ) → finished (absorbed start M) ≡ absorbed (mk zeros 0) (padded M)
unfolding start
finished-padded M = finished-pad (absorbed start M)
    ∙ ap (λ (n : ℕ). absorbed (absorbed start M) (pad (rate - n))) (absorbed-at start M ∙ ap (λ (n : ℕ). n % rate) (zero-add (length M)))
    ∙ sym (absorbed-append start M (pad (rate - length M % rate)))

length-padded : (M : List ℕ) → length (padded M) ≡ rate * (length (padded M) / rate)
length-padded M = let all : length (padded M) ≡ length M + length (pad (rate - length M % rate)) = length-append M (pad (rate - length M % rate)) in
    omega (arith, length-pad (rate - length M % rate))

pub squeezed-SHAKE256 : (M : List ℕ) (n : ℕ) → squeezed (finished (absorbed start M)) n ≡ SHAKE256 M n
unfolding SHAKE256
squeezed-SHAKE256 M n = let k = length (padded M) / rate in
    squeezed-ready (finished (absorbed start M)) n ∙ ap (λ (z : Sponge). squeezed z n)
    (ap ready (finished-padded M) ∙ absorbed-blocks k (padded M) zeros (length-padded M) refl)
    ∙ squeezed-blocks (enough n) n (absorb k (padded M) zeros) (omega arith)

pub length-SHAKE256 : (M : List ℕ) (n : ℕ) → length (SHAKE256 M n) ≡ n
length-SHAKE256 M n = ap length (sym (squeezed-SHAKE256 M n)) ∙ length-squeezed (finished (absorbed start M)) n

squeezed-byte : (s : Sponge) (n i : ℕ) → get_or (squeezed s n) i 0 < 256
unfolding squeezed
squeezed-byte s zero i = omega arith
squeezed-byte s (suc n) zero = omega arith
squeezed-byte s (suc n) (suc i) = squeezed-byte (next s) n i

pub SHAKE256-byte : (M : List ℕ) (n i : ℕ) → get_or (SHAKE256 M n) i 0 < 256
SHAKE256-byte M n i = rw squeezed-SHAKE256 at (squeezed-byte (finished (absorbed start M)) n i)

pub word-cons : (b : ℕ) (bs : List ℕ) → b < 2 ^ 8 → word (b ∷ bs) ≡ word bs * 2 ^ 8 + b
unfolding word
word-cons b bs h = xor_comm b (word bs * 2 ^ 8) ∙ xor_shifted (word bs) 8 b h
