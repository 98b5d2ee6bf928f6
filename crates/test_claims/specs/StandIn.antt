-- The laws of the stand-in hash that the claims ask of a hash.
--
-- length-stand_in     it gives n numbers
-- bytes-stand_in      they are bytes
use Rattle.std.specs.Prelude.{◌≡◌, refl, List, ℕ, zero, suc, ◌+◌, ◌*◌, ◌/◌, ◌%◌, length}
use Rattle.std.proofs.Common.{ap, mod-lt, lit<}
use Rattle.polynomial.specs.Bytes.{Bytes}
use Rattle.test_standin.specs.StandIn.{absorb, emitted, stand_in}

length-emitted : (a n : ℕ) → length (emitted a n) ≡ n
unfolding emitted
length-emitted a zero = refl
length-emitted a (suc n) = ap suc (length-emitted ((a * 75 + 74) % 65537) n)

pub length-stand_in : (s : List ℕ) (n : ℕ) → length (stand_in s n) ≡ n
unfolding stand_in
length-stand_in s n = length-emitted (absorb s 7) n

bytes-emitted : (a n : ℕ) → Bytes (emitted a n)
unfolding emitted
bytes-emitted a zero = tt
bytes-emitted a (suc n) = (mod-lt (a / 7) (lit< tt), bytes-emitted ((a * 75 + 74) % 65537) n)

pub bytes-stand_in : (s : List ℕ) (n : ℕ) → Bytes (stand_in s n)
unfolding stand_in
bytes-stand_in s n = bytes-emitted (absorb s 7) n
