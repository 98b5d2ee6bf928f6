-- Bytes of a lane stored, and bytes xored into a state of 25 lanes (FIPS 202, B.1: the lowest byte of a lane first).
--
--   bytes_of w        the eight bytes of the lane w
--   xor_at S i v      the state S with v xored into its byte i
--   xor_bytes S i vs  the same with the bytes vs, from byte i on
use Rattle.std.specs.Prelude.{ℕ, ◌+◌, ◌*◌, ◌/◌, ◌%◌, ◌^◌, List, [], ◌∷◌, get_or, set}
use Rattle.fips.specs.Steps.{◌⊕◌}
use Rattle.fips.specs.Bytes.{byte_of}

abbrev pub bytes_of : ℕ → List ℕ
bytes_of w = byte_of w 0 ∷ byte_of w 1 ∷ byte_of w 2 ∷ byte_of w 3 ∷ byte_of w 4 ∷ byte_of w 5 ∷ byte_of w 6 ∷ byte_of w 7 ∷ []

abbrev pub xor_at : List ℕ → ℕ → ℕ → List ℕ
xor_at S i v = set S (i / 8) (get_or S (i / 8) 0 ⊕ (v * 2 ^ (8 * (i % 8))))

unfoldable pub xor_bytes : List ℕ → ℕ → List ℕ → List ℕ
xor_bytes S i [] = S
xor_bytes S i (v ∷ vs) = xor_bytes (xor_at S i v) (i + 1) vs
