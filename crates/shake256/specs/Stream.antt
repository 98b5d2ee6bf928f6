-- SHAKE256 byte by byte: a sponge is its state and the place of the next byte in the block. A full block goes through the
-- permutation when the next byte is asked of it, so that a place at or past the rate stands for a full block.
-- `proofs/Laws` shows that this is FIPS 202's SHAKE256, `proofs/Sponges` that pieces are as good as the whole.
--
--   start            the sponge that has absorbed nothing
--   permuted s       the state permuted, at the start of a block
--   ready s          s with room in its block
--   put s v          s with one byte absorbed
--   absorbed s vs    s with the bytes vs absorbed
--   finished s       s with the padding absorbed, which fills its block
--   next s           s with one byte squeezed
--   after s n        s with n bytes squeezed
--   squeezed s n     these n bytes
use Rattle.std.specs.Prelude.{ℕ, zero, suc, ◌+◌, ◌-◌, Bool, true, false, List, [], ◌∷◌, leb}
use Rattle.fips.specs.Permutation.{keccak_f}
use Rattle.fips.specs.Parameters.{rate, domain, final}
use Rattle.fips.specs.Bytes.{byte_at}
use Rattle.shake256.specs.Bytes.{xor_at}
use Rattle.fips.specs.Shake256.{zeros}
use Rattle.shake256.specs.declared.Sponge.{Sponge}

unfoldable pub start : Sponge
start = record { lanes = zeros; at = 0 }

abbrev pub permuted : Sponge → Sponge
permuted s = record { lanes = keccak_f s.lanes; at = 0 }

abbrev pub pick : Bool → Sponge → Sponge → Sponge
pick true a b = a
pick false a b = b

abbrev pub ready : Sponge → Sponge
ready s = pick (leb rate s.at) (permuted s) s

abbrev pub put : Sponge → ℕ → Sponge
put s v = record { lanes = xor_at (ready s).lanes (ready s).at v; at = (ready s).at + 1 }

unfoldable pub absorbed : Sponge → List ℕ → Sponge
absorbed s [] = s
absorbed s (v ∷ vs) = absorbed (put s v) vs

unfoldable pub finished : Sponge → Sponge
finished s = record { lanes = xor_at (xor_at (ready s).lanes (ready s).at domain) (rate - 1) final; at = rate }

abbrev pub next : Sponge → Sponge
next s = record { lanes = (ready s).lanes; at = (ready s).at + 1 }

unfoldable pub after : Sponge → ℕ → Sponge
after s zero = s
after s (suc n) = after (next s) n

unfoldable pub squeezed : Sponge → ℕ → List ℕ
squeezed s zero = []
squeezed s (suc n) = byte_at (ready s).lanes (ready s).at ∷ squeezed (next s) n
