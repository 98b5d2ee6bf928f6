-- A published vector, by computation.
--
--   empty-message    SHAKE256 of the empty message, 32 bytes                               NIST, SHAKE256ShortMsg, Len = 0
use Rattle.std.specs.Prelude.{ℕ, ◌≡◌, refl, List, [], ◌∷◌, take}
use Rattle.std.proofs.Common.{ap, ◌∙◌}
use Rattle.fips.specs.Steps.{rotl, ρ, π, χ, ι}
use Rattle.fips.specs.Parameters.{rate}
use Rattle.fips.proofs.Rules.{turn, turns, keccak_f-turns}
use Rattle.fips.specs.Bytes.{word}
use Rattle.fips.specs.Shake256.{SHAKE256, padded, zeros, added, absorb, squeeze}

abbrev digest : List ℕ
digest =
    0x46 ∷ 0xb9 ∷ 0xdd ∷ 0x2b ∷ 0x0b ∷ 0xa8 ∷ 0x8d ∷ 0x13 ∷ 0x23 ∷ 0x3b ∷ 0x3f ∷ 0xeb ∷ 0x74 ∷ 0x3e ∷ 0xeb ∷ 0x24
    ∷ 0x3f ∷ 0xcd ∷ 0x52 ∷ 0xea ∷ 0x62 ∷ 0xb8 ∷ 0x1b ∷ 0x82 ∷ 0xb5 ∷ 0x0c ∷ 0x27 ∷ 0x64 ∷ 0x6e ∷ 0xd5 ∷ 0x76 ∷ 0x2f ∷ []

-- the padding alone fills a block
abbrev block : List ℕ
block = added zeros (take rate (padded []))

computed : take 32 (squeeze 1 (turns 24 block)) ≡ digest
unfolding turn turns ι χ π ρ rotl word added squeeze
computed = refl

pub empty-message : SHAKE256 [] 32 ≡ digest
unfolding SHAKE256 absorb
empty-message = ap (λ (S : List ℕ). take 32 (squeeze 1 S)) (keccak_f-turns block) ∙ computed
