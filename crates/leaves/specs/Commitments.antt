-- The commitments of all leaves, as they follow from the leaves' states.
--
-- commitments_of p prefix states hidden given aux i   the commitment of leaf i (layer 4); the hidden leaf's is given
-- commitments_after s p states hidden given aux i     the same, hashed on from the sponge s
-- committed prefix f n   the sponge that has absorbed 5 ‖ prefix ‖ the commitments f 0 to f (n − 1)
use Rattle.std.specs.Prelude.{cond, List, ℕ, eqb}
use Rattle.shake256.specs.declared.Sponge.{Sponge}
use Rattle.shake256.specs.Stream.{absorbed}
use Rattle.shake256.specs.Fips.{SHAKE256}
use Rattle.parameters.specs.declared.Parameters.{Parameters}
use Rattle.exchange.specs.Sequences.{joined}
use Rattle.exchange.specs.Leaf.{commitment}
use Rattle.strings.specs.Digest.{begun}
use Rattle.leaves.specs.After.{commitment_after}
use Rattle.leaves.specs.States.{state_at}
pub mod Laws

unfoldable pub commitments_of : Parameters → List ℕ → List ℕ → ℕ → List ℕ → List ℕ → ℕ → List ℕ
commitments_of p prefix states hidden given aux i = cond (eqb i hidden) given (commitment SHAKE256 p prefix i (state_at states i) aux)

unfoldable pub commitments_after : Sponge → Parameters → List ℕ → ℕ → List ℕ → List ℕ → ℕ → List ℕ
commitments_after s p states hidden given aux i = cond (eqb i hidden) given (commitment_after s p i (state_at states i) aux)

unfoldable pub committed : List ℕ → (ℕ → List ℕ) → ℕ → Sponge
committed prefix f n = absorbed (begun 5 prefix) (joined f n)
