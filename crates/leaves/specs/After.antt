-- What a leaf gives, hashed on from a sponge. Where the sponge is the start of its layer, it is document 01's (After/Laws).
--
-- bytes_after s i m n             n bytes: the hash of what s has absorbed, and i ‖ m behind it
-- state_after s i seed            a leaf's state, where s is the start of layer 2
-- commitment_after s p i st aux   its commitment, where s is the start of layer 4
use Rattle.std.specs.Prelude.{cond, List, [], ◌∷◌, ◌++◌, ℕ}
use Rattle.shake256.specs.declared.Sponge.{Sponge}
use Rattle.parameters.specs.declared.Parameters.{Parameters}
use Rattle.layout.specs.Layout.{is_last}
use Rattle.strings.specs.Digest.{hashed}
pub mod Laws

unfoldable pub bytes_after : Sponge → ℕ → List ℕ → ℕ → List ℕ
bytes_after s i m n = hashed s (i ∷ m) n

abbrev pub state_after : Sponge → ℕ → List ℕ → List ℕ
state_after s i seed = bytes_after s i seed 32

unfoldable pub commitment_after : Sponge → Parameters → ℕ → List ℕ → List ℕ → List ℕ
commitment_after s p i st aux = bytes_after s i (st ++ cond (is_last p i) aux []) 32
