-- The laws of what a leaf gives, hashed on from a sponge.
--
-- length-bytes_after   n bytes
-- bytes-begun         from the start of a layer, the hash of its string
-- state-begun, draw-begun, commitment-begun   from the start of layers 2, 3 and 4, what document 01 says
use Rattle.std.specs.Prelude.{◌≡◌, List, [], ◌∷◌, ◌++◌, ℕ, length}
use Rattle.std.proofs.Math.Bool.{cond}
use Rattle.shake256.specs.declared.Sponge.{Sponge}
use Rattle.shake256.specs.Fips.{SHAKE256}
use Rattle.parameters.specs.declared.Parameters.{Parameters}
use Rattle.layout.specs.Layout.{is_last}
use Rattle.exchange.specs.Strings.{string, string2, string3, string4}
use Rattle.exchange.specs.Leaf.{state, commitment}
use Rattle.strings.specs.Digest.{begun}
use Rattle.strings.specs.Digest.Laws.{hashed-from, length-hashed}
use Rattle.leaves.specs.After.{bytes_after, state_after, commitment_after}

pub length-bytes_after : (s : Sponge) (i : ℕ) (m : List ℕ) (n : ℕ) → length (bytes_after s i m n) ≡ n
unfolding bytes_after
length-bytes_after s i m n = length-hashed s (i ∷ m) n

pub bytes-begun : (layer : ℕ) (s : Sponge) (prefix : List ℕ) (i : ℕ) (m : List ℕ) (n : ℕ) → s ≡ begun layer prefix
    → bytes_after s i m n ≡ SHAKE256 (string layer prefix (i ∷ m)) n
unfolding bytes_after
bytes-begun layer s prefix i m n b = hashed-from layer prefix (i ∷ m) n s b

module _ (s : Sponge) (prefix : List ℕ) where
  pub state-begun : (i : ℕ) (seed : List ℕ) → s ≡ begun 2 prefix → state_after s i seed ≡ state SHAKE256 prefix i seed
  unfolding state string2
  state-begun i seed b = bytes-begun 2 s prefix i seed 32 b

  pub draw-begun : (i : ℕ) (seed : List ℕ) (n : ℕ) → s ≡ begun 3 prefix → bytes_after s i seed n ≡ SHAKE256 (string3 prefix i seed) n
  unfolding string3
  draw-begun i seed n b = bytes-begun 3 s prefix i seed n b

  module _ (p : Parameters) (i : ℕ) (st aux : List ℕ) where
    pub commitment-begun : s ≡ begun 4 prefix → commitment_after s p i st aux ≡ commitment SHAKE256 p prefix i st aux
    unfolding commitment_after commitment string4
    commitment-begun b = bytes-begun 4 s prefix i (st ++ cond (is_last p i) aux []) 32 b
