-- A node's string, hashed on from the start of layer 1, gives the node's children.
use mathlib.Core.Path.{◌≡◌}
use mathlib.Core.List.{List, ◌++◌}
use Prim.Native.Nat.{ℕ}
use Rattle.shake256.specs.declared.Sponge.{Sponge}
use Rattle.shake256.specs.Fips.{SHAKE256}
use Rattle.exchange.specs.Strings.{node_bytes, string1}
use Rattle.exchange.specs.Tree.{children}
use Rattle.strings.specs.Digest.{begun, hashed}
use Rattle.strings.specs.Digest.Laws.{hashed-from}

pub hashed-children : (nodes : Sponge) (prefix : List ℕ) (v : ℕ) (seed : List ℕ) → nodes ≡ begun 1 prefix
    → hashed nodes (node_bytes v ++ seed) 32 ≡ children SHAKE256 prefix v seed
unfolding children string1
hashed-children nodes prefix v seed b = hashed-from 1 prefix (node_bytes v ++ seed) 32 nodes b
