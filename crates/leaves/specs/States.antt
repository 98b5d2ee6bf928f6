-- The states of all leaves, one list of 32 bytes a leaf.
--
-- state_at states i                 the state of leaf i
-- seed_at seeds i                   the seed of leaf i, in a list of sixteen bytes a leaf
-- unless_hidden hidden i st         the place of leaf i: its state st, or 32 zeros where it is the hidden leaf
-- states_of prefix seeds hidden n   the states of n leaves (layer 2), from their seeds; a hidden number that is not below n hides none
-- states_from p prefix leaf s       the states of all leaves but one, from that leaf's sibling seeds s
use Rattle.std.specs.Prelude.{cond, List, ℕ, ◌*◌, eqb, replicate}
use Rattle.lists.specs.Part.{part}
use Rattle.shake256.specs.Fips.{SHAKE256}
use Rattle.parameters.specs.declared.Parameters.{Parameters}
use Rattle.layout.specs.Layout.{levels, leaves}
use Rattle.exchange.specs.Sequences.{joined}
use Rattle.exchange.specs.Tree.{opened_seeds}
use Rattle.exchange.specs.Leaf.{state}
use Rattle.seedtree.specs.Laid.{laid}
pub mod Laws
pub mod Seeds
pub mod Written

abbrev pub state_at : List ℕ → ℕ → List ℕ
state_at states i = part states (32 * i) 32

abbrev pub seed_at : List ℕ → ℕ → List ℕ
seed_at seeds i = part seeds (16 * i) 16

unfoldable pub unless_hidden : ℕ → ℕ → List ℕ → List ℕ
unless_hidden hidden i st = cond (eqb i hidden) (replicate 32 0) st

unfoldable pub states_of : List ℕ → List ℕ → ℕ → ℕ → List ℕ
states_of prefix seeds hidden n = joined (λ i. unless_hidden hidden i (state SHAKE256 prefix i (seed_at seeds i))) n

unfoldable pub states_from : Parameters → List ℕ → ℕ → List ℕ → List ℕ
states_from p prefix leaf siblings = states_of prefix (laid (opened_seeds SHAKE256 prefix (levels p) 1 leaf siblings)) leaf (leaves p)
