-- A leaf's share as hashed (layer 3), with no aux.
--
-- drawn_length p i         how many bytes leaf i takes: 'Leaf n−1 takes only a and b (8t bytes)', any other a whole share
-- drawn_share p pre st i   the share of leaf i with no aux
use Rattle.std.specs.Prelude.{cond, List, [], ℕ}
use Rattle.shake256.specs.Fips.{SHAKE256}
use Rattle.parameters.specs.declared.Parameters.{Parameters}
use Rattle.layout.specs.Layout.{is_last, share_length, at_x}
use Rattle.exchange.specs.Leaf.{share}
use Rattle.leaves.specs.States.{state_at}
pub mod Laws

unfoldable pub drawn_length : Parameters → ℕ → ℕ
drawn_length p i = cond (is_last p i) (at_x p) (share_length p)

unfoldable pub drawn_share : Parameters → List ℕ → List ℕ → ℕ → List ℕ
drawn_share p prefix states i = share SHAKE256 p prefix i (state_at states i) []
