-- What an opening gives, in the lists that the code leaves.
--
-- opened_states p e       the states of all leaves, one after another; the hidden leaf's place is zeros
-- opened_row p e key j    what the parties of axis j announce: what is hashed at layer 6 behind the axis
-- opened_rows p e key     the same of every axis, one after another
use Rattle.std.specs.Prelude.{List, ℕ}
use Rattle.shake256.specs.Fips.{SHAKE256}
use Rattle.parameters.specs.declared.Parameters.{Parameters}
use Rattle.layout.specs.Layout.{side}
use Rattle.exchange.specs.Sequences.{joined}
use Rattle.exchange.specs.Values.{Key}
use Rattle.exchange.specs.Parties.{announced_bytes}
use Rattle.exchange.specs.Opening.{Exchange, path_of, announced}
use Rattle.leaves.specs.States.{states_from}
pub mod Laws
pub mod Made

unfoldable pub opened_states : Parameters → Exchange → List ℕ
opened_states p e = states_from p e.prefix e.leaf (path_of p e)

unfoldable pub opened_row : Parameters → Exchange → Key → ℕ → List ℕ
opened_row p e key j = joined (announced_bytes p (announced SHAKE256 p e key j)) (side p)

unfoldable pub opened_rows : Parameters → Exchange → Key → List ℕ
opened_rows p e key = joined (opened_row p e key) p.axes
