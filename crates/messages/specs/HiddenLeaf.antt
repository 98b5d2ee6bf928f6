-- The leaf that an opening hides, from what the prover's session holds.
--
-- siblings_of p run leaf    'D sibling seeds from the root side down'
-- drawn_leaf p run leaf     the leaf's state, and its share as hashed behind it
use Rattle.std.specs.Prelude.{List, ◌++◌, ℕ}
use Rattle.shake256.specs.Fips.{SHAKE256}
use Rattle.parameters.specs.declared.Parameters.{Parameters}
use Rattle.layout.specs.Layout.{levels}
use Rattle.exchange.specs.Run.{Run}
use Rattle.exchange.specs.Tree.{sibling_seeds}
use Rattle.leaves.specs.States.{state_at}
use Rattle.parties.specs.Drawn.{drawn_share}
use Rattle.messages.specs.Own.{own_states}

abbrev pub siblings_of : Parameters → Run → ℕ → List ℕ
siblings_of p run leaf = sibling_seeds SHAKE256 run.prefix (levels p) 1 run.root leaf

unfoldable pub drawn_leaf : Parameters → Run → ℕ → List ℕ
drawn_leaf p run leaf = state_at (own_states p run) leaf ++ drawn_share p run.prefix (own_states p run) leaf
