-- What the prover has of its leaves, from what its session holds.
--
-- own_states p run           the states of all leaves, one after another; none is hidden
-- sum_of p prefix states     the sum of all shares as hashed, with no aux
use Rattle.std.specs.Prelude.{true, List, ℕ}
use Rattle.shake256.specs.Fips.{SHAKE256}
use Rattle.parameters.specs.declared.Parameters.{Parameters}
use Rattle.layout.specs.Layout.{levels, leaves}
use Rattle.exchange.specs.Run.{Run}
use Rattle.exchange.specs.Tree.{leaf_seeds}
use Rattle.exchange.specs.Parties.{total}
use Rattle.seedtree.specs.Laid.{laid}
use Rattle.leaves.specs.States.{states_of}
use Rattle.parties.specs.Drawn.{drawn_share}

unfoldable pub own_states : Parameters → Run → List ℕ
own_states p run = states_of run.prefix (laid (leaf_seeds SHAKE256 run.prefix (levels p) 1 run.root)) (leaves p) (leaves p)

abbrev pub sum_of : Parameters → List ℕ → List ℕ → List ℕ
sum_of p prefix states = total p (λ i. true) (drawn_share p prefix states) (leaves p)
