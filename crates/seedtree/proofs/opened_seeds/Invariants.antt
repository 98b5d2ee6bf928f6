-- The loop's invariant: the seeds below the siblings of k levels stand around the leaves on the way, and with these as they
-- will be, the buffer is the whole. A turn adds the leaves below one sibling (`opened-more`).
use Rattle.std.proofs.Common.{List, length, ℕ, ◌*◌, ◌+◌, ◌≡◌, ◌≤◌}
use Rattle.shake256.specs.Fips.{SHAKE256}
use Rattle.shake256.proofs.Laws.{length-SHAKE256}
use Rattle.exchange.specs.Tree.{opened_seeds}
use Rattle.seedtree.specs.declared.nodes.Way.{Way}
use Rattle.seedtree.specs.Laid.{laid}
use Rattle.seedtree.specs.Way.{OnWay}
use Rattle.seedtree.specs.Opened.{opening}
use Rattle.seedtree.proofs.opened_seeds.Given as goal

pub record Inv (prefix : List ℕ) (d leaf : ℕ) (siblings seeds₀ seeds : List ℕ) (w : Way) (at k : ℕ) : Type 0 where
  pub on : OnWay d k w
  pub long : length seeds ≡ length seeds₀
  pub room : at + 16 * w.size ≤ length seeds
  pub rest : laid (opened_seeds SHAKE256 prefix d 1 leaf siblings) ≡ opening SHAKE256 prefix length-SHAKE256 d siblings k w seeds at

abbrev pub invariant-loop-k : goal.invariant-loop-k
invariant-loop-k l = Inv l.prefix l.d l.leaf l.siblings l.initial.seeds l.seeds l.way l.at l.k
