-- The loop's invariant: `out` holds the sibling seeds of k levels, and those that are still to come make up the whole; the leaf's
-- seed is below the node that was come to. A turn goes one level down (`siblings-more`, `leaf_seed-more`).
use Rattle.std.proofs.Common.{List, [], get_or, length, take, ℕ, ◌*◌, ◌++◌, ◌-◌, ◌≡◌, ◌≤◌}
use Rattle.shake256.specs.Fips.{SHAKE256}
use Rattle.lists.specs.Part.{part}
use Rattle.exchange.specs.Tree.{leaf_seeds, sibling_seeds}
use Rattle.seedtree.specs.declared.nodes.Way.{Way}
use Rattle.seedtree.specs.Way.{OnWay}
use Rattle.seedtree.proofs.sibling_seeds.Given as goal

pub record Inv (prefix : List ℕ) (d : ℕ) (root : List ℕ) (leaf : ℕ) (out₀ out : List ℕ) (w : Way) (pair : List ℕ) (own k : ℕ) : Type 0 where
  pub on : OnWay d k w
  pub owned : own ≤ 16
  pub long : length out ≡ length out₀
  pub whole : length pair ≡ 32
  pub rest : sibling_seeds SHAKE256 prefix d 1 root leaf ≡ take (16 * k) out ++ sibling_seeds SHAKE256 prefix (d - k) w.node (part pair own 16) w.leaf
  pub seed : get_or (leaf_seeds SHAKE256 prefix d 1 root) leaf [] ≡ get_or (leaf_seeds SHAKE256 prefix (d - k) w.node (part pair own 16)) w.leaf []

abbrev pub invariant-loop-k : goal.invariant-loop-k
invariant-loop-k l = Inv l.prefix l.d l.root l.leaf l.initial.out l.out l.way l.pair l.own l.k
