-- What the functions ask of their slices and numbers.
--
-- Expand v d from to      a seed at index `from` of the buffer d, room for its children at index `to`
-- Grow c v d              the first c seeds of the buffer d, of nodes v to v + c − 1, have room for their children
-- Below l v d             the buffer d is for the leaves l levels below node v
-- Subtree l v seed d      the same, with the node's seed
-- Tree d root seeds       the buffer `seeds` is for the leaves of a tree of d levels, the root's seed has sixteen bytes
-- Siblings d leaf root s  s is for the sibling seeds of a leaf of that tree
-- Opened d leaf s seeds   s has the sibling seeds of a leaf, the buffer `seeds` is for the leaves of the tree
-- Beside w l s d at       s is a seed; the leaves of the node on the way stand at index `at` of d, half of them are 2^l
use Rattle.std.specs.Prelude.{◌≡◌, List, ℕ, ◌+◌, ◌*◌, ◌/◌, ◌^◌, ◌≤◌, ◌<◌, length}
use Rattle.seedtree.specs.declared.nodes.Way.{Way}

pub record Expand (v : ℕ) (d : List ℕ) (from to : ℕ) : Type 0 where
  pub node : v < 65536
  pub seed : from + 16 ≤ length d
  pub room : to + 32 ≤ length d

pub record Grow (c v : ℕ) (d : List ℕ) : Type 0 where
  pub nodes : v + c ≤ 65536
  pub room : 32 * c ≤ length d

pub record Below (l v : ℕ) (d : List ℕ) : Type 0 where
  pub levels : l ≤ 8
  pub node : v < 512
  pub size : length d ≡ 16 * 2 ^ l

pub record Subtree (l v : ℕ) (seed d : List ℕ) : Type 0 where
  pub below : Below l v d
  pub sixteen : length seed ≡ 16

pub record Tree (d : ℕ) (root seeds : List ℕ) : Type 0 where
  pub levels : d ≤ 8
  pub seed : length root ≡ 16
  pub size : length seeds ≡ 16 * 2 ^ d

pub record Siblings (d leaf : ℕ) (root s : List ℕ) : Type 0 where
  pub levels : d ≤ 8
  pub is_leaf : leaf < 2 ^ d
  pub seed : length root ≡ 16
  pub size : length s ≡ 16 * d

pub record Opened (d leaf : ℕ) (s seeds : List ℕ) : Type 0 where
  pub levels : d ≤ 8
  pub is_leaf : leaf < 2 ^ d
  pub siblings : length s ≡ 16 * d
  pub size : length seeds ≡ 16 * 2 ^ d

pub record Beside (w : Way) (l : ℕ) (s d : List ℕ) (at : ℕ) : Type 0 where
  pub levels : l ≤ 8
  pub node : 2 * w.node + 1 < 512
  pub half : w.size / 2 ≡ 2 ^ l
  pub seed : length s ≡ 16
  pub room : at + 16 * (w.size / 2 + w.size / 2) ≤ length d
