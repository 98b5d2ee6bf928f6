-- The way from the root of a tree down to a leaf: at each node the leaf is in the first or in the second half of the leaves
-- below it, and the way goes on in that half.
--
-- second i half x    x where leaf i is in the second half, 0 where it is in the first
-- root_way d leaf     at the root
-- side w             the half that the way goes on in: 0 or 1
-- skipped w          how many leaves stand before those of that half
-- next w             the child that the way goes on in
-- OnWay d k w        w is a place k levels below the root of a tree of d levels
use Rattle.std.specs.Prelude.{◌≡◌, cond, ℕ, ◌+◌, ◌-◌, ◌*◌, ◌/◌, ◌^◌, ◌≤◌, ◌<◌, ltb}
use Rattle.seedtree.specs.declared.nodes.Way.{Way}
pub mod Laws

unfoldable pub second : ℕ → ℕ → ℕ → ℕ
second i half x = cond (ltb i half) 0 x

unfoldable pub root_way : ℕ → ℕ → Way
root_way d leaf = record { node = 1; leaf = leaf; size = 2 ^ d }

unfoldable pub side : Way → ℕ
side w = second w.leaf (w.size / 2) 1

unfoldable pub skipped : Way → ℕ
skipped w = second w.leaf (w.size / 2) (w.size / 2)

unfoldable pub next : Way → Way
next w = record { node = 2 * w.node + side w; leaf = w.leaf - skipped w; size = w.size / 2 }

pub record OnWay (d k : ℕ) (w : Way) : Type 0 where
  pub within : k ≤ d
  pub leaves : w.size ≡ 2 ^ (d - k)
  pub leaf : w.leaf < w.size
  pub node : w.node < 2 * 2 ^ k
