-- The laws of the way to a leaf.
--
-- side-le          0 or 1
-- skipped-le       at most half of the leaves
-- skipped-least    at most the leaf's number
-- level-less       one level less below the next node
-- on_way-root       the root is on the way
-- on_way-half       half of the leaves, below the next node
-- on_way-side, on_way-skipped   the turn there, by that half
-- on_way-twice      the leaves are two halves
-- on_way-next       the next node is on the way
-- on_way-node       node numbers of the next level are below 512
use Rattle.std.specs.Prelude.{◌≡◌, Bool, true, false, cond, ℕ, suc, ◌+◌, ◌-◌, ◌*◌, ◌/◌, ◌^◌, ◌≤◌, ◌<◌, ltb}
use Rattle.std.proofs.Math.Path.{ap}
use Rattle.std.proofs.Common.{◌∙◌, add-one, arith, lt-ltb, le-ltb, pow_mono}
use Rattle.std.proofs.Math.Nat.{two-pow-succ, pow-succ'}
use Rattle.std.proofs.Math.Decide.{dec_lt}
use Rattle.seedtree.specs.declared.nodes.Way.{Way}
use Rattle.seedtree.specs.Way.{second, root_way, side, skipped, next, OnWay}

second-le : (i half x : ℕ) → second i half x ≤ x
unfolding second
second-le i half x = go (ltb i half)
  where
    go : (t : Bool) → cond t 0 x ≤ x
    go true = omega arith
    go false = omega arith

second-rest : (i half : ℕ) → (second i half half ≤ i) × (i < half + half → i - second i half half < half)
unfolding second
second-rest i half = go (dec_lt i half)
  where
    go : Dec (i < half) → (cond (ltb i half) 0 half ≤ i) × (i < half + half → i - cond (ltb i half) 0 half < half)
    go (yes a) = rw (lt-ltb i half a) (omega arith, λ h. omega arith)
    go (no a) = rw (le-ltb i half (omega arith)) (omega arith, λ h. omega arith)

pub side-le : (w : Way) → side w ≤ 1
unfolding side
side-le w = second-le w.leaf (w.size / 2) 1

pub skipped-le : (w : Way) → skipped w ≤ w.size / 2
unfolding skipped
skipped-le w = second-le w.leaf (w.size / 2) (w.size / 2)

pub skipped-least : (w : Way) → skipped w ≤ w.leaf
unfolding skipped
skipped-least w = (second-rest w.leaf (w.size / 2)).0

-- ---- places on the way

pub level-less : (d k : ℕ) → k < d → d - k ≡ suc (d - (k + 1))
level-less d k h = omega arith

pub on_way-root : (d leaf : ℕ) → leaf < 2 ^ d → OnWay d 0 (root_way d leaf)
unfolding root_way
on_way-root d leaf h =
    let e : d ≡ d - 0 = omega arith in
    record { within = omega arith; leaves = ap (◌^◌ 2) e; leaf = h; node = omega arith }

module _ (d k : ℕ) (w : Way) (h : k < d) (on : OnWay d k w) where
  halves : w.size ≡ 2 ^ (d - (k + 1)) + 2 ^ (d - (k + 1))
  halves = on.leaves ∙ ap (◌^◌ 2) (level-less d k h) ∙ two-pow-succ (d - (k + 1))

  pub on_way-half : w.size / 2 ≡ 2 ^ (d - (k + 1))
  on_way-half = let e = halves in omega arith

  pub on_way-side : side w ≡ second w.leaf (2 ^ (d - (k + 1))) 1
  unfolding side
  on_way-side = ap (λ (n : ℕ). second w.leaf n 1) on_way-half

  pub on_way-skipped : skipped w ≡ second w.leaf (2 ^ (d - (k + 1))) (2 ^ (d - (k + 1)))
  unfolding skipped
  on_way-skipped = ap (λ (n : ℕ). second w.leaf n n) on_way-half

  pub on_way-twice : w.size ≡ w.size / 2 + w.size / 2
  on_way-twice = let e = halves in omega arith

  pub on_way-next : OnWay d (k + 1) (next w)
  unfolding next side skipped
  on_way-next =
      let double : 2 ^ (k + 1) ≡ 2 * 2 ^ k = ap (◌^◌ 2) (add-one k) ∙ pow-succ' 2 k in
      record {
        within = omega arith;
        leaves = on_way-half;
        leaf = (second-rest w.leaf (w.size / 2)).1 (omega (arith, on_way-twice, on.leaf));
        node = omega (arith, second-le w.leaf (w.size / 2) 1, on.node);
      }

  pub on_way-node : d ≤ 8 → 2 * w.node + 1 < 512
  on_way-node m =
      let most : 2 ^ k ≤ 128 = pow_mono {j = 7} (omega arith) in
      omega (arith, on.node)
