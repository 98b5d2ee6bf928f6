-- A tree grown level by level in one buffer: what the loop has come to i levels below the node whose seed was at the front.
--
-- reached v d i      the buffer d then: the seeds of the leaves i levels below node v, and d behind them
-- reached-none       the seed itself
-- reached-more       a level grown is one level more
-- reached-all        the buffer is full
-- node-room          the node numbers of eight levels below a node of the tree take two bytes
-- level-room         a level that is not the last leaves room for the next
use Rattle.std.specs.Prelude.{◌≡◌, take}
use Rattle.std.proofs.Math.Path.{sym, ap, ap₂}
use Rattle.std.proofs.Common.{◌∙◌, mul-suc, mul-le-mul, le_of_eq, add-one, arith, take-append-drop, drop_of_length-le, pow_mono, drop_at}
use mathlib.Core.List.{List, ◌++◌, append-nil}
use Prim.Native.Nat.{ℕ, suc, ◌+◌, ◌*◌, ◌^◌, ◌≤◌, ◌<◌}
use Rattle.std.proofs.Math.Nat.{two-pow-succ}
use Rattle.std.proofs.Math.ListN.{length, drop}
use Rattle.std.proofs.Math.Seq.{drop-drop, length-take-le}
use Rattle.lists.specs.Part.{put_at}
use Rattle.exchange.specs.Tree.{leaf_seeds}
use Rattle.seedtree.specs.Laid.{slot, laid}
use Rattle.seedtree.specs.Laid.Laws.{slot-seed}
use Rattle.seedtree.specs.Levels.{grown}
use Rattle.seedtree.specs.Levels.Laws.{length-grown, length-leaves, laid-level}

pub node-room : (i v : ℕ) → i < 8 → v < 512 → 2 ^ i * v + 2 ^ i ≤ 65536
node-room i v h k =
    let count : 2 ^ i ≤ 128 = pow_mono {j = 7} (omega arith) in
    let all : 2 ^ i * suc v ≤ 128 * 512 = mul-le-mul count k in
    omega (arith, mul-suc (2 ^ i) v)

pub level-room : (i l : ℕ) → i < l → 32 * 2 ^ i ≤ 16 * 2 ^ l
level-room i l h = omega (arith, two-pow-succ i, pow_mono {i = suc i} {j = l} h)

module _ (hash : List ℕ → ℕ → List ℕ) (prefix : List ℕ) where
  unfoldable pub reached : ℕ → List ℕ → ℕ → List ℕ
  reached v d i = laid (leaf_seeds hash prefix i v (take 16 d)) ++ drop (16 * 2 ^ i) d

  pub reached-none : (v : ℕ) (d : List ℕ) → 16 ≤ length d → d ≡ reached v d 0
  unfolding reached leaf_seeds laid
  reached-none v d h =
      sym (take-append-drop 16 d)
      ∙ ap (λ (s : List ℕ). s ++ drop 16 d) (sym (append-nil (slot (take 16 d)) ∙ slot-seed (take 16 d) (length-take-le 16 d h)))

  pub reached-all : (l v : ℕ) (d : List ℕ) → length d ≡ 16 * 2 ^ l → reached v d l ≡ laid (leaf_seeds hash prefix l v (take 16 d))
  unfolding reached
  reached-all l v d e =
      ap (◌++◌ (laid (leaf_seeds hash prefix l v (take 16 d)))) (drop_of_length-le d (le_of_eq e))
      ∙ append-nil (laid (leaf_seeds hash prefix l v (take 16 d)))

  module _ (hash-length : (s : List ℕ) (n : ℕ) → length (hash s n) ≡ n) where
    pub reached-more : (i v : ℕ) (d : List ℕ) → 16 ≤ length d
        → put_at (reached v d i) 0 (grown hash prefix (2 ^ i) (2 ^ i * v) (reached v d i)) ≡ reached v d (i + 1)
    unfolding reached put_at
    reached-more i v d h =
        let seed : length (take 16 d) ≡ 16 = length-take-le 16 d h in
        let here = laid (leaf_seeds hash prefix i v (take 16 d)) in
        let size : length here ≡ 16 * 2 ^ i = length-leaves hash prefix hash-length i v (take 16 d) seed in
        let rest = drop (16 * 2 ^ i) d in
        let next = grown hash prefix (2 ^ i) (2 ^ i * v) (here ++ rest) in
        let twice : 0 + length next ≡ 16 * 2 ^ i + 16 * 2 ^ i = omega (arith, length-grown hash prefix hash-length (2 ^ i) (2 ^ i * v) (here ++ rest)) in
        let double : 16 * 2 ^ i + 16 * 2 ^ i ≡ 16 * 2 ^ suc i = omega (arith, two-pow-succ i) in
        ap (λ (n : ℕ). next ++ drop n (here ++ rest)) twice
        ∙ ap₂ ◌++◌ (laid-level hash prefix hash-length i v (take 16 d) rest seed)
        (sym (drop-drop (16 * 2 ^ i) (16 * 2 ^ i) (here ++ rest)) ∙ ap (drop (16 * 2 ^ i)) (drop_at here rest (16 * 2 ^ i) size)
        ∙ drop-drop (16 * 2 ^ i) (16 * 2 ^ i) d ∙ ap (λ (n : ℕ). drop n d) double)
        ∙ ap (λ (n : ℕ). laid (leaf_seeds hash prefix n v (take 16 d)) ++ drop (16 * 2 ^ n) d) (sym (add-one i))
