-- A level grown in place, from the last seed on: what the loop has come to when the children of seeds j to c − 1 stand.
--
-- growing c v d j    the buffer d then: behind byte 32j the children, before it the seeds as they were
-- growing-none       nothing is done at j = c
-- growing-more       one seed more: its own bytes are still there
-- growing-all        all is done at j = 0
use Rattle.std.specs.Prelude.{◌≡◌}
use Rattle.std.proofs.Math.Path.{sym, ap, ap₂}
use Rattle.std.proofs.Common.{◌∙◌, add-zero, take-append-drop, drop-drop}
use mathlib.Core.List.{List, ◌++◌}
use Prim.Native.Nat.{ℕ, suc, ◌+◌, ◌-◌, ◌*◌, ◌≤◌, ◌<◌}
use native.Mathlib.Omega.{arith}
use Rattle.std.proofs.Math.ListN.{length, take, drop}
use Rattle.lists.specs.Part.{part, put_at}
use Rattle.lists.specs.Part.Laws.{part-put_at-before}
use Rattle.exchange.specs.Tree.{children}
use Rattle.seedtree.specs.Writes.{put_at-front}
use Rattle.seedtree.specs.Levels.{grown}
use Rattle.seedtree.specs.Levels.Laws.{length-children, length-grown}

module _ (hash : List ℕ → ℕ → List ℕ) (prefix : List ℕ) where
  unfoldable pub growing : ℕ → ℕ → List ℕ → ℕ → List ℕ
  growing c v d j = put_at d (32 * j) (grown hash prefix (c - j) (v + j) (drop (16 * j) d))

  pub growing-none : (c v : ℕ) (d : List ℕ) → d ≡ growing c v d c
  unfolding growing grown put_at
  growing-none c v d =
      let e : 0 ≡ c - c = omega arith in
      sym (take-append-drop (32 * c) d)
      ∙ ap (λ (n : ℕ). take (32 * c) d ++ drop n d) (sym (add-zero (32 * c)))
      ∙ ap (λ (n : ℕ). put_at d (32 * c) (grown hash prefix n (v + c) (drop (16 * c) d))) e

  pub growing-all : (c v : ℕ) (d : List ℕ) → growing c v d 0 ≡ put_at d 0 (grown hash prefix c v d)
  unfolding growing
  growing-all c v d = let e : c - 0 ≡ c = omega arith in ap₂ (λ (n u : ℕ). put_at d 0 (grown hash prefix n u d)) e (add-zero v)

  module _ (hash-length : (s : List ℕ) (n : ℕ) → length (hash s n) ≡ n) where
    grown-suc : (c v j : ℕ) (d : List ℕ) → j < c
        → grown hash prefix (c - j) (v + j) (drop (16 * j) d)
        ≡ children hash prefix (v + j) (part d (16 * j) 16) ++ grown hash prefix (c - (j + 1)) (v + (j + 1)) (drop (16 * (j + 1)) d)
    unfolding grown part
    grown-suc c v j d h =
        let count : c - j ≡ suc (c - (j + 1)) = omega arith in
        let node : v + j + 1 ≡ v + (j + 1) = omega arith in
        let place : 16 * j + 16 ≡ 16 * (j + 1) = omega arith in
        ap (λ (n : ℕ). grown hash prefix n (v + j) (drop (16 * j) d)) count
        ∙ ap (◌++◌ (children hash prefix (v + j) (take 16 (drop (16 * j) d))))
        (ap₂ (grown hash prefix (c - (j + 1))) node (drop-drop 16 (16 * j) d ∙ ap (λ (n : ℕ). drop n d) place))

    pub growing-more : (c v j : ℕ) (d : List ℕ) → j < c → 32 * c ≤ length d
        → put_at (growing c v d (j + 1)) (32 * j) (children hash prefix (v + j) (part (growing c v d (j + 1)) (16 * j) 16)) ≡ growing c v d j
    unfolding growing
    growing-more c v j d h room =
        let a = children hash prefix (v + j) (part d (16 * j) 16) in
        let b = grown hash prefix (c - (j + 1)) (v + (j + 1)) (drop (16 * (j + 1)) d) in
        let la : length a ≡ 32 = length-children hash prefix hash-length (v + j) (part d (16 * j) 16) in
        let lb : length b ≡ 32 * (c - (j + 1)) = length-grown hash prefix hash-length (c - (j + 1)) (v + (j + 1)) (drop (16 * (j + 1)) d) in
        let place : 32 * (j + 1) ≡ 32 * j + length a = omega arith in
        ap (λ (s : List ℕ). put_at (put_at d (32 * (j + 1)) b) (32 * j) (children hash prefix (v + j) s))
        (part-put_at-before d (32 * (j + 1)) b (omega arith) (16 * j) 16 (omega arith))
        ∙ ap (λ (n : ℕ). put_at (put_at d n b) (32 * j) a) place
        ∙ put_at-front d (32 * j) a b (omega arith)
        ∙ ap (put_at d (32 * j)) (sym (grown-suc c v j d h))
