-- The laws of the levels. Of the hash only the length of what it gives is used.
--
-- in-first, in-second a leaf of the first, and of the second of two lists of seeds
-- descended-append    joined lists of seeds
-- leaf_seeds-level     the leaves one level further down are the children of the leaves, in order
-- length-children     32 bytes
-- full-leaf_seeds      each leaf's seed has sixteen bytes
-- length-grown        32 bytes for each seed
-- grown-laid          a level in bytes
-- length-leaves       sixteen bytes a leaf in the buffer
-- laid-level          the buffer, from a level to the next
-- leaf_seeds-part      the place of leaf k in the buffer
use Rattle.std.specs.Prelude.{◌≡◌, get_or, take, drop}
use Rattle.std.proofs.Math.Path.{refl, sym, ap, ap₂}
use Rattle.std.proofs.Common.{◌∙◌, add-zero, one-mul, pow-suc, mul_assoc, mul-add, mul-one, take-append-drop, take_at, drop_at, get_or-append-add}
use mathlib.Core.List.{List, [], ◌∷◌, ◌++◌, append_assoc}
use Prim.Native.Nat.{ℕ, zero, suc, ◌+◌, ◌-◌, ◌*◌, ◌^◌, ◌≤◌, ◌<◌}
use native.Mathlib.Omega.{arith}
use Rattle.std.proofs.Math.ListN.{length, length-append, get_or-append}
use Rattle.algebra.specs.Each.Laws.{each_from, each_at}
use Rattle.lists.specs.Part.{part}
use Rattle.exchange.specs.Tree.{children, left_seed, right_seed, leaf_seeds}
use Rattle.exchange.proofs.Tree.Laws.{length-leaf_seeds, length-left_seed, length-right_seed, length-leaf_seed}
use Rattle.seedtree.specs.Laid.{slot, laid, Full}
use Rattle.seedtree.specs.Laid.Laws.{slot-seed, full-slotted, length-laid, part-laid}
use Rattle.seedtree.specs.Levels.{descended, grown}

module _ (a b : List (List ℕ)) (n k : ℕ) (size : length a ≡ n) where
  pub in-first : k < n → get_or (a ++ b) k [] ≡ get_or a k []
  in-first h = get_or-append a b [] k (omega arith)

  pub in-second : n ≤ k → get_or (a ++ b) k [] ≡ get_or b (k - n) []
  in-second h =
      let q : k ≡ length a + (k - n) = omega arith in
      ap (λ (z : ℕ). get_or (a ++ b) z []) q ∙ get_or-append-add a b (k - n) []

module _ (hash : List ℕ → ℕ → List ℕ) (prefix : List ℕ) where
  pub descended-append : (v : ℕ) (a b : List (List ℕ))
      → descended hash prefix v (a ++ b) ≡ descended hash prefix v a ++ descended hash prefix (v + length a) b
  unfolding descended
  descended-append v [] b = ap (λ (n : ℕ). descended hash prefix n b) (sym (add-zero v))
  descended-append v (s ∷ a) b =
      let e : v + 1 + length a ≡ v + suc (length a) = omega arith in
      ap (λ (l : List (List ℕ)). left_seed hash prefix v s ∷ (right_seed hash prefix v s ∷ l))
      (descended-append (v + 1) a b ∙ ap (λ (n : ℕ). descended hash prefix (v + 1) a ++ descended hash prefix n b) e)

  pub leaf_seeds-level : (l v : ℕ) (seed : List ℕ) → leaf_seeds hash prefix (suc l) v seed ≡ descended hash prefix (2 ^ l * v) (leaf_seeds hash prefix l v seed)
  unfolding leaf_seeds descended
  leaf_seeds-level zero v seed = ap (λ (n : ℕ). left_seed hash prefix n seed ∷ (right_seed hash prefix n seed ∷ [])) (sym (one-mul v))
  leaf_seeds-level (suc l) v seed =
      ap₂ ◌++◌ (leaf_seeds-level l (2 * v) left ∙ ap (λ (n : ℕ). descended hash prefix n a) first)
      (leaf_seeds-level l (2 * v + 1) right ∙ ap (λ (n : ℕ). descended hash prefix n b) second)
      ∙ sym (descended-append (2 ^ suc l * v) a b)
    where
      left : List ℕ
      left = left_seed hash prefix v seed

      right : List ℕ
      right = right_seed hash prefix v seed

      a : List (List ℕ)
      a = leaf_seeds hash prefix l (2 * v) left

      b : List (List ℕ)
      b = leaf_seeds hash prefix l (2 * v + 1) right

      first : 2 ^ l * (2 * v) ≡ 2 ^ suc l * v
      first = sym (mul_assoc (2 ^ l) 2 v) ∙ ap (λ (n : ℕ). n * v) (sym (pow-suc 2 l))

      second : 2 ^ l * (2 * v + 1) ≡ 2 ^ suc l * v + length a
      second = mul-add (2 ^ l) (2 * v) 1 ∙ ap (◌+◌ (2 ^ l * (2 * v))) (mul-one (2 ^ l)) ∙ ap₂ ◌+◌ first (sym (length-leaf_seeds hash prefix l (2 * v) left))

  module _ (hash-length : (s : List ℕ) (n : ℕ) → length (hash s n) ≡ n) where
    pub length-children : (v : ℕ) (seed : List ℕ) → length (children hash prefix v seed) ≡ 32
    unfolding children
    length-children v seed = hash-length _ 32

    pub full-leaf_seeds : (l v : ℕ) (seed : List ℕ) → length seed ≡ 16 → Full (leaf_seeds hash prefix l v seed)
    full-leaf_seeds l v seed e =
        each_from (λ s. length s ≡ 16) [] (leaf_seeds hash prefix l v seed)
        (λ k h. length-leaf_seed hash prefix hash-length l v seed e k (omega (arith, length-leaf_seeds hash prefix l v seed)))

    pub length-grown : (c v : ℕ) (d : List ℕ) → length (grown hash prefix c v d) ≡ 32 * c
    unfolding grown
    length-grown zero v d = refl
    length-grown (suc c) v d =
        length-append (children hash prefix v (take 16 d)) (grown hash prefix c (v + 1) (drop 16 d))
        ∙ ap₂ ◌+◌ (length-children v (take 16 d)) (length-grown c (v + 1) (drop 16 d)) ∙ omega arith

    laid-pair : (v : ℕ) (s rest : List ℕ) → slot (left_seed hash prefix v s) ++ (slot (right_seed hash prefix v s) ++ rest) ≡ children hash prefix v s ++ rest
    laid-pair v s rest =
        ap₂ (λ (a b : List ℕ). a ++ (b ++ rest)) (slot-seed (left_seed hash prefix v s) (length-left_seed hash prefix hash-length v s)) (slot-seed (right_seed hash prefix v s) (length-right_seed hash prefix hash-length v s))
        ∙ sym (append_assoc (left_seed hash prefix v s) (right_seed hash prefix v s) rest)
        ∙ ap (λ (l : List ℕ). l ++ rest) (take-append-drop 16 (children hash prefix v s))

    pub grown-laid : (v : ℕ) (ss : List (List ℕ)) (rest : List ℕ) → Full ss → grown hash prefix (length ss) v (laid ss ++ rest) ≡ laid (descended hash prefix v ss)
    unfolding grown laid descended
    grown-laid v [] rest h = refl
    grown-laid v (s ∷ ss) rest h =
        let place : slot s ≡ s = slot-seed s h.0 in
        let front : (slot s ++ laid ss) ++ rest ≡ s ++ (laid ss ++ rest) = append_assoc (slot s) (laid ss) rest ∙ ap (λ (l : List ℕ). l ++ (laid ss ++ rest)) place in
        ap (λ (d : List ℕ). children hash prefix v (take 16 d) ++ grown hash prefix (length ss) (v + 1) (drop 16 d)) front
        ∙ ap₂ (λ (a b : List ℕ). children hash prefix v a ++ grown hash prefix (length ss) (v + 1) b)
        (take_at s (laid ss ++ rest) 16 h.0) (drop_at s (laid ss ++ rest) 16 h.0)
        ∙ ap (◌++◌ (children hash prefix v s)) (grown-laid (v + 1) ss rest h.1)
        ∙ sym (laid-pair v s (laid (descended hash prefix (v + 1) ss)))

    pub length-leaves : (l v : ℕ) (seed : List ℕ) → length seed ≡ 16 → length (laid (leaf_seeds hash prefix l v seed)) ≡ 16 * 2 ^ l
    length-leaves l v seed e =
        length-laid (leaf_seeds hash prefix l v seed) (full-slotted (leaf_seeds hash prefix l v seed) (full-leaf_seeds l v seed e))
        ∙ ap (◌*◌ 16) (length-leaf_seeds hash prefix l v seed)

    pub laid-level : (l v : ℕ) (seed rest : List ℕ) → length seed ≡ 16
        → grown hash prefix (2 ^ l) (2 ^ l * v) (laid (leaf_seeds hash prefix l v seed) ++ rest) ≡ laid (leaf_seeds hash prefix (suc l) v seed)
    laid-level l v seed rest e =
        let ss = leaf_seeds hash prefix l v seed in
        ap (λ (n : ℕ). grown hash prefix n (2 ^ l * v) (laid ss ++ rest)) (sym (length-leaf_seeds hash prefix l v seed))
        ∙ grown-laid (2 ^ l * v) ss rest (full-leaf_seeds l v seed e)
        ∙ ap laid (sym (leaf_seeds-level l v seed))

    pub leaf_seeds-part : (l v : ℕ) (seed : List ℕ) → length seed ≡ 16 → (k : ℕ) → k < 2 ^ l
        → part (laid (leaf_seeds hash prefix l v seed)) (16 * k) 16 ≡ get_or (leaf_seeds hash prefix l v seed) k []
    leaf_seeds-part l v seed e k h =
        let ss = leaf_seeds hash prefix l v seed in
        let in-range : k < length ss = omega (arith, length-leaf_seeds hash prefix l v seed) in
        part-laid ss (full-slotted ss (full-leaf_seeds l v seed e)) k in-range
        ∙ slot-seed (get_or ss k []) (each_at (λ s. length s ≡ 16) [] ss (full-leaf_seeds l v seed e) k in-range)
