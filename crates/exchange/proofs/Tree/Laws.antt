-- The laws of the seed tree. Of the hash only the length of what it gives is used.
--
-- length-leaf_seeds, length-opened_seeds   there are 2^l leaves l levels below a node
-- length-leaf_seed                        a leaf's seed has 16 bytes
-- length-sibling_seeds                    the sibling seeds have 16 bytes a level
-- opened-is                              the seeds of all leaves but one, from the sibling seeds, are those from the root
-- bytes-sibling_seeds                     they are bytes, where the hash gives bytes
use Rattle.std.specs.Prelude.{◌≡◌, Bool, cond, ltb, get_or, take, drop}
use Rattle.std.proofs.Math.Path.{refl}
use Rattle.std.proofs.Common.{sym, ap, ap₂, ◌∙◌, arith, lt-ltb, le-ltb, length-take, length-drop, get_or-append-add, take_at, drop_at}
use Rattle.std.proofs.Math.Bool.{true, false}
use mathlib.Core.List.{List, [], ◌∷◌, ◌++◌}
use Prim.Native.Nat.{ℕ, zero, suc, ◌+◌, ◌-◌, ◌*◌, ◌^◌, ◌≤◌, ◌<◌}
use Rattle.std.proofs.Math.Nat.{two-pow-succ}
use Rattle.std.proofs.Math.Decide.{dec_lt}
use Rattle.std.proofs.Math.ListN.{length, length-append, get_or-append}
use Rattle.polynomial.specs.Bytes.{Bytes}
use Rattle.polynomial.specs.Bytes.Laws.{bytes-append, bytes_take}
use Rattle.exchange.proofs.Sequences.Laws.{bytes_drop}
use Rattle.exchange.specs.Tree.{seeds_of, children, left_seed, right_seed, leaf_seeds, siblings, sibling_seeds, opened_seeds}

-- ---- two halves, looked into

module _ (a b : List (List ℕ)) (n k : ℕ) (size : length a ≡ n) where
  in_left : k < n → get_or (a ++ b) k [] ≡ get_or a k []
  in_left h = get_or-append a b [] k (omega arith)

  in_right : n ≤ k → get_or (a ++ b) k [] ≡ get_or b (k - n) []
  in_right h =
      let q : k ≡ length a + (k - n) = omega arith in
      ap (λ (z : ℕ). get_or (a ++ b) z []) q ∙ get_or-append-add a b (k - n) []

halves : (a b a' b' : List (List ℕ)) (n k : ℕ) → length a ≡ n → length a' ≡ n → (k < n → get_or a k [] ≡ get_or a' k [])
    → (n ≤ k → get_or b (k - n) [] ≡ get_or b' (k - n) []) → get_or (a ++ b) k [] ≡ get_or (a' ++ b') k []
halves a b a' b' n k e e' l r = go (dec_lt k n)
  where
    go : Dec (k < n) → get_or (a ++ b) k [] ≡ get_or (a' ++ b') k []
    go (yes h) = in_left a b n k e h ∙ l h ∙ sym (in_left a' b' n k e' h)
    go (no h) = in_right a b n k e (omega arith) ∙ r (omega arith) ∙ sym (in_right a' b' n k e' (omega arith))

two-halves : (a b : List (List ℕ)) (l : ℕ) → length a ≡ 2 ^ l → length b ≡ 2 ^ l → length (a ++ b) ≡ 2 ^ suc l
two-halves a b l e f = length-append a b ∙ ap₂ ◌+◌ e f ∙ sym (two-pow-succ l)

module _ (hash : List ℕ → ℕ → List ℕ) (prefix : List ℕ) where
  -- ---- how many leaves

  pub length-leaf_seeds : (l v : ℕ) (seed : List ℕ) → length (leaf_seeds hash prefix l v seed) ≡ 2 ^ l
  unfolding leaf_seeds
  length-leaf_seeds zero v seed = refl
  length-leaf_seeds (suc l) v seed =
      two-halves (leaf_seeds hash prefix l (2 * v) (left_seed hash prefix v seed)) (leaf_seeds hash prefix l (2 * v + 1) (right_seed hash prefix v seed)) l
      (length-leaf_seeds l (2 * v) (left_seed hash prefix v seed)) (length-leaf_seeds l (2 * v + 1) (right_seed hash prefix v seed))

  pub length-opened_seeds : (l v i : ℕ) (s : List ℕ) → length (opened_seeds hash prefix l v i s) ≡ 2 ^ l
  unfolding opened_seeds
  length-opened_seeds zero v i s = refl
  length-opened_seeds (suc l) v i s =
      go (ltb i (2 ^ l)) (length-opened_seeds l (2 * v) i (drop 16 s)) (length-opened_seeds l (2 * v + 1) (i - 2 ^ l) (drop 16 s))
    where
      whole : ℕ → List (List ℕ)
      whole v = leaf_seeds hash prefix l v (take 16 s)

      open-left : List (List ℕ)
      open-left = opened_seeds hash prefix l (2 * v) i (drop 16 s)

      open-right : List (List ℕ)
      open-right = opened_seeds hash prefix l (2 * v + 1) (i - 2 ^ l) (drop 16 s)

      go : (t : Bool) → length open-left ≡ 2 ^ l → length open-right ≡ 2 ^ l
          → length (cond t (open-left ++ whole (2 * v + 1)) (whole (2 * v) ++ open-right)) ≡ 2 ^ suc l
      go true a b = two-halves open-left (whole (2 * v + 1)) l a (length-leaf_seeds l (2 * v + 1) (take 16 s))
      go false a b = two-halves (whole (2 * v)) open-right l (length-leaf_seeds l (2 * v) (take 16 s)) b

  module _ (hash-length : (s : List ℕ) (n : ℕ) → length (hash s n) ≡ n) where
    -- ---- lengths of seeds

    length-children : (v : ℕ) (seed : List ℕ) → length (children hash prefix v seed) ≡ 32
    unfolding children
    length-children v seed = hash-length _ 32

    pub length-left_seed : (v : ℕ) (seed : List ℕ) → length (left_seed hash prefix v seed) ≡ 16
    length-left_seed v seed = let h = length-children v seed in simp length-take (omega arith)

    pub length-right_seed : (v : ℕ) (seed : List ℕ) → length (right_seed hash prefix v seed) ≡ 16
    length-right_seed v seed = let h = length-children v seed in simp length-drop (omega arith)

    pub length-leaf_seed : (l v : ℕ) (seed : List ℕ) → length seed ≡ 16 → (k : ℕ) → k < 2 ^ l
        → length (get_or (leaf_seeds hash prefix l v seed) k []) ≡ 16
    unfolding leaf_seeds
    length-leaf_seed zero v seed e zero h = e
    length-leaf_seed zero v seed e (suc k) h = absurd (omega arith)
    length-leaf_seed (suc l) v seed e k h =
        go (dec_lt k (2 ^ l)) (length-leaf_seed l (2 * v) (left_seed hash prefix v seed) (length-left_seed v seed) k)
        (length-leaf_seed l (2 * v + 1) (right_seed hash prefix v seed) (length-right_seed v seed) (k - 2 ^ l))
      where
        left : List (List ℕ)
        left = leaf_seeds hash prefix l (2 * v) (left_seed hash prefix v seed)

        right : List (List ℕ)
        right = leaf_seeds hash prefix l (2 * v + 1) (right_seed hash prefix v seed)

        go : Dec (k < 2 ^ l) → (k < 2 ^ l → length (get_or left k []) ≡ 16) → (k - 2 ^ l < 2 ^ l → length (get_or right (k - 2 ^ l) []) ≡ 16)
            → length (get_or (left ++ right) k []) ≡ 16
        go (yes a) ih jh = ap length (in_left left right (2 ^ l) k (length-leaf_seeds l (2 * v) (left_seed hash prefix v seed)) a) ∙ ih a
        go (no a) ih jh =
            let two : 2 ^ suc l ≡ 2 ^ l + 2 ^ l = two-pow-succ l in
            ap length (in_right left right (2 ^ l) k (length-leaf_seeds l (2 * v) (left_seed hash prefix v seed)) (omega arith)) ∙ jh (omega arith)

    pub length-sibling_seeds : (l v : ℕ) (seed : List ℕ) (i : ℕ) → length (sibling_seeds hash prefix l v seed i) ≡ 16 * l
    unfolding sibling_seeds siblings seeds_of
    length-sibling_seeds zero v seed i = refl
    length-sibling_seeds (suc l) v seed i =
        go (ltb i (2 ^ l)) (length-sibling_seeds l (2 * v) (left_seed hash prefix v seed) i)
        (length-sibling_seeds l (2 * v + 1) (right_seed hash prefix v seed) (i - 2 ^ l))
      where
        go : (t : Bool) → length (sibling_seeds hash prefix l (2 * v) (left_seed hash prefix v seed) i) ≡ 16 * l
            → length (sibling_seeds hash prefix l (2 * v + 1) (right_seed hash prefix v seed) (i - 2 ^ l)) ≡ 16 * l
            → length (seeds_of (cond t ((2 * v + 1, right_seed hash prefix v seed) ∷ siblings hash prefix l (2 * v) (left_seed hash prefix v seed) i)
            ((2 * v, left_seed hash prefix v seed) ∷ siblings hash prefix l (2 * v + 1) (right_seed hash prefix v seed) (i - 2 ^ l)))) ≡ 16 * suc l
        go true a b = let h = length-right_seed v seed in simp length-append (omega arith)
        go false a b = let h = length-left_seed v seed in simp length-append (omega arith)

    -- ---- all leaves but one

    pub opened-is : (l v : ℕ) (seed : List ℕ) (i k : ℕ) → k < 2 ^ l → i < 2 ^ l → (k ≡ i → ⊥)
        → get_or (opened_seeds hash prefix l v i (sibling_seeds hash prefix l v seed i)) k [] ≡ get_or (leaf_seeds hash prefix l v seed) k []
    unfolding opened_seeds sibling_seeds siblings seeds_of leaf_seeds
    opened-is zero v seed i k h hi n = absurd (n (omega arith))
    opened-is (suc l) v seed i k h hi n =
        go (dec_lt i (2 ^ l)) (λ a b. opened-is l (2 * v) left i k a b n) (opened-is l (2 * v + 1) right (i - 2 ^ l) (k - 2 ^ l))
      where
        left : List ℕ
        left = left_seed hash prefix v seed

        right : List ℕ
        right = right_seed hash prefix v seed

        on-left : List ℕ
        on-left = sibling_seeds hash prefix l (2 * v) left i

        on-right : List ℕ
        on-right = sibling_seeds hash prefix l (2 * v + 1) right (i - 2 ^ l)

        below : ℕ → List ℕ → List (List ℕ)
        below v seed = leaf_seeds hash prefix l v seed

        two : 2 ^ suc l ≡ 2 ^ l + 2 ^ l
        two = two-pow-succ l

        go : Dec (i < 2 ^ l)
            → (k < 2 ^ l → i < 2 ^ l → get_or (opened_seeds hash prefix l (2 * v) i on-left) k [] ≡ get_or (below (2 * v) left) k [])
            → (k - 2 ^ l < 2 ^ l → i - 2 ^ l < 2 ^ l → (k - 2 ^ l ≡ i - 2 ^ l → ⊥)
            → get_or (opened_seeds hash prefix l (2 * v + 1) (i - 2 ^ l) on-right) (k - 2 ^ l) []
            ≡ get_or (below (2 * v + 1) right) (k - 2 ^ l) [])
            → get_or (opened_seeds hash prefix (suc l) v i (sibling_seeds hash prefix (suc l) v seed i)) k []
            ≡ get_or (below (2 * v) left ++ below (2 * v + 1) right) k []
        go (yes a) ih jh =
            rw (lt-ltb i (2 ^ l) a, take_at right on-left 16 (length-right_seed v seed), drop_at right on-left 16 (length-right_seed v seed))
            (halves (opened_seeds hash prefix l (2 * v) i on-left) (below (2 * v + 1) right) (below (2 * v) left) (below (2 * v + 1) right) (2 ^ l) k
            (length-opened_seeds l (2 * v) i on-left) (length-leaf_seeds l (2 * v) left) (λ b. ih b a) (λ b. refl))
        go (no a) ih jh =
            rw (le-ltb i (2 ^ l) (omega arith), take_at left on-right 16 (length-left_seed v seed), drop_at left on-right 16 (length-left_seed v seed))
            (halves (below (2 * v) left) (opened_seeds hash prefix l (2 * v + 1) (i - 2 ^ l) on-right) (below (2 * v) left) (below (2 * v + 1) right) (2 ^ l) k
            (length-leaf_seeds l (2 * v) left) (length-leaf_seeds l (2 * v) left) (λ b. refl)
            (λ b. jh (omega (arith, two)) (omega (arith, two)) (λ z. n (omega arith))))

  -- ---- bytes

  pub bytes-sibling_seeds : ((s : List ℕ) (n : ℕ) → Bytes (hash s n)) → (l v : ℕ) (seed : List ℕ) (i : ℕ) → Bytes (sibling_seeds hash prefix l v seed i)
  unfolding sibling_seeds siblings seeds_of children
  bytes-sibling_seeds h zero v seed i = tt
  bytes-sibling_seeds h (suc l) v seed i =
      go (ltb i (2 ^ l)) (bytes-sibling_seeds h l (2 * v) (left_seed hash prefix v seed) i)
      (bytes-sibling_seeds h l (2 * v + 1) (right_seed hash prefix v seed) (i - 2 ^ l))
    where
      go : (t : Bool) → Bytes (sibling_seeds hash prefix l (2 * v) (left_seed hash prefix v seed) i)
          → Bytes (sibling_seeds hash prefix l (2 * v + 1) (right_seed hash prefix v seed) (i - 2 ^ l))
          → Bytes (seeds_of (cond t ((2 * v + 1, right_seed hash prefix v seed) ∷ siblings hash prefix l (2 * v) (left_seed hash prefix v seed) i)
          ((2 * v, left_seed hash prefix v seed) ∷ siblings hash prefix l (2 * v + 1) (right_seed hash prefix v seed) (i - 2 ^ l))))
      go true a b = bytes-append (right_seed hash prefix v seed) _ (bytes_drop 16 (children hash prefix v seed) (h _ 32)) a
      go false a b = bytes-append (left_seed hash prefix v seed) _ (bytes_take 16 (children hash prefix v seed) (h _ 32)) b
