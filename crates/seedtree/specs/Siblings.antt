-- The sibling seeds of a leaf and its own seed, level by level. Of the hash only the length of what it gives is used.
--
-- sibling_seeds-step   one level: the sibling is the other half of the children, the way goes on in the leaf's own half
-- siblings-none       before the first level
-- siblings-more       `out` holds the sibling seeds of k levels, and those that are still to come make up the whole: one level more
-- siblings-all        after the last level
-- leaf_seed-step       one level: the leaf's seed is one of those below its own half of the children
-- leaf_seed-none, leaf_seed-more, leaf_seed-all   before the first level, one level more, and after the last one: the seed of the node that was come to
use Rattle.std.specs.Prelude.{◌≡◌, Bool, true, false, cond, ltb, drop}
use Rattle.std.proofs.Math.Path.{sym, ap, ap₂}
use Rattle.std.proofs.Common.{◌∙◌, add-zero, lt-ltb, le-ltb, take_all}
use mathlib.Core.List.{List, [], ◌∷◌, ◌++◌, append_assoc, append-nil}
use Prim.Native.Nat.{ℕ, suc, ◌+◌, ◌-◌, ◌*◌, ◌^◌, ◌≤◌, ◌<◌}
use Rattle.std.proofs.Math.Decide.{dec_lt}
use native.Mathlib.Omega.{arith}
use Rattle.std.proofs.Math.ListN.{length, get_or, take, length-drop}
use Rattle.lists.specs.Part.{part, put_at}
use Rattle.lists.specs.Part.Laws.{length_part}
use Rattle.exchange.specs.Strings.{string1}
use Rattle.exchange.specs.Tree.{seeds_of, children, left_seed, right_seed, leaf_seeds, siblings, sibling_seeds}
use Rattle.exchange.proofs.Tree.Laws.{length-leaf_seeds}
use Rattle.seedtree.specs.Writes.{take-put_at-end}
use Rattle.seedtree.specs.Levels.Laws.{in-first, in-second, length-children}
use Rattle.seedtree.specs.declared.nodes.Way.{Way}
use Rattle.seedtree.specs.Way.{second, root_way, side, skipped, next, OnWay}
use Rattle.seedtree.specs.Way.Laws.{level-less, on_way-side, on_way-skipped}

module _ (hash : List ℕ → ℕ → List ℕ) (prefix : List ℕ) where
  module _ (hash-length : (s : List ℕ) (n : ℕ) → length (hash s n) ≡ n) where
    right-part : (v : ℕ) (seed : List ℕ) → right_seed hash prefix v seed ≡ part (children hash prefix v seed) 16 16
    unfolding part children
    right-part v seed =
        let e = hash-length (string1 prefix v seed) 32 in
        let short : length (drop 16 (hash (string1 prefix v seed) 32)) ≤ 16 = simp length-drop (omega arith) in
        sym (take_all 16 (drop 16 (hash (string1 prefix v seed) 32)) short)

    pub sibling_seeds-step : (l v : ℕ) (seed : List ℕ) (i : ℕ)
        → sibling_seeds hash prefix (suc l) v seed i
        ≡ part (children hash prefix v seed) (16 - 16 * second i (2 ^ l) 1) 16
        ++ sibling_seeds hash prefix l (2 * v + second i (2 ^ l) 1) (part (children hash prefix v seed) (16 * second i (2 ^ l) 1) 16) (i - second i (2 ^ l) (2 ^ l))
    unfolding second sibling_seeds siblings seeds_of part
    sibling_seeds-step l v seed i = go (ltb i (2 ^ l))
      where
        both : List ℕ
        both = children hash prefix v seed

        on : ℕ → List ℕ → ℕ → List ℕ
        on v s i = seeds_of (siblings hash prefix l v s i)

        go : (t : Bool)
            → seeds_of (cond t ((2 * v + 1, right_seed hash prefix v seed) ∷ siblings hash prefix l (2 * v) (left_seed hash prefix v seed) i)
            ((2 * v, left_seed hash prefix v seed) ∷ siblings hash prefix l (2 * v + 1) (right_seed hash prefix v seed) (i - 2 ^ l)))
            ≡ part both (16 - 16 * cond t 0 1) 16 ++ on (2 * v + cond t 0 1) (part both (16 * cond t 0 1) 16) (i - cond t 0 (2 ^ l))
        go true =
            let e : i ≡ i - 0 = omega arith in
            ap₂ ◌++◌ (right-part v seed) (ap₂ (λ (u j : ℕ). on u (left_seed hash prefix v seed) j) (sym (add-zero (2 * v))) e)
        go false = ap (λ (s : List ℕ). left_seed hash prefix v seed ++ on (2 * v + 1) s (i - 2 ^ l)) (right-part v seed)

    pub siblings-more : (d k : ℕ) (w : Way) (seed out both : List ℕ) → k < d → OnWay d k w → 16 * (k + 1) ≤ length out → both ≡ children hash prefix w.node seed
        → take (16 * k) out ++ sibling_seeds hash prefix (d - k) w.node seed w.leaf
        ≡ take (16 * (k + 1)) (put_at out (16 * k) (part both (16 - 16 * side w) 16))
        ++ sibling_seeds hash prefix (d - (k + 1)) (next w).node (part both (16 * side w) 16) (next w).leaf
    unfolding next
    siblings-more d k w seed out both h on room both_is =
        ap (◌++◌ (take (16 * k) out)) step
        ∙ sym (append_assoc (take (16 * k) out) sibling rest)
        ∙ ap (λ (s : List ℕ). s ++ rest) (sym (take-put_at-end out (16 * k) sibling (omega (arith, sibling-length))) ∙ ap (λ (n : ℕ). take n (put_at out (16 * k) sibling)) behind)
      where
        l : ℕ
        l = d - (k + 1)

        sibling : List ℕ
        sibling = part both (16 - 16 * side w) 16

        rest : List ℕ
        rest = sibling_seeds hash prefix l (2 * w.node + side w) (part both (16 * side w) 16) (w.leaf - skipped w)

        at_side : side w ≡ second w.leaf (2 ^ l) 1
        at_side = on_way-side d k w h on

        at-skipped : skipped w ≡ second w.leaf (2 ^ l) (2 ^ l)
        at-skipped = on_way-skipped d k w h on

        step : sibling_seeds hash prefix (d - k) w.node seed w.leaf ≡ sibling ++ rest
        step =
            ap (λ (n : ℕ). sibling_seeds hash prefix n w.node seed w.leaf) (level-less d k h) ∙ sibling_seeds-step l w.node seed w.leaf
            ∙ sym (λ t. part (both_is t) (16 - 16 * at_side t) 16
            ++ sibling_seeds hash prefix l (2 * w.node + at_side t) (part (both_is t) (16 * at_side t) 16) (w.leaf - at-skipped t))

        sibling-length : length sibling ≡ 16
        sibling-length =
            let size : length both ≡ 32 = ap length both_is ∙ length-children hash prefix hash-length w.node seed in
            length_part both (16 - 16 * side w) 16 (omega arith)

        behind : 16 * k + length sibling ≡ 16 * (k + 1)
        behind = omega (arith, sibling-length)

    pub siblings-none : (d : ℕ) (root : List ℕ) (leaf : ℕ) (out pair : List ℕ) (w : Way) → w ≡ root_way d leaf → part pair 0 16 ≡ root
        → sibling_seeds hash prefix d 1 root leaf ≡ take (16 * 0) out ++ sibling_seeds hash prefix (d - 0) w.node (part pair 0 16) w.leaf
    unfolding root_way
    siblings-none d root leaf out pair w is e =
        let all : d - 0 ≡ d = omega arith in
        sym (λ t. sibling_seeds hash prefix (all t) (is t).node (e t) (is t).leaf)

    pub siblings-all : (d k v : ℕ) (seed : List ℕ) (i : ℕ) (out : List ℕ) → k ≡ d → length out ≡ 16 * d
        → take (16 * k) out ++ sibling_seeds hash prefix (d - k) v seed i ≡ out
    unfolding sibling_seeds siblings seeds_of
    siblings-all d k v seed i out e size =
        let none : d - k ≡ 0 = omega arith in
        let whole : length out ≤ 16 * k = omega arith in
        ap₂ (λ (s : List ℕ) (n : ℕ). s ++ sibling_seeds hash prefix n v seed i) (take_all (16 * k) out whole) none ∙ append-nil out

    -- ---- the leaf's own seed

    pub leaf_seed-step : (l v : ℕ) (seed : List ℕ) (i : ℕ)
        → get_or (leaf_seeds hash prefix (suc l) v seed) i []
        ≡ get_or (leaf_seeds hash prefix l (2 * v + second i (2 ^ l) 1) (part (children hash prefix v seed) (16 * second i (2 ^ l) 1) 16)) (i - second i (2 ^ l) (2 ^ l)) []
    unfolding second leaf_seeds part
    leaf_seed-step l v seed i = go (dec_lt i (2 ^ l))
      where
        first : List (List ℕ)
        first = leaf_seeds hash prefix l (2 * v) (left_seed hash prefix v seed)

        last : List (List ℕ)
        last = leaf_seeds hash prefix l (2 * v + 1) (right_seed hash prefix v seed)

        many : length first ≡ 2 ^ l
        many = length-leaf_seeds hash prefix l (2 * v) (left_seed hash prefix v seed)

        below : ℕ → List ℕ → ℕ → List ℕ
        below v s i = get_or (leaf_seeds hash prefix l v s) i []

        go : Dec (i < 2 ^ l) → get_or (first ++ last) i []
            ≡ below (2 * v + cond (ltb i (2 ^ l)) 0 1) (part (children hash prefix v seed) (16 * cond (ltb i (2 ^ l)) 0 1) 16) (i - cond (ltb i (2 ^ l)) 0 (2 ^ l))
        go (yes h) =
            let e : i ≡ i - 0 = omega arith in
            rw (lt-ltb i (2 ^ l) h)
            (in-first first last (2 ^ l) i many h ∙ ap₂ (λ (u j : ℕ). below u (left_seed hash prefix v seed) j) (sym (add-zero (2 * v))) e)
        go (no h) =
            rw (le-ltb i (2 ^ l) (omega arith))
            (in-second first last (2 ^ l) i many (omega arith) ∙ ap (λ (s : List ℕ). below (2 * v + 1) s (i - 2 ^ l)) (right-part v seed))

    pub leaf_seed-none : (d : ℕ) (root : List ℕ) (leaf : ℕ) (pair : List ℕ) (w : Way) → w ≡ root_way d leaf → part pair 0 16 ≡ root
        → get_or (leaf_seeds hash prefix d 1 root) leaf [] ≡ get_or (leaf_seeds hash prefix (d - 0) w.node (part pair 0 16)) w.leaf []
    unfolding root_way
    leaf_seed-none d root leaf pair w is e =
        let all : d - 0 ≡ d = omega arith in
        sym (λ t. get_or (leaf_seeds hash prefix (all t) (is t).node (e t)) (is t).leaf [])

    pub leaf_seed-more : (d k : ℕ) (w : Way) (seed both : List ℕ) → k < d → OnWay d k w → both ≡ children hash prefix w.node seed
        → get_or (leaf_seeds hash prefix (d - k) w.node seed) w.leaf []
        ≡ get_or (leaf_seeds hash prefix (d - (k + 1)) (next w).node (part both (16 * side w) 16)) (next w).leaf []
    unfolding next
    leaf_seed-more d k w seed both h on both_is =
        let at_side = on_way-side d k w h on in
        let at-skipped = on_way-skipped d k w h on in
        ap (λ (n : ℕ). get_or (leaf_seeds hash prefix n w.node seed) w.leaf []) (level-less d k h)
        ∙ leaf_seed-step (d - (k + 1)) w.node seed w.leaf
        ∙ sym (λ t. get_or (leaf_seeds hash prefix (d - (k + 1)) (2 * w.node + at_side t) (part (both_is t) (16 * at_side t) 16)) (w.leaf - at-skipped t) [])

    pub leaf_seed-all : (d k : ℕ) (w : Way) (seed : List ℕ) → k ≡ d → OnWay d k w → get_or (leaf_seeds hash prefix (d - k) w.node seed) w.leaf [] ≡ seed
    unfolding leaf_seeds
    leaf_seed-all d k w seed e on =
        let none : d - k ≡ 0 = omega arith in
        let one : 2 ^ (d - k) ≡ 1 = ap (◌^◌ 2) none in
        let first : w.leaf ≡ 0 = omega (arith, one, on.leaves, on.leaf) in
        ap₂ (λ (n i : ℕ). get_or (leaf_seeds hash prefix n w.node seed) i []) none first
