-- All leaf seeds but one from the sibling seeds, level by level. Of the hash only the length of what it gives is used.
--
-- slotted-opened_seeds   each seed has sixteen bytes, or none: the hidden leaf's
-- length-opened         sixteen bytes a leaf in the buffer
-- opened_seeds-part      the place of leaf k in the buffer, where it is not the hidden one
-- opened-step           one level in the buffer d: the leaves below the sibling are written beside the way
-- opened-none           before the first level nothing of the buffer d is kept
-- opened-more           the seeds below the siblings of k levels stand around the way's leaves: one level more
-- opened-all            after the last level the hidden leaf's place is zeros
use Rattle.std.specs.Prelude.{◌≡◌, refl, Bool, true, false, cond, List, [], ◌++◌, ltb, length, get_or, take, drop, replicate}
use Rattle.std.proofs.Math.Path.{sym, ap}
use Rattle.std.proofs.Common.{◌∙◌, add-zero, lt-ltb, le-ltb, length-take, length-drop, drop-drop}
use Prim.Native.Nat.{ℕ, zero, suc, ◌+◌, ◌-◌, ◌*◌, ◌/◌, ◌^◌, ◌≤◌, ◌<◌}
use Rattle.std.proofs.Math.Nat.{two-pow-succ}
use Rattle.std.proofs.Math.Decide.{dec_lt}
use native.Mathlib.Omega.{arith}
use Rattle.lists.specs.Part.{part, put_at}
use Rattle.lists.specs.Part.Laws.{put_at-whole}
use Rattle.exchange.specs.Tree.{leaf_seeds, opened_seeds}
use Rattle.exchange.proofs.Tree.Laws.{length-leaf_seeds, length-leaf_seed, length-opened_seeds}
use Rattle.seedtree.specs.Writes.{put_at-front, put_at-behind}
use Rattle.seedtree.specs.Laid.{slot, laid, Slotted}
use Rattle.seedtree.specs.Laid.Laws.{slot-seed, part-laid, full-slotted, each_append, laid-append, length-laid}
use Rattle.seedtree.specs.Levels.Laws.{in-first, in-second, full-leaf_seeds, length-leaves}
use Rattle.seedtree.specs.declared.nodes.Way.{Way}
use Rattle.seedtree.specs.Way.{second, root_way, side, skipped, next, OnWay}
use Rattle.seedtree.specs.Way.Laws.{level-less, on_way-half, on_way-side, on_way-skipped}

-- ---- the first sibling seed and the others

one-length : (l : ℕ) (s : List ℕ) → length s ≡ 16 * suc l → length (take 16 s) ≡ 16
one-length l s e = simp length-take (omega arith)

rest-length : (l : ℕ) (s : List ℕ) → length s ≡ 16 * suc l → length (drop 16 s) ≡ 16 * l
rest-length l s e = simp length-drop (omega arith)

module _ (hash : List ℕ → ℕ → List ℕ) (prefix : List ℕ) where
  module _ (hash-length : (s : List ℕ) (n : ℕ) → length (hash s n) ≡ n) where
    pub slotted-opened_seeds : (l v i : ℕ) (s : List ℕ) → length s ≡ 16 * l → Slotted (opened_seeds hash prefix l v i s)
    unfolding opened_seeds slot
    slotted-opened_seeds zero v i s e = (refl, tt)
    slotted-opened_seeds (suc l) v i s e =
        go (ltb i (2 ^ l)) (slotted-opened_seeds l (2 * v) i (drop 16 s) (rest-length l s e)) (slotted-opened_seeds l (2 * v + 1) (i - 2 ^ l) (drop 16 s) (rest-length l s e))
      where
        whole : (v : ℕ) → Slotted (leaf_seeds hash prefix l v (take 16 s))
        whole v = full-slotted (leaf_seeds hash prefix l v (take 16 s)) (full-leaf_seeds hash prefix hash-length l v (take 16 s) (one-length l s e))

        go : (t : Bool) → Slotted (opened_seeds hash prefix l (2 * v) i (drop 16 s)) → Slotted (opened_seeds hash prefix l (2 * v + 1) (i - 2 ^ l) (drop 16 s))
            → Slotted (cond t (opened_seeds hash prefix l (2 * v) i (drop 16 s) ++ leaf_seeds hash prefix l (2 * v + 1) (take 16 s))
            (leaf_seeds hash prefix l (2 * v) (take 16 s) ++ opened_seeds hash prefix l (2 * v + 1) (i - 2 ^ l) (drop 16 s)))
        go true a b = each_append (λ s. length (slot s) ≡ 16) (opened_seeds hash prefix l (2 * v) i (drop 16 s)) (leaf_seeds hash prefix l (2 * v + 1) (take 16 s)) a (whole (2 * v + 1))
        go false a b = each_append (λ s. length (slot s) ≡ 16) (leaf_seeds hash prefix l (2 * v) (take 16 s)) (opened_seeds hash prefix l (2 * v + 1) (i - 2 ^ l) (drop 16 s)) (whole (2 * v)) b

    pub length-opened : (l v i : ℕ) (s : List ℕ) → length s ≡ 16 * l → length (laid (opened_seeds hash prefix l v i s)) ≡ 16 * 2 ^ l
    length-opened l v i s e =
        length-laid (opened_seeds hash prefix l v i s) (slotted-opened_seeds l v i s e) ∙ ap (◌*◌ 16) (length-opened_seeds hash prefix l v i s)

    -- the seed of each leaf but the hidden one has sixteen bytes
    length-opened_seed : (l v i k : ℕ) (s : List ℕ) → length s ≡ 16 * l → i < 2 ^ l → k < 2 ^ l → (k ≡ i → ⊥)
        → length (get_or (opened_seeds hash prefix l v i s) k []) ≡ 16
    unfolding opened_seeds
    length-opened_seed zero v i k s e hi hk differ = absurd (differ (omega arith))
    length-opened_seed (suc l) v i k s e hi hk differ =
        go (dec_lt i (2 ^ l)) (dec_lt k (2 ^ l)) (λ a b. length-opened_seed l (2 * v) i k (drop 16 s) (rest-length l s e) a b differ)
        (length-opened_seed l (2 * v + 1) (i - 2 ^ l) (k - 2 ^ l) (drop 16 s) (rest-length l s e))
      where
        two : 2 ^ suc l ≡ 2 ^ l + 2 ^ l
        two = two-pow-succ l

        way : ℕ → ℕ → List (List ℕ)
        way v i = opened_seeds hash prefix l v i (drop 16 s)

        whole : ℕ → List (List ℕ)
        whole v = leaf_seeds hash prefix l v (take 16 s)

        whole_length : (v k : ℕ) → k < 2 ^ l → length (get_or (whole v) k []) ≡ 16
        whole_length v k h = length-leaf_seed hash prefix hash-length l v (take 16 s) (one-length l s e) k h

        go : Dec (i < 2 ^ l) → Dec (k < 2 ^ l) → (i < 2 ^ l → k < 2 ^ l → length (get_or (way (2 * v) i) k []) ≡ 16)
            → (i - 2 ^ l < 2 ^ l → k - 2 ^ l < 2 ^ l → (k - 2 ^ l ≡ i - 2 ^ l → ⊥) → length (get_or (way (2 * v + 1) (i - 2 ^ l)) (k - 2 ^ l) []) ≡ 16)
            → length (get_or (cond (ltb i (2 ^ l)) (way (2 * v) i ++ whole (2 * v + 1)) (whole (2 * v) ++ way (2 * v + 1) (i - 2 ^ l))) k []) ≡ 16
        go (yes a) (yes b) ih jh =
            rw (lt-ltb i (2 ^ l) a) (ap length (in-first (way (2 * v) i) (whole (2 * v + 1)) (2 ^ l) k (length-opened_seeds hash prefix l (2 * v) i (drop 16 s)) b) ∙ ih a b)
        go (yes a) (no b) ih jh =
            rw (lt-ltb i (2 ^ l) a)
            (ap length (in-second (way (2 * v) i) (whole (2 * v + 1)) (2 ^ l) k (length-opened_seeds hash prefix l (2 * v) i (drop 16 s)) (omega arith))
            ∙ whole_length (2 * v + 1) (k - 2 ^ l) (omega (arith, two)))
        go (no a) (yes b) ih jh =
            rw (le-ltb i (2 ^ l) (omega arith))
            (ap length (in-first (whole (2 * v)) (way (2 * v + 1) (i - 2 ^ l)) (2 ^ l) k (length-leaf_seeds hash prefix l (2 * v) (take 16 s)) b) ∙ whole_length (2 * v) k b)
        go (no a) (no b) ih jh =
            rw (le-ltb i (2 ^ l) (omega arith))
            (ap length (in-second (whole (2 * v)) (way (2 * v + 1) (i - 2 ^ l)) (2 ^ l) k (length-leaf_seeds hash prefix l (2 * v) (take 16 s)) (omega arith))
            ∙ jh (omega (arith, two)) (omega (arith, two)) (λ z. differ (omega arith)))

    pub opened_seeds-part : (l v i k : ℕ) (s : List ℕ) → length s ≡ 16 * l → i < 2 ^ l → k < 2 ^ l → (k ≡ i → ⊥)
        → part (laid (opened_seeds hash prefix l v i s)) (16 * k) 16 ≡ get_or (opened_seeds hash prefix l v i s) k []
    opened_seeds-part l v i k s e hi hk differ =
        let ss = opened_seeds hash prefix l v i s in
        part-laid ss (slotted-opened_seeds l v i s e) k (omega (arith, length-opened_seeds hash prefix l v i s))
        ∙ slot-seed (get_or ss k []) (length-opened_seed l v i k s e hi hk differ)

    pub opened-step : (l v i : ℕ) (s d : List ℕ) (x : ℕ) → length s ≡ 16 * suc l → x + 16 * 2 ^ suc l ≤ length d
        → put_at d x (laid (opened_seeds hash prefix (suc l) v i s))
        ≡ put_at (put_at d (x + 16 * (2 ^ l - second i (2 ^ l) (2 ^ l))) (laid (leaf_seeds hash prefix l (2 * v + (1 - second i (2 ^ l) 1)) (take 16 s)))) (x + 16 * second i (2 ^ l) (2 ^ l))
        (laid (opened_seeds hash prefix l (2 * v + second i (2 ^ l) 1) (i - second i (2 ^ l) (2 ^ l)) (drop 16 s)))
    unfolding opened_seeds second
    opened-step l v i s d x e fits = go (ltb i (2 ^ l))
      where
        two : 2 ^ suc l ≡ 2 ^ l + 2 ^ l
        two = two-pow-succ l

        way : ℕ → ℕ → List ℕ
        way v i = laid (opened_seeds hash prefix l v i (drop 16 s))

        leaves : ℕ → List ℕ
        leaves v = laid (leaf_seeds hash prefix l v (take 16 s))

        way-length : (v i : ℕ) → length (way v i) ≡ 16 * 2 ^ l
        way-length v i = length-opened l v i (drop 16 s) (rest-length l s e)

        leaves-length : (v : ℕ) → length (leaves v) ≡ 16 * 2 ^ l
        leaves-length v = length-leaves hash prefix hash-length l v (take 16 s) (one-length l s e)

        go : (t : Bool)
            → put_at d x (laid (cond t (opened_seeds hash prefix l (2 * v) i (drop 16 s) ++ leaf_seeds hash prefix l (2 * v + 1) (take 16 s))
            (leaf_seeds hash prefix l (2 * v) (take 16 s) ++ opened_seeds hash prefix l (2 * v + 1) (i - 2 ^ l) (drop 16 s))))
            ≡ put_at (put_at d (x + 16 * (2 ^ l - cond t 0 (2 ^ l))) (leaves (2 * v + (1 - cond t 0 1)))) (x + 16 * cond t 0 (2 ^ l))
            (way (2 * v + cond t 0 1) (i - cond t 0 (2 ^ l)))
        go true =
            let O = way (2 * v) i in
            let W = leaves (2 * v + 1) in
            let h = way-length (2 * v) i in
            let inside : x + length O + length W ≤ length d = omega (arith, leaves-length (2 * v + 1), two) in
            let place : x + length O ≡ x + 16 * (2 ^ l - 0) = omega arith in
            let number : i ≡ i - 0 = omega arith in
            ap (put_at d x) (laid-append (opened_seeds hash prefix l (2 * v) i (drop 16 s)) (leaf_seeds hash prefix l (2 * v + 1) (take 16 s)))
            ∙ sym (put_at-front d x O W inside)
            ∙ (λ t. put_at (put_at d (place t) W) (sym (add-zero x) t) (way (sym (add-zero (2 * v)) t) (number t)))
        go false =
            let O = way (2 * v + 1) (i - 2 ^ l) in
            let W = leaves (2 * v) in
            let h = leaves-length (2 * v) in
            let inside : x + length W + length O ≤ length d = omega (arith, way-length (2 * v + 1) (i - 2 ^ l), two) in
            let place : x ≡ x + 16 * (2 ^ l - 2 ^ l) = omega arith in
            let behind : x + length W ≡ x + 16 * 2 ^ l = omega arith in
            ap (put_at d x) (laid-append (leaf_seeds hash prefix l (2 * v) (take 16 s)) (opened_seeds hash prefix l (2 * v + 1) (i - 2 ^ l) (drop 16 s)))
            ∙ sym (put_at-behind d x W O inside)
            ∙ (λ t. put_at (put_at d (place t) (leaves (sym (add-zero (2 * v)) t))) (behind t) O)

    -- the buffer d at the place w, k levels down: the leaves below w, from index x on, as they will be
    unfoldable pub opening : ℕ → List ℕ → ℕ → Way → List ℕ → ℕ → List ℕ
    opening l s k w d x = put_at d x (laid (opened_seeds hash prefix (l - k) w.node w.leaf (drop (16 * k) s)))

    pub opened-none : (l i : ℕ) (s d : List ℕ) → length s ≡ 16 * l → length d ≡ 16 * 2 ^ l
        → laid (opened_seeds hash prefix l 1 i s) ≡ opening l s 0 (root_way l i) d 0
    unfolding opening root_way
    opened-none l i s d e size =
        let all : l ≡ l - 0 = omega arith in
        sym (put_at-whole d (laid (opened_seeds hash prefix l 1 i s)) (length-opened l 1 i s e ∙ sym size))
        ∙ ap (λ (n : ℕ). put_at d 0 (laid (opened_seeds hash prefix n 1 i s))) all

    -- the seeds below the sibling of the way's next node
    abbrev pub beside : ℕ → List ℕ → ℕ → Way → List ℕ
    beside l s k w = laid (leaf_seeds hash prefix (l - (k + 1)) (2 * w.node + (1 - side w)) (part s (16 * k) 16))

    pub opened-more : (l : ℕ) (s : List ℕ) (k : ℕ) (w : Way) (d : List ℕ) (x : ℕ) → k < l → OnWay l k w → length s ≡ 16 * l
        → x + 16 * w.size ≤ length d
        → opening l s k w d x ≡ opening l s (k + 1) (next w) (put_at d (x + 16 * (w.size / 2 - skipped w)) (beside l s k w)) (x + 16 * skipped w)
    unfolding opening part next
    opened-more l s k w d x h on e fits =
        ap (λ (n : ℕ). put_at d x (laid (opened_seeds hash prefix n w.node w.leaf (drop (16 * k) s)))) (level-less l k h)
        ∙ opened-step m w.node w.leaf (drop (16 * k) s) d x long room
        ∙ sym (λ t. put_at (put_at d (x + 16 * (half t - at-skipped t)) (laid (leaf_seeds hash prefix m (2 * w.node + (1 - at_side t)) (take 16 (drop (16 * k) s))))) (x + 16 * at-skipped t)
        (laid (opened_seeds hash prefix m (2 * w.node + at_side t) (w.leaf - at-skipped t) (behind t))))
      where
        m : ℕ
        m = l - (k + 1)

        half : w.size / 2 ≡ 2 ^ m
        half = on_way-half l k w h on

        at_side : side w ≡ second w.leaf (2 ^ m) 1
        at_side = on_way-side l k w h on

        at-skipped : skipped w ≡ second w.leaf (2 ^ m) (2 ^ m)
        at-skipped = on_way-skipped l k w h on

        behind : drop (16 * (k + 1)) s ≡ drop 16 (drop (16 * k) s)
        behind = let z : 16 * (k + 1) ≡ 16 * k + 16 = omega arith in ap (λ (n : ℕ). drop n s) z ∙ sym (drop-drop 16 (16 * k) s)

        long : length (drop (16 * k) s) ≡ 16 * suc m
        long = simp length-drop (omega arith)

        room : x + 16 * 2 ^ suc m ≤ length d
        room = rw (← level-less l k h, ← on.leaves) fits

    pub opened-all : (l : ℕ) (s : List ℕ) (k : ℕ) (w : Way) (d : List ℕ) (x : ℕ) → k ≡ l → opening l s k w d x ≡ put_at d x (replicate 16 0)
    unfolding opening opened_seeds laid slot
    opened-all l s k w d x e =
        let none : l - k ≡ 0 = omega arith in
        ap (λ (n : ℕ). put_at d x (laid (opened_seeds hash prefix n w.node w.leaf (drop (16 * k) s)))) none
