-- A leaf's share is added on one axis after another, and then to the sum of all leaves.
--
-- added_to p i s d a       the sums d with the share s of leaf i added on the axes below a
-- added_none, added_more  before the first axis, and one axis more
-- added-all               with the sum of all leaves
use Rattle.std.specs.Prelude.{◌≡◌, Bool, true, false, ◌&&◌, ◌||◌, cond, List, ℕ, ◌+◌, ◌*◌, ◌≤◌, ◌<◌, eqb, ltb, length}
use Rattle.std.proofs.Math.Path.{refl, sym, ap, ap₂}
use Rattle.std.proofs.Common.{◌∙◌, arith}
use Rattle.std.proofs.Math.Bool.{not, and-false}
use Rattle.std.proofs.Math.Decide.{dec_lt, ℕ_discrete}
use borrow.Author.Tests.{eq-eqb, ne_eqb, lt-ltb, le-ltb}
use Rattle.lists.specs.Part.Laws.{length_part}
use Rattle.lists.specs.Sum.{xor_list, xor_at}
use Rattle.lists.specs.Sum.Laws.{length-xor_list}
use Rattle.parameters.specs.declared.Parameters.{Parameters}
use Rattle.layout.specs.Layout.{others, sum_count, sum_index, sums_length, digit, share_length}
use Rattle.layout.specs.Layout.Laws.{index-lt, total-lt, sum_fits}
use Rattle.exchange.specs.Sequences.{joined}
use Rattle.exchange.proofs.Sequences.Laws.{joined-ext, joined-parts}
use Rattle.exchange.specs.Parties.{party_of}
use Rattle.parties.specs.Blocks.{xor_at-joined}
use Rattle.parties.specs.Sums.{axis_at, party_at, in_sum, sum_at, added_on, added_leaf}
use Rattle.parties.specs.Sums.Index.{index_at, axis-index, party-index, index-other}

-- a sum with s added where the test says so
abbrev pub picked : Bool → List ℕ → List ℕ → List ℕ
picked t sum s = cond t (xor_list sum s) sum

length-picked : (t : Bool) (sum s : List ℕ) → length s ≤ length sum → length (picked t sum s) ≡ length sum
length-picked true sum s h = length-xor_list sum s h
length-picked false sum s h = refl

-- ---- the sums that a leaf is in, axis after axis

module _ (p : Parameters) (i : ℕ) where
  abbrev pub member : ℕ → Bool
  member q = party_of p (axis_at p q) (party_at p q) i

  unfoldable pub in_to : ℕ → ℕ → Bool
  in_to a q = not (eqb q p.axes) && (ltb (axis_at p q) a && member q)

  to_none : (q : ℕ) → in_to 0 q ≡ false
  unfolding in_to
  to_none q = ap (λ (t : Bool). not (eqb q p.axes) && (t && member q)) (le-ltb (axis_at p q) 0 (omega arith)) ∙ and-false (not (eqb q p.axes))

  -- all leaves are in the sum at index D
  to-all : (q : ℕ) → q < sum_count p → (l s : List ℕ) → picked (eqb q p.axes) (picked (in_to p.axes q) l s) s ≡ picked (in_sum p q i) l s
  unfolding in_to in_sum
  to-all q h l s = go (ℕ_discrete q p.axes)
    where
      go : Dec (q ≡ p.axes)
          → picked (eqb q p.axes) (picked (not (eqb q p.axes) && (ltb (axis_at p q) p.axes && member q)) l s) s ≡ picked (eqb q p.axes || member q) l s
      go (yes e) = rw (eq-eqb q p.axes e) refl
      go (no e) = rw (ne_eqb q p.axes e, lt-ltb (axis_at p q) p.axes (index_at p q h e).axis) refl

  module _ (a : ℕ) (inside : a < p.axes) (q : ℕ) where
    -- the sum of the leaf's party on axis a
    before-own : q ≡ sum_index p a (digit p a i) → in_to a q ≡ false
    unfolding in_to
    before-own e =
        let j : axis_at p q ≡ a = ap (axis_at p) e ∙ axis-index p a (digit p a i) inside in
        ap (λ (t : Bool). not (eqb q p.axes) && (t && member q)) (le-ltb (axis_at p q) a (omega arith)) ∙ and-false (not (eqb q p.axes))

    after-own : q ≡ sum_index p a (digit p a i) → in_to (a + 1) q ≡ true
    unfolding in_to party_of
    after-own e =
        let j : axis_at p q ≡ a = ap (axis_at p) e ∙ axis-index p a (digit p a i) inside in
        let c : party_at p q ≡ digit p a i = ap (party_at p) e ∙ party-index p a (digit p a i) inside in
        let own : digit p (axis_at p q) i ≡ party_at p q = ap (λ (j : ℕ). digit p j i) j ∙ sym c in
        rw (ne_eqb q p.axes (λ z. index-other p a (digit p a i) inside (sym e ∙ z)), lt-ltb (axis_at p q) (a + 1) (omega arith), eq-eqb (digit p (axis_at p q) i) (party_at p q) own) refl

    -- any other
    to-other : q < sum_count p → (digit p a i < others p → q ≡ sum_index p a (digit p a i) → ⊥) → in_to a q ≡ in_to (a + 1) q
    unfolding in_to party_of
    to-other h other = go (ℕ_discrete q p.axes) (ℕ_discrete (axis_at p q) a) (dec_lt (axis_at p q) a)
      where
        go : Dec (q ≡ p.axes) → Dec (axis_at p q ≡ a) → Dec (axis_at p q < a)
            → not (eqb q p.axes) && (ltb (axis_at p q) a && member q) ≡ not (eqb q p.axes) && (ltb (axis_at p q) (a + 1) && member q)
        go (yes e) j l = rw (eq-eqb q p.axes e) refl
        go (no e) (yes j) l =
            let at = index_at p q h e in
            let not_own : digit p (axis_at p q) i ≡ party_at p q → ⊥
            = λ z. let c : digit p a i ≡ party_at p q = ap (λ (k : ℕ). digit p k i) (sym j) ∙ z in
            other (let b = at.party in omega arith) (sym at.index ∙ ap₂ (sum_index p) j (sym c)) in
            rw (ne_eqb (digit p (axis_at p q) i) (party_at p q) not_own) (simp and-false)
        go (no e) (no j) (yes l) = rw (lt-ltb (axis_at p q) a l, lt-ltb (axis_at p q) (a + 1) (omega arith)) refl
        go (no e) (no j) (no l) = rw (le-ltb (axis_at p q) a (omega arith), le-ltb (axis_at p q) (a + 1) (omega arith)) refl

-- ---- the sums

module _ (p : Parameters) (i : ℕ) (s d : List ℕ) where
  unfoldable pub added_to : ℕ → List ℕ
  added_to a = joined (λ q. picked (in_to p i a q) (sum_at p d q) s) (sum_count p)

  module _ (area : length d ≡ sums_length p) (short : length s ≤ share_length p) where
    long : (q : ℕ) → q < sum_count p → length (sum_at p d q) ≡ share_length p
    long q h = length_part d (q * share_length p) (share_length p) (omega (arith, sum_fits p q h))

    pub added_none : d ≡ added_to 0
    unfolding added_to
    added_none =
        joined-parts d (share_length p) (sum_count p) area
        ∙ joined-ext _ _ (sum_count p) (λ q h. ap (λ (t : Bool). picked t (sum_at p d q) s) (sym (to_none p i q)))

    sized : (a q : ℕ) → q < sum_count p → length (picked (in_to p i a q) (sum_at p d q) s) ≡ share_length p
    sized a q h = length-picked (in_to p i a q) (sum_at p d q) s (omega (arith, long q h)) ∙ long q h

    pub added-all : xor_at (added_to p.axes) (p.axes * share_length p) s ≡ added_leaf p i s d
    unfolding added_to added_leaf
    added-all =
        xor_at-joined _ (share_length p) (sum_count p) s p.axes (sized p.axes) short (total-lt p)
        ∙ joined-ext _ _ (sum_count p) (λ q h. to-all p i q h (sum_at p d q) s)

    pub added_more : (a : ℕ) → a < p.axes → added_on p a i s (added_to a) ≡ added_to (a + 1)
    unfolding added_on added_to
    added_more a inside = go (dec_lt (digit p a i) (others p))
      where
        step : (q : ℕ) → q < sum_count p → Dec (q ≡ sum_index p a (digit p a i))
            → picked (eqb q (sum_index p a (digit p a i))) (picked (in_to p i a q) (sum_at p d q) s) s ≡ picked (in_to p i (a + 1) q) (sum_at p d q) s
        step q h (yes e) = rw (eq-eqb q (sum_index p a (digit p a i)) e, before-own p i a inside q e, after-own p i a inside q e) refl
        step q h (no e) = rw (ne_eqb q (sum_index p a (digit p a i)) e, to-other p i a inside q h (λ l. e)) refl

        go : Dec (digit p a i < others p)
            → cond (ltb (digit p a i) (others p)) (xor_at (added_to a) (sum_index p a (digit p a i) * share_length p) s) (added_to a) ≡ added_to (a + 1)
        go (yes l) =
            rw (lt-ltb (digit p a i) (others p) l)
            (xor_at-joined _ (share_length p) (sum_count p) s (sum_index p a (digit p a i)) (sized a) short (index-lt p a (digit p a i) inside l)
            ∙ joined-ext _ _ (sum_count p) (λ q h. step q h (ℕ_discrete q (sum_index p a (digit p a i)))))
        go (no l) =
            rw (le-ltb (digit p a i) (others p) (omega arith))
            (joined-ext _ _ (sum_count p) (λ q h. ap (λ (t : Bool). picked t (sum_at p d q) s) (to-other p i a inside q h (λ z. absurd (l z)))))
