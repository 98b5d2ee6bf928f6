-- The parties of an axis are the parties of crate `cube`, in the group of the points field.
--
-- axis_partition p j        axis j as a partition of the leaves
-- G, GG                    the sum of points, and of pairs of points (α and β)
-- total-additive           an additive function of a sum of shares is the sum of its values at the picked leaves
-- leaf_w, leaf_v             what leaf i announces at a position: α and β, and its part of v for given α̂ and β̂; no constants
-- constant_w, constant_v     the constants of the first party
-- alpha-total, beta-total, part_v-total   α, β and v of a sum of shares
-- party-announced, party-formula         α, β and v of the parties of a family of shares
-- v-total                  v of the sum of all shares, its own α and β being α̂ and β̂
use Rattle.std.specs.Prelude.{◌≡◌, Bool, List, eqb, replicate}
use Rattle.std.proofs.Math.Path.{sym, ap}
use Rattle.std.proofs.Common.{◌∙◌}
use Rattle.std.proofs.Math.Bool.{true, false, cond}
use Prim.Native.Nat.{ℕ, zero, suc}
use Rattle.std.proofs.lemmas.List.{length-replicate}
use Rattle.lists.specs.Sum.{xor_list}
use Rattle.lists.specs.Sum.Laws.{xor_list-self}
use Rattle.cube.specs.Group.{Group2, additive, pairs, pair_path}
use Rattle.cube.specs.Group.Laws.{zero-add}
use Rattle.cube.specs.Sum.{sum}
use Rattle.cube.specs.Sum.Laws.{sum-pairs}
use Rattle.cube.specs.Party.{Partition, party, member_sum}
use Rattle.cube.specs.Party.Laws.{party-pairs}
use Rattle.cube.specs.Opening.{announced, formula, totals}
use Rattle.cube.specs.Opening.Laws.{totals-all}
use Rattle.tower.specs.Field.{Point}
use Rattle.parameters.specs.declared.Parameters.{Parameters}
use Rattle.layout.specs.Layout.{side, leaves, digit, share_length}
use Rattle.layout.specs.Layout.Laws.{side-pos, digit_lt}
use Rattle.exchange.specs.Reading.{points, ◌⊞◌, ◌⊠◌, 𝟎}
use Rattle.exchange.specs.Values.{Key, alpha, beta, part_v}
use Rattle.exchange.proofs.Values.Laws.{alpha_constant, beta_constant, alpha-xor, alpha-first, beta-xor, beta-first, part_v-xor, part_v-first}
use Rattle.exchange.specs.Parties.{total, party_of}

abbrev pub axis_partition : Parameters → ℕ → Partition
axis_partition p j = record {
  parties = side p;
  leaves = leaves p;
  party_of = digit p j;
  within = λ i h. digit_lt p j i;
  some = side-pos p;
}

abbrev pub G : Group2 Point
G = additive points.base

abbrev pub GG : Group2 (Point × Point)
GG = pairs G G

-- ---- additive functions of a share

module _ (p : Parameters) (φ : List ℕ → Point) (φ-xor : (s t : List ℕ) → φ (xor_list s t) ≡ φ s ⊞ φ t) where
  -- the zeros are their own sum
  φ-zeros : (n : ℕ) → φ (replicate n 0) ≡ 𝟎
  φ-zeros n =
      ap φ (ap (λ (k : ℕ). replicate k 0) (sym (length-replicate n 0)) ∙ sym (xor_list-self (replicate n 0)))
      ∙ φ-xor (replicate n 0) (replicate n 0) ∙ points.base.add-self (φ (replicate n 0))

  pub total-additive : (picks : ℕ → Bool) (s : ℕ → List ℕ) (n : ℕ)
      → φ (total p picks s n) ≡ sum G (λ i. cond (picks i) (φ (s i)) 𝟎) n
  unfolding total sum
  total-additive picks s zero = φ-zeros (share_length p)
  total-additive picks s (suc n) = go (picks n) (total-additive picks s n)
    where
      go : (b : Bool) → φ (total p picks s n) ≡ sum G (λ i. cond (picks i) (φ (s i)) 𝟎) n
          → φ (cond b (xor_list (total p picks s n) (s n)) (total p picks s n))
          ≡ sum G (λ i. cond (picks i) (φ (s i)) 𝟎) n ⊞ cond b (φ (s n)) 𝟎
      go true ih = φ-xor (total p picks s n) (s n) ∙ ap (λ (x : Point). x ⊞ φ (s n)) ih
      go false ih = ih ∙ sym (points.base.add-zero _)

-- ---- α, β and v of a sum of shares

module _ (p : Parameters) (key : Key) (m2 : List ℕ) (l : ℕ) where
  unfoldable pub leaf_w : (ℕ → List ℕ) → ℕ → Point × Point
  leaf_w s i = (alpha p key m2 false (s i) l, beta p key m2 false (s i) l)

  unfoldable pub leaf_v : (ℕ → List ℕ) → ℕ → Point × Point → Point
  leaf_v s i h = part_v p key m2 false (s i) h.0 h.1 l

  unfoldable pub constant_w : Point × Point
  constant_w = (alpha_constant p key m2 l, beta_constant p key m2 l)

  unfoldable pub constant_v : Point × Point → Point
  constant_v h = h.0 ⊠ h.1

  -- an additive function, with a constant where `first`
  with-constant : (φ : Bool → List ℕ → Point) (k : Point) → ((s t : List ℕ) → φ false (xor_list s t) ≡ φ false s ⊞ φ false t)
      → ((s : List ℕ) → φ true s ≡ k ⊞ φ false s) → (first : Bool) (picks : ℕ → Bool) (s : ℕ → List ℕ) (n : ℕ)
      → φ first (total p picks s n) ≡ cond first k 𝟎 ⊞ sum G (λ i. cond (picks i) (φ false (s i)) 𝟎) n
  with-constant φ k φ-xor φ-first true picks s n =
      φ-first (total p picks s n) ∙ ap (λ (x : Point). k ⊞ x) (total-additive p (φ false) φ-xor picks s n)
  with-constant φ k φ-xor φ-first false picks s n = total-additive p (φ false) φ-xor picks s n ∙ sym (zero-add G _)

  pub alpha-total : (first : Bool) (picks : ℕ → Bool) (s : ℕ → List ℕ) (n : ℕ)
      → alpha p key m2 first (total p picks s n) l ≡ cond first constant_w.0 𝟎 ⊞ sum G (λ i. cond (picks i) (leaf_w s i).0 𝟎) n
  unfolding leaf_w constant_w
  alpha-total = with-constant (λ first s. alpha p key m2 first s l) (alpha_constant p key m2 l) (alpha-xor p key m2 l) (alpha-first p key m2 l)

  pub beta-total : (first : Bool) (picks : ℕ → Bool) (s : ℕ → List ℕ) (n : ℕ)
      → beta p key m2 first (total p picks s n) l ≡ cond first constant_w.1 𝟎 ⊞ sum G (λ i. cond (picks i) (leaf_w s i).1 𝟎) n
  unfolding leaf_w constant_w
  beta-total = with-constant (λ first s. beta p key m2 first s l) (beta_constant p key m2 l) (beta-xor p key m2 l) (beta-first p key m2 l)

  pub part_v-total : (first : Bool) (picks : ℕ → Bool) (s : ℕ → List ℕ) (n : ℕ) (h : Point × Point)
      → part_v p key m2 first (total p picks s n) h.0 h.1 l ≡ cond first (constant_v h) 𝟎 ⊞ sum G (λ i. cond (picks i) (leaf_v s i h) 𝟎) n
  unfolding leaf_v constant_v
  part_v-total first picks s n h =
      with-constant (λ first s. part_v p key m2 first s h.0 h.1 l) (h.0 ⊠ h.1) (part_v-xor p key m2 l h.0 h.1)
      (part_v-first p key m2 l h.0 h.1) first picks s n

  -- ---- the parties of a family of shares

  module _ (s : ℕ → List ℕ) (j : ℕ) where
    abbrev hats : Point × Point
    hats = totals GG G (axis_partition p j) constant_w constant_v (leaf_w s)

    abbrev all : List ℕ
    all = total p (λ i. true) s (leaves p)

    pub v-total : part_v p key m2 true all (alpha p key m2 true all l) (beta p key m2 true all l) l
        ≡ constant_v hats ⊞ sum G (λ i. leaf_v s i hats) (leaves p)
    v-total =
        ap (λ (h : Point × Point). part_v p key m2 true all h.0 h.1 l)
        (pair_path (alpha-total true (λ i. true) s (leaves p)) (beta-total true (λ i. true) s (leaves p))
        ∙ sym (ap (GG.add constant_w) (sum-pairs G G (leaf_w s) (leaves p)))
        ∙ sym (totals-all GG G (axis_partition p j) constant_w constant_v (leaf_w s)))
        ∙ part_v-total true (λ i. true) s (leaves p) hats

    pub party-announced : (c : ℕ)
        → (alpha p key m2 (eqb c 0) (total p (party_of p j c) s (leaves p)) l, beta p key m2 (eqb c 0) (total p (party_of p j c) s (leaves p)) l)
        ≡ announced GG G (axis_partition p j) constant_w constant_v (leaf_w s) c
    unfolding announced party member_sum party_of
    party-announced c =
        pair_path (alpha-total (eqb c 0) (party_of p j c) s (leaves p)) (beta-total (eqb c 0) (party_of p j c) s (leaves p))
        ∙ sym (party-pairs G G (axis_partition p j) constant_w (leaf_w s) c)

    pub party-formula : (c : ℕ) (h : Point × Point) → h ≡ hats
        → part_v p key m2 (eqb c 0) (total p (party_of p j c) s (leaves p)) h.0 h.1 l
        ≡ formula GG G (axis_partition p j) constant_w constant_v (leaf_w s) (leaf_v s) c
    unfolding formula party member_sum party_of
    party-formula c h e =
        part_v-total (eqb c 0) (party_of p j c) s (leaves p) h
        ∙ ap (λ (h : Point × Point). cond (eqb c 0) (constant_v h) 𝟎 ⊞ sum G (λ i. cond (eqb (digit p j i) c) (leaf_v s i h) 𝟎) (leaves p)) e
