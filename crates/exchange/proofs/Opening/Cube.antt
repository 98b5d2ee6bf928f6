-- The verifier's parties are the parties of crate `cube`.
--
-- opened_w, opened_v         α and β of all leaves at a position, the hidden leaf's as message 5 gives them; the leaves' parts of v
-- k_w, k_v                   the constants of the first party
-- hats j                   α̂ and β̂ on axis j
-- opened-announced         the verifier's α and β on an axis are those of the parties of the cube
-- opened-totals            so are α̂ and β̂
-- opened-hats              on every axis they are the constants, the sums over the disclosed leaves, and the hidden leaf's, whatever message 4 holds
-- opened-v-zero            v sums to zero on every axis
-- opened-verified          the verifier's v is that of the cube
use Rattle.std.specs.Prelude.{◌≡◌, ◌&&◌, List, ℕ, ◌<◌, eqb}
use Rattle.std.proofs.Math.Path.{refl, sym, ap}
use Rattle.std.proofs.Common.{◌∙◌}
use Rattle.std.proofs.Math.Bool.{not, cond}
use Rattle.cube.specs.Group.{pair_path}
use Rattle.cube.specs.Sum.{sum}
use Rattle.cube.specs.Sum.Laws.{sum-ext, sum-pairs}
use Rattle.cube.specs.Party.{party, member_sum, disclosed_sum, replaced, balanced}
use Rattle.cube.specs.Party.Laws.{party-pairs, disclosed-replaced, disclosed-all, disclosed-sum, balanced-ext, balanced-zero}
use Rattle.cube.specs.Opening as cube
use Rattle.tower.specs.Field.{Point}
use Rattle.parameters.specs.declared.Parameters.{Parameters}
use Rattle.layout.specs.Layout.{side, leaves, digit}
use Rattle.layout.specs.Layout.Laws.{digit_lt}
use Rattle.exchange.specs.Reading.{points, ◌⊞◌, 𝟎}
use Rattle.exchange.specs.Values.{Key}
use Rattle.exchange.specs.Parties.{party_of, sums}
use Rattle.exchange.proofs.Parties.Cube.{axis_partition, G, GG, leaf_w, leaf_v, constant_w, constant_v, alpha-total, beta-total, part_v-total}
use Rattle.exchange.specs.Announcing.{party_alpha, party_beta, formula_v, party_v}
use Rattle.exchange.specs.Opening.{Exchange, alpha_of, beta_of, hidden_on, opened_share, disclosed, announced}

module _ (hash : List ℕ → ℕ → List ℕ) (p : Parameters) (e : Exchange) (key : Key) (l : ℕ) where
  unfoldable pub opened_w : ℕ → Point × Point
  opened_w i = (
    replaced e.leaf (λ i. (leaf_w p key e.message2 l (opened_share hash p e) i).0) (alpha_of p e l) i,
    replaced e.leaf (λ i. (leaf_w p key e.message2 l (opened_share hash p e) i).1) (beta_of p e l) i,
  )

  unfoldable pub opened_v : ℕ → Point × Point → Point
  opened_v = leaf_v p key e.message2 l (opened_share hash p e)

  -- the constants of message 2 at this position
  abbrev pub k_w : Point × Point
  k_w = constant_w p key e.message2 l

  abbrev pub k_v : Point × Point → Point
  k_v = constant_v p key e.message2 l

  abbrev pub hats : ℕ → Point × Point
  hats j = (sums (λ c. (announced hash p e key j).α c l) (side p), sums (λ c. (announced hash p e key j).β c l) (side p))

  module _ (inside : e.leaf < leaves p) (j : ℕ) where
    pub opened-announced : (c : ℕ)
        → ((announced hash p e key j).α c l, (announced hash p e key j).β c l) ≡ cube.announced GG G (axis_partition p j) k_w k_v opened_w c
    unfolding announced party_alpha party_beta disclosed party_of cube.announced opened_w party disclosed_sum
    opened-announced c =
        pair_path
        (ap (λ (x : Point). x ⊞ cond (eqb c (digit p j e.leaf)) (alpha_of p e l) 𝟎)
        (alpha-total p key e.message2 l (eqb c 0) (λ i. party_of p j c i && not (eqb i e.leaf)) (opened_share hash p e) (leaves p))
        ∙ points.base.add_assoc _ _ _
        ∙ ap (λ (z : Point). cond (eqb c 0) k_w.0 𝟎 ⊞ z)
        (disclosed-replaced G (axis_partition p j) e.leaf (λ i. (leaf_w p key e.message2 l (opened_share hash p e) i).0) c (alpha_of p e l) inside))
        (ap (λ (x : Point). x ⊞ cond (eqb c (digit p j e.leaf)) (beta_of p e l) 𝟎)
        (beta-total p key e.message2 l (eqb c 0) (λ i. party_of p j c i && not (eqb i e.leaf)) (opened_share hash p e) (leaves p))
        ∙ points.base.add_assoc _ _ _
        ∙ ap (λ (z : Point). cond (eqb c 0) k_w.1 𝟎 ⊞ z)
        (disclosed-replaced G (axis_partition p j) e.leaf (λ i. (leaf_w p key e.message2 l (opened_share hash p e) i).1) c (beta_of p e l) inside))
        ∙ sym (party-pairs G G (axis_partition p j) k_w opened_w c)

    pub opened-totals : hats j ≡ cube.totals GG G (axis_partition p j) k_w k_v opened_w
    unfolding cube.totals
    opened-totals =
        sym (sum-pairs G G (λ c. ((announced hash p e key j).α c l, (announced hash p e key j).β c l)) (side p))
        ∙ sum-ext GG (λ c. ((announced hash p e key j).α c l, (announced hash p e key j).β c l)) (cube.announced GG G (axis_partition p j) k_w k_v opened_w)
        (side p) (λ c h. opened-announced c)

  abbrev disclosed_all : (Point × Point → Point) → Point
  disclosed_all f = f k_w ⊞ sum G (replaced e.leaf (λ i. f (leaf_w p key e.message2 l (opened_share hash p e) i)) 𝟎) (leaves p)

  module _ (j : ℕ) where
    pub opened-hats : hats j ≡ (disclosed_all (λ z. z.0) ⊞ alpha_of p e l, disclosed_all (λ z. z.1) ⊞ beta_of p e l)
    unfolding announced party_alpha party_beta disclosed party_of disclosed_sum
    opened-hats =
        pair_path
        (sum-ext G _ _ (side p) (λ c h. ap (λ (x : Point). x ⊞ cond (eqb c (digit p j e.leaf)) (alpha_of p e l) 𝟎)
        (alpha-total p key e.message2 l (eqb c 0) (λ i. party_of p j c i && not (eqb i e.leaf)) (opened_share hash p e) (leaves p)))
        ∙ disclosed-sum G (axis_partition p j) e.leaf _ k_w.0 (alpha_of p e l) (digit_lt p j e.leaf))
        (sum-ext G _ _ (side p) (λ c h. ap (λ (x : Point). x ⊞ cond (eqb c (digit p j e.leaf)) (beta_of p e l) 𝟎)
        (beta-total p key e.message2 l (eqb c 0) (λ i. party_of p j c i && not (eqb i e.leaf)) (opened_share hash p e) (leaves p)))
        ∙ disclosed-sum G (axis_partition p j) e.leaf _ k_w.1 (beta_of p e l) (digit_lt p j e.leaf))

    party_v-balanced : (c : ℕ) → (announced hash p e key j).v c l ≡ balanced G (side p) (digit p j e.leaf) (λ c. formula_v p key e.message2 (disclosed hash p e j) (hidden_on p e j) c l) c
    unfolding announced party_v balanced
    party_v-balanced c = refl

    pub opened-v-zero : sums (λ c. (announced hash p e key j).v c l) (side p) ≡ 𝟎
    opened-v-zero =
        sum-ext G (λ c. (announced hash p e key j).v c l) (balanced G (side p) (digit p j e.leaf) (λ c. formula_v p key e.message2 (disclosed hash p e j) (hidden_on p e j) c l)) (side p)
        (λ c h. party_v-balanced c)
        ∙ balanced-zero G (side p) (digit p j e.leaf) (λ c. formula_v p key e.message2 (disclosed hash p e j) (hidden_on p e j) c l) (digit_lt p j e.leaf)

  module _ (inside : e.leaf < leaves p) (j : ℕ) where
    pub opened-verified : (c : ℕ) → c < side p
        → (announced hash p e key j).v c l ≡ cube.verified GG G (axis_partition p j) k_w k_v e.leaf opened_w opened_v c
    unfolding cube.verified
    opened-verified c h =
        party_v-balanced j c
        ∙ balanced-ext G (side p) (digit p j e.leaf) (λ c. formula_v p key e.message2 (disclosed hash p e j) (hidden_on p e j) c l)
        (cube.formula GG G (axis_partition p j) k_w k_v opened_w opened_v) (λ c h n. formula-is c n) c h
      where
        formula-is : (c : ℕ) → (c ≡ digit p j e.leaf → ⊥)
            → formula_v p key e.message2 (disclosed hash p e j) (hidden_on p e j) c l ≡ cube.formula GG G (axis_partition p j) k_w k_v opened_w opened_v c
        formula-is c n =
            unfold announced formula_v disclosed party_of cube.formula party member_sum disclosed_sum opened_v in
            part_v-total p key e.message2 l (eqb c 0) (λ i. party_of p j c i && not (eqb i e.leaf)) (opened_share hash p e) (leaves p) (hats j)
            ∙ ap (λ (x : Point). cond (eqb c 0) (k_v (hats j)) 𝟎 ⊞ x)
            (disclosed-all G (axis_partition p j) e.leaf (λ i. leaf_v p key e.message2 l (opened_share hash p e) i (hats j)) c n)
            ∙ ap (λ (h : Point × Point). cond (eqb c 0) (k_v h) 𝟎
            ⊞ member_sum G (axis_partition p j) (λ i. leaf_v p key e.message2 l (opened_share hash p e) i h) c) (opened-totals inside j)
