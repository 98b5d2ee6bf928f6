-- The laws of what the parties of an axis announce.
--
-- same_bytes            announcements that agree on a party at all positions have the same bytes
-- none-alpha, none-beta, none-v   no leaf is hidden: every party announces by the formulas
-- by-ext                what is announced depends on the parties of the side and the positions below t alone
use Rattle.std.specs.Prelude.{◌≡◌, Bool, false, ℕ, ◌<◌, eqb}
use Rattle.std.proofs.Common.{sym, ◌∙◌, arith, ne_eqb}
use Rattle.std.proofs.Math.Path.{ap, ap₂}
use Rattle.std.proofs.Math.Bool.{cond}
use mathlib.Core.List.{List, ◌++◌}
use Rattle.std.proofs.Math.Decide.{ℕ_discrete}
use Rattle.cube.specs.Group.{additive}
use Rattle.cube.specs.Sum.Laws.{cond-eq, cond-ne, sum-ext}
use Rattle.tower.specs.Field.{Point}
use Rattle.parameters.specs.declared.Parameters.{Parameters}
use Rattle.layout.specs.Layout.{side}
use Rattle.exchange.specs.Reading.{points, ◌⊞◌, 𝟎}
use Rattle.exchange.proofs.Reading.Laws.{encode-ext}
use Rattle.exchange.specs.Values.{Key, alpha, beta, part_v}
use Rattle.exchange.specs.Parties.{Announced, sums, announced_bytes}
use Rattle.exchange.specs.Announcing.{Hidden, none, party_alpha, party_beta, formula_v, party_v, announced_by}

pub same_bytes : (p : Parameters) (A B : Announced) (c : ℕ) → ((l : ℕ) → l < p.t → A.α c l ≡ B.α c l) → ((l : ℕ) → l < p.t → A.β c l ≡ B.β c l)
    → ((l : ℕ) → l < p.t → A.v c l ≡ B.v c l) → announced_bytes p A c ≡ announced_bytes p B c
unfolding announced_bytes
same_bytes p A B c ea eb ev =
    ap₂ ◌++◌ (encode-ext (A.α c) (B.α c) p.t ea)
    (ap₂ ◌++◌ (encode-ext (A.β c) (B.β c) p.t eb) (encode-ext (A.v c) (B.v c) p.t ev))

-- ---- no party holds a hidden leaf

module _ (p : Parameters) (key : Key) (m2 : List ℕ) (s : ℕ → List ℕ) where
  no-party : (c : ℕ) → c < side p → eqb c (side p) ≡ false
  no-party c h = ne_eqb c (side p) (λ e. omega arith)

  plain : (c : ℕ) (x : Point) → c < side p → x ⊞ cond (eqb c (side p)) 𝟎 𝟎 ≡ x
  plain c x h = ap (λ (b : Bool). x ⊞ cond b 𝟎 𝟎) (no-party c h) ∙ points.base.add-zero x

  pub none-alpha : (c l : ℕ) → c < side p → party_alpha p key m2 s (none p) c l ≡ alpha p key m2 (eqb c 0) (s c) l
  unfolding party_alpha
  none-alpha c l h = plain c _ h

  pub none-beta : (c l : ℕ) → c < side p → party_beta p key m2 s (none p) c l ≡ beta p key m2 (eqb c 0) (s c) l
  unfolding party_beta
  none-beta c l h = plain c _ h

  pub none-v : (c l : ℕ) → c < side p → party_v p key m2 s (none p) c l ≡ formula_v p key m2 s (none p) c l
  unfolding party_v
  none-v c l h =
      ap (λ (b : Bool). cond b (sums (λ c. cond (eqb c (side p)) 𝟎 (formula_v p key m2 s (none p) c l)) (side p)) (formula_v p key m2 s (none p) c l)) (no-party c h)

-- ---- equal sums of leaves, equal α and β of the hidden leaf

module _ (p : Parameters) (key : Key) (m2 : List ℕ) (s s' : ℕ → List ℕ) (a b : Hidden) (ep : a.party ≡ b.party)
    (es : (c : ℕ) → c < side p → s c ≡ s' c) (ea : a.party < side p → (l : ℕ) → l < p.t → a.α l ≡ b.α l)
    (eb : a.party < side p → (l : ℕ) → l < p.t → a.β l ≡ b.β l) where
  -- what the hidden leaf adds to party c
  added-ext : (c : ℕ) (x y : Point) → c < side p → (a.party < side p → x ≡ y)
      → cond (eqb c a.party) x 𝟎 ≡ cond (eqb c b.party) y 𝟎
  added-ext c x y k e = go (ℕ_discrete c a.party)
    where
      go : Dec (c ≡ a.party) → cond (eqb c a.party) x 𝟎 ≡ cond (eqb c b.party) y 𝟎
      go (yes q) = cond-eq c a.party x 𝟎 q ∙ e (omega arith) ∙ sym (cond-eq c b.party y 𝟎 (q ∙ ep))
      go (no n) = cond-ne c a.party x 𝟎 n ∙ sym (cond-ne c b.party y 𝟎 (λ q. n (q ∙ sym ep)))

  alpha-ext : (c l : ℕ) → c < side p → l < p.t → party_alpha p key m2 s a c l ≡ party_alpha p key m2 s' b c l
  unfolding party_alpha
  alpha-ext c l k h = ap₂ (λ (z : List ℕ) (x : Point). alpha p key m2 (eqb c 0) z l ⊞ x) (es c k) (added-ext c (a.α l) (b.α l) k (λ q. ea q l h))

  beta-ext : (c l : ℕ) → c < side p → l < p.t → party_beta p key m2 s a c l ≡ party_beta p key m2 s' b c l
  unfolding party_beta
  beta-ext c l k h = ap₂ (λ (z : List ℕ) (x : Point). beta p key m2 (eqb c 0) z l ⊞ x) (es c k) (added-ext c (a.β l) (b.β l) k (λ q. eb q l h))

  formula-ext : (c l : ℕ) → c < side p → l < p.t → formula_v p key m2 s a c l ≡ formula_v p key m2 s' b c l
  unfolding formula_v
  formula-ext c l k h =
      ap (λ (z : List ℕ). part_v p key m2 (eqb c 0) z (sums (λ c. party_alpha p key m2 s a c l) (side p)) (sums (λ c. party_beta p key m2 s a c l) (side p)) l) (es c k)
      ∙ ap₂ (λ (α̂ β̂ : Point). part_v p key m2 (eqb c 0) (s' c) α̂ β̂ l) (sum-ext (additive points.base) _ _ (side p) (λ c k. alpha-ext c l k h))
      (sum-ext (additive points.base) _ _ (side p) (λ c k. beta-ext c l k h))

  v-ext : (c l : ℕ) → c < side p → l < p.t → party_v p key m2 s a c l ≡ party_v p key m2 s' b c l
  unfolding party_v
  v-ext c l k h =
      ap (λ (z : ℕ). cond (eqb c z) (sums (λ c. cond (eqb c z) 𝟎 (formula_v p key m2 s a c l)) (side p)) (formula_v p key m2 s a c l)) ep
      ∙ ap₂ (cond (eqb c b.party))
      (sum-ext (additive points.base) _ _ (side p) (λ c k. ap (cond (eqb c b.party) 𝟎) (formula-ext c l k h))) (formula-ext c l k h)

  pub by-ext : (c : ℕ) → c < side p
      → announced_bytes p (announced_by p key m2 s a) c ≡ announced_bytes p (announced_by p key m2 s' b) c
  by-ext c k =
      same_bytes p (announced_by p key m2 s a) (announced_by p key m2 s' b) c (λ l h. alpha-ext c l k h) (λ l h. beta-ext c l k h)
      (λ l h. v-ext c l k h)
