-- The laws of one axis.
--
--   totals-all      the totals are the sums over all leaves and the constants: they do not depend on the axis
--   announced-ext, totals-ext, verified-ext     what the parties announce depends on the leaves' announcements, the verifier's v also on
--                   the parts of v of the leaves that are not hidden
--   extraction      two openings of one axis, which hide leaves of different parties and announce the same: the relation holds of all
--                   leaves, for the party of the first hidden leaf is wholly disclosed in the second opening, every other one in the first
--   completeness    where the relation holds of all leaves, the verifier's v is that of the formula
use Rattle.std.specs.Prelude.{◌≡◌, ℕ, ◌<◌}
use Rattle.std.proofs.Math.Path.{sym, ap}
use Rattle.std.proofs.Common.{◌∙◌}
use Rattle.std.proofs.Math.Decide.{ℕ_discrete}
use Rattle.cube.specs.Group.{Group2}
use Rattle.cube.specs.Sum.{sum}
use Rattle.cube.specs.Sum.Laws.{sum-ext}
use Rattle.cube.specs.Party.{Partition}
use Rattle.cube.specs.Party.Laws.{party-sum, party-ext, balanced-zero, balanced-same, balanced-other, balanced-ext}
use Rattle.cube.specs.Opening.{announced, totals, formula, verified}

module _ {A B : Type 0} (G : Group2 A) (H : Group2 B) (X : Partition) (k : A) (k' : A → B) where
  pub totals-all : (w : ℕ → A) → totals G H X k k' w ≡ G.add k (sum G w X.leaves)
  unfolding totals announced
  totals-all w = party-sum G X k w

  formula-sum : (w : ℕ → A) (v : ℕ → A → B) → sum H (formula G H X k k' w v) X.parties
      ≡ H.add (k' (totals G H X k k' w)) (sum H (λ i. v i (totals G H X k k' w)) X.leaves)
  unfolding formula
  formula-sum w v = party-sum H X (k' (totals G H X k k' w)) (λ i. v i (totals G H X k k' w))

  -- the formula's v of a party depends on the totals and on the parts of v of its leaves
  formula-is : (w : ℕ → A) (v : ℕ → A → B) (w' : ℕ → A) (v' : ℕ → A → B) (c : ℕ) → totals G H X k k' w' ≡ totals G H X k k' w
      → ((i : ℕ) → i < X.leaves → X.party_of i ≡ c → v' i ≡ v i) → formula G H X k k' w' v' c ≡ formula G H X k k' w v c
  unfolding formula
  formula-is w v w' v' c e same =
      rw e (party-ext H X (k' (totals G H X k k' w)) (λ i. v' i (totals G H X k k' w)) (λ i. v i (totals G H X k k' w)) c
      (λ i h q. ap (λ (f : A → B). f (totals G H X k k' w)) (same i h q)))

  module _ (w w' : ℕ → A) (same : (i : ℕ) → i < X.leaves → w i ≡ w' i) where
    pub announced-ext : (c : ℕ) → announced G H X k k' w c ≡ announced G H X k k' w' c
    unfolding announced
    announced-ext c = party-ext G X k w w' c (λ i h q. same i h)

    pub totals-ext : totals G H X k k' w ≡ totals G H X k k' w'
    unfolding totals
    totals-ext = sum-ext G (announced G H X k k' w) (announced G H X k k' w') X.parties (λ c l. announced-ext c)

    pub verified-ext : (u : ℕ) (v v' : ℕ → A → B) → ((i : ℕ) → i < X.leaves → (i ≡ u → ⊥) → v i ≡ v' i)
        → (c : ℕ) → c < X.parties → verified G H X k k' u w v c ≡ verified G H X k k' u w' v' c
    unfolding verified
    verified-ext u v v' others =
        balanced-ext H X.parties (X.party_of u) (formula G H X k k' w v) (formula G H X k k' w' v')
        (λ c l e. formula-is w' v' w v c totals-ext (λ i h q. others i h (λ z. e (sym q ∙ ap X.party_of z))))

  pub completeness : (u : ℕ) → u < X.leaves → (w : ℕ → A) (v : ℕ → A → B)
      → H.add (k' (totals G H X k k' w)) (sum H (λ i. v i (totals G H X k k' w)) X.leaves) ≡ H.zero
      → (c : ℕ) → verified G H X k k' u w v c ≡ formula G H X k k' w v c
  unfolding verified
  completeness u l w v z = balanced-same H X.parties (X.party_of u) (formula G H X k k' w v) (X.within u l) (formula-sum w v ∙ z)

  -- leaf u is hidden in the first opening and u' in the second; w and v are those of all leaves, each from an opening that
  -- discloses it
  module _ (u u' : ℕ) (apart : X.party_of u ≡ X.party_of u' → ⊥) (inside : u < X.leaves) (w₁ w₂ w : ℕ → A) (v₁ v₂ v : ℕ → A → B)
      (first : (i : ℕ) → i < X.leaves → (i ≡ u → ⊥) → (w₁ i ≡ w i) × (v₁ i ≡ v i))
      (second : (i : ℕ) → i < X.leaves → (i ≡ u' → ⊥) → (w₂ i ≡ w i) × (v₂ i ≡ v i))
      (same-announced : (c : ℕ) → c < X.parties → announced G H X k k' w₁ c ≡ announced G H X k k' w₂ c)
      (same-verified : (c : ℕ) → c < X.parties → verified G H X k k' u w₁ v₁ c ≡ verified G H X k k' u' w₂ v₂ c) where
    announced-is : (c : ℕ) → c < X.parties → announced G H X k k' w₁ c ≡ announced G H X k k' w c
    unfolding announced
    announced-is c l = go (ℕ_discrete c (X.party_of u))
      where
        go : Dec (c ≡ X.party_of u) → announced G H X k k' w₁ c ≡ announced G H X k k' w c
        go (yes e) = same-announced c l ∙ party-ext G X k w₂ w c (λ i h q. (second i h (λ z. apart (sym e ∙ sym q ∙ ap X.party_of z))).0)
        go (no e) = party-ext G X k w₁ w c (λ i h q. (first i h (λ z. e (sym q ∙ ap X.party_of z))).0)

    totals-first : totals G H X k k' w₁ ≡ totals G H X k k' w
    unfolding totals
    totals-first = sum-ext G (announced G H X k k' w₁) (announced G H X k k' w) X.parties announced-is

    totals-second : totals G H X k k' w₂ ≡ totals G H X k k' w
    unfolding totals
    totals-second =
        sum-ext G (announced G H X k k' w₂) (announced G H X k k' w) X.parties (λ c l. sym (same-announced c l) ∙ announced-is c l)

    verified-is : (c : ℕ) → c < X.parties → verified G H X k k' u w₁ v₁ c ≡ formula G H X k k' w v c
    unfolding verified
    verified-is c l = go (ℕ_discrete c (X.party_of u))
      where
        go : Dec (c ≡ X.party_of u) → verified G H X k k' u w₁ v₁ c ≡ formula G H X k k' w v c
        go (yes e) =
            same-verified c l
            ∙ balanced-other H X.parties (X.party_of u') (formula G H X k k' w₂ v₂) c (λ z. apart (sym e ∙ z))
            ∙ formula-is w v w₂ v₂ c totals-second (λ i h q. (second i h (λ z. apart (sym e ∙ sym q ∙ ap X.party_of z))).1)
        go (no e) =
            balanced-other H X.parties (X.party_of u) (formula G H X k k' w₁ v₁) c e
            ∙ formula-is w v w₁ v₁ c totals-first (λ i h q. (first i h (λ z. e (sym q ∙ ap X.party_of z))).1)

    pub extraction : H.add (k' (totals G H X k k' w)) (sum H (λ i. v i (totals G H X k k' w)) X.leaves) ≡ H.zero
    unfolding verified
    extraction =
        sym (formula-sum w v)
        ∙ sym (sum-ext H (verified G H X k k' u w₁ v₁) (formula G H X k k' w v) X.parties verified-is)
        ∙ balanced-zero H X.parties (X.party_of u) (formula G H X k k' w₁ v₁) (X.within u inside)
