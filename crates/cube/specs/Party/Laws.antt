-- The laws of the parties of one axis.
--
--   party-sum                 the sum over the parties is the sum over all leaves and the constant, on whatever axis
--   party-ext                 a party is the same for two families that agree on its leaves
--   disclosed-all             a party that does not hold the hidden leaf has all its leaves disclosed
--   disclosed-replaced        the disclosed leaves and the value given for the hidden one are the party of the replaced family
--   disclosed-sum             so the sum over the parties does not depend on the axis, even where no leaf has the hidden one's number
--   balanced-zero             the balanced family sums to zero
--   balanced-same             a family that sums to zero is balanced as it stands
--   balanced-other            nothing but the value at h is changed
--   balanced-ext              the value that stood at h does not count
--   party-pairs               a party of pairs goes part by part
use Rattle.std.specs.Prelude.{◌≡◌, Bool, ◌&&◌, ℕ, ◌<◌, eqb}
use Rattle.std.proofs.Math.Path.{refl, sym, ap, ap₂}
use Rattle.std.proofs.Common.{◌∙◌}
use Rattle.std.proofs.Math.Bool.{true, false, not, cond}
use Rattle.std.proofs.Math.Decide.{ℕ_discrete}
use Rattle.cube.specs.Group.{Group2, pairs}
use Rattle.cube.specs.Group.Laws.{zero-add, equal-of-sum}
use Rattle.cube.specs.Sum.{sum}
use Rattle.cube.specs.Sum.Laws.{eqb_comm, cond-eq, cond-ne, sum-ext, sum-add, sum-single, sum-partition, cond-pairs, sum-pairs}
use Rattle.cube.specs.Party.{Partition, replaced, balanced, member_sum, disclosed_sum, party}

module _ {A : Type 0} (G : Group2 A) where
  infixl 60 ◌+◌
  open G use {zero as 𝟘, add as ◌+◌}

  -- ---- a balanced family

  -- a family with x at h: what stands at h, and what stands elsewhere
  split : (h : ℕ) (x : A) (f : ℕ → A) (c : ℕ) → cond (eqb c h) x (f c) ≡ cond (eqb h c) x 𝟘 + cond (eqb c h) 𝟘 (f c)
  split h x f c = rw (eqb_comm h c) (go (eqb c h))
    where
      go : (t : Bool) → cond t x (f c) ≡ cond t x 𝟘 + cond t 𝟘 (f c)
      go true = sym (G.add-zero x)
      go false = sym (zero-add G (f c))

  sum-split : (N h : ℕ) (x : A) (f : ℕ → A) → h < N
      → sum G (λ c. cond (eqb c h) x (f c)) N ≡ x + sum G (λ c. cond (eqb c h) 𝟘 (f c)) N
  sum-split N h x f l =
      sum-ext G (λ c. cond (eqb c h) x (f c)) (λ c. cond (eqb h c) x 𝟘 + cond (eqb c h) 𝟘 (f c)) N (λ c k. split h x f c)
      ∙ sum-add G (λ c. cond (eqb h c) x 𝟘) (λ c. cond (eqb c h) 𝟘 (f c)) N
      ∙ ap (λ (y : A). y + sum G (λ c. cond (eqb c h) 𝟘 (f c)) N) (sum-single G (λ c. x) h N l)

  pub balanced-zero : (N h : ℕ) (f : ℕ → A) → h < N → sum G (balanced G N h f) N ≡ 𝟘
  unfolding balanced
  balanced-zero N h f l = sum-split N h (sum G (λ c. cond (eqb c h) 𝟘 (f c)) N) f l ∙ G.add-self _

  pub balanced-other : (N h : ℕ) (f : ℕ → A) (c : ℕ) → (c ≡ h → ⊥) → balanced G N h f c ≡ f c
  unfolding balanced
  balanced-other N h f c e = cond-ne c h _ (f c) e

  balanced-at : (N h : ℕ) (f : ℕ → A) (c : ℕ) → c ≡ h → balanced G N h f c ≡ sum G (λ c. cond (eqb c h) 𝟘 (f c)) N
  unfolding balanced
  balanced-at N h f c e = cond-eq c h _ (f c) e

  pub balanced-same : (N h : ℕ) (f : ℕ → A) → h < N → sum G f N ≡ 𝟘 → (c : ℕ) → balanced G N h f c ≡ f c
  balanced-same N h f l z c = go (ℕ_discrete c h)
    where
      same : (c : ℕ) → cond (eqb c h) (f h) (f c) ≡ f c
      same c = at (ℕ_discrete c h)
        where
          at : Dec (c ≡ h) → cond (eqb c h) (f h) (f c) ≡ f c
          at (yes e) = cond-eq c h (f h) (f c) e ∙ ap f (sym e)
          at (no e) = cond-ne c h (f h) (f c) e

      whole : f h + sum G (λ c. cond (eqb c h) 𝟘 (f c)) N ≡ 𝟘
      whole = sym (sum-split N h (f h) f l) ∙ sum-ext G (λ c. cond (eqb c h) (f h) (f c)) f N (λ c k. same c) ∙ z

      go : Dec (c ≡ h) → balanced G N h f c ≡ f c
      go (yes e) = balanced-at N h f c e ∙ equal-of-sum G (f h) _ whole ∙ ap f (sym e)
      go (no e) = balanced-other N h f c e

  pub balanced-ext : (N h : ℕ) (f g : ℕ → A) → ((c : ℕ) → c < N → (c ≡ h → ⊥) → f c ≡ g c)
      → (c : ℕ) → c < N → balanced G N h f c ≡ balanced G N h g c
  balanced-ext N h f g e c l = go (ℕ_discrete c h)
    where
      elsewhere : (d : ℕ) → d < N → cond (eqb d h) 𝟘 (f d) ≡ cond (eqb d h) 𝟘 (g d)
      elsewhere d m = at (ℕ_discrete d h)
        where
          at : Dec (d ≡ h) → cond (eqb d h) 𝟘 (f d) ≡ cond (eqb d h) 𝟘 (g d)
          at (yes q) = cond-eq d h 𝟘 (f d) q ∙ sym (cond-eq d h 𝟘 (g d) q)
          at (no q) = ap (cond (eqb d h) 𝟘) (e d m q)

      go : Dec (c ≡ h) → balanced G N h f c ≡ balanced G N h g c
      go (yes q) =
          balanced-at N h f c q
          ∙ sum-ext G (λ d. cond (eqb d h) 𝟘 (f d)) (λ d. cond (eqb d h) 𝟘 (g d)) N elsewhere
          ∙ sym (balanced-at N h g c q)
      go (no q) = balanced-other N h f c q ∙ e c l q ∙ sym (balanced-other N h g c q)

  module _ (X : Partition) where
    -- ---- parties

    pub party-sum : (k : A) (f : ℕ → A) → sum G (party G X k f) X.parties ≡ k + sum G f X.leaves
    unfolding party member_sum
    party-sum k f =
        sum-add G (λ c. cond (eqb c 0) k 𝟘) (member_sum G X f) X.parties
        ∙ ap₂ ◌+◌
        (sum-ext G (λ c. cond (eqb c 0) k 𝟘) (λ c. cond (eqb 0 c) k 𝟘) X.parties (λ c h. ap (λ (t : Bool). cond t k 𝟘) (eqb_comm c 0))
        ∙ sum-single G (λ c. k) 0 X.parties X.some)
        (sum-partition G X.party_of f X.parties X.leaves X.within)

    member-ext : (f g : ℕ → A) (c : ℕ) → ((i : ℕ) → i < X.leaves → X.party_of i ≡ c → f i ≡ g i) → member_sum G X f c ≡ member_sum G X g c
    unfolding member_sum
    member-ext f g c h =
        sum-ext G (λ i. cond (eqb (X.party_of i) c) (f i) 𝟘) (λ i. cond (eqb (X.party_of i) c) (g i) 𝟘) X.leaves
        (λ i l. go i l (ℕ_discrete (X.party_of i) c))
      where
        go : (i : ℕ) → i < X.leaves → Dec (X.party_of i ≡ c)
            → cond (eqb (X.party_of i) c) (f i) 𝟘 ≡ cond (eqb (X.party_of i) c) (g i) 𝟘
        go i l (yes e) = ap (λ (x : A). cond (eqb (X.party_of i) c) x 𝟘) (h i l e)
        go i l (no e) = cond-ne (X.party_of i) c (f i) 𝟘 e ∙ sym (cond-ne (X.party_of i) c (g i) 𝟘 e)

    pub party-ext : (k : A) (f g : ℕ → A) (c : ℕ) → ((i : ℕ) → i < X.leaves → X.party_of i ≡ c → f i ≡ g i)
        → party G X k f c ≡ party G X k g c
    unfolding party
    party-ext k f g c h = ap (λ (x : A). cond (eqb c 0) k 𝟘 + x) (member-ext f g c h)

    -- ---- the hidden leaf

    module _ (u : ℕ) (f : ℕ → A) where
      disclosed-member : (c : ℕ) → disclosed_sum G X u f c ≡ member_sum G X (replaced u f 𝟘) c
      unfolding disclosed_sum member_sum replaced
      disclosed-member c =
          sum-ext G (λ i. cond (eqb (X.party_of i) c && not (eqb i u)) (f i) 𝟘) _ X.leaves (λ i l. go (eqb (X.party_of i) c) (eqb i u) (f i))
        where
          go : (a b : Bool) (x : A) → cond (a && not b) x 𝟘 ≡ cond a (cond b 𝟘 x) 𝟘
          go true true x = refl
          go true false x = refl
          go false b x = refl

      pub disclosed-all : (c : ℕ) → (c ≡ X.party_of u → ⊥) → disclosed_sum G X u f c ≡ member_sum G X f c
      unfolding replaced
      disclosed-all c e = disclosed-member c ∙ member-ext (replaced u f 𝟘) f c (λ i l q. cond-ne i u 𝟘 (f i) (λ z. e (sym q ∙ ap X.party_of z)))

      pub disclosed-replaced : (c : ℕ) (x : A) → u < X.leaves
          → disclosed_sum G X u f c + cond (eqb c (X.party_of u)) x 𝟘 ≡ member_sum G X (replaced u f x) c
      unfolding member_sum replaced
      disclosed-replaced c x l =
          ap₂ ◌+◌ (disclosed-member c)
          (ap (λ (t : Bool). cond t x 𝟘) (eqb_comm c (X.party_of u)) ∙ sym (sum-single G (λ i. cond (eqb (X.party_of i) c) x 𝟘) u X.leaves l))
          ∙ sym (sum-add G (λ i. cond (eqb (X.party_of i) c) (cond (eqb i u) 𝟘 (f i)) 𝟘) (λ i. cond (eqb u i) (cond (eqb (X.party_of i) c) x 𝟘) 𝟘) X.leaves)
          ∙ sum-ext G _ (λ i. cond (eqb (X.party_of i) c) (cond (eqb i u) x (f i)) 𝟘) X.leaves
          (λ i h. rw (eqb_comm u i) (go (eqb (X.party_of i) c) (eqb i u) (f i)))
        where
          go : (a b : Bool) (y : A) → cond a (cond b 𝟘 y) 𝟘 + cond b (cond a x 𝟘) 𝟘 ≡ cond a (cond b x y) 𝟘
          go true true y = zero-add G x
          go true false y = G.add-zero y
          go false true y = G.add-zero 𝟘
          go false false y = G.add-zero 𝟘

      pub disclosed-sum : (k x : A) → X.party_of u < X.parties
          → sum G (λ c. (cond (eqb c 0) k 𝟘 + disclosed_sum G X u f c) + cond (eqb c (X.party_of u)) x 𝟘) X.parties
          ≡ (k + sum G (replaced u f 𝟘) X.leaves) + x
      unfolding party
      disclosed-sum k x l =
          sum-ext G _ (λ c. party G X k (replaced u f 𝟘) c + cond (eqb (X.party_of u) c) x 𝟘) X.parties
          (λ c h. ap₂ (λ (y : A) (t : Bool). (cond (eqb c 0) k 𝟘 + y) + cond t x 𝟘) (disclosed-member c) (eqb_comm c (X.party_of u)))
          ∙ sum-add G (party G X k (replaced u f 𝟘)) _ X.parties
          ∙ ap₂ ◌+◌ (party-sum k (replaced u f 𝟘)) (sum-single G (λ c. x) (X.party_of u) X.parties l)

-- ---- pairs

module _ {A B : Type 0} (G : Group2 A) (H : Group2 B) (X : Partition) where
  pub party-pairs : (k : A × B) (f : ℕ → A × B) (c : ℕ)
      → party (pairs G H) X k f c ≡ (party G X k.0 (λ i. (f i).0) c, party H X k.1 (λ i. (f i).1) c)
  unfolding party member_sum
  party-pairs k f c =
      ap₂ (λ (x y : A × B). (pairs G H).add x y) (cond-pairs G H (eqb c 0) k)
      (sum-ext (pairs G H) _ (λ i. (cond (eqb (X.party_of i) c) (f i).0 G.zero, cond (eqb (X.party_of i) c) (f i).1 H.zero))
      X.leaves (λ i l. cond-pairs G H (eqb (X.party_of i) c) (f i))
      ∙ sum-pairs G H _ X.leaves)
