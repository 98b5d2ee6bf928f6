-- What the code makes of an axis is what its parties announce.
--
-- all-parties          what is additive, with the constants of the first party, sums over the parties to that of all leaves
-- hat_alpha, hat_beta    α̂ and β̂: those of all disclosed leaves with the constants, and the hidden leaf's
-- hiding_of             what the party that holds the hidden leaf adds to its row
-- row_made             the row of a party
-- last_row             that of the last party, by difference
use Rattle.std.specs.Prelude.{◌≡◌, Bool, false, eqb, ltb}
use Rattle.std.proofs.Math.Path.{refl, sym, ap, ap₂}
use Rattle.std.proofs.Common.{◌∙◌, arith, ne_eqb, lt-ltb, le-ltb}
use Rattle.std.proofs.Math.Bool.{true, cond}
use mathlib.Core.List.{List, ◌++◌}
use Prim.Native.Nat.{ℕ, zero, suc, ◌<◌}
use Rattle.std.proofs.Math.Decide.{dec_lt, ℕ_discrete}
use Rattle.lists.specs.Sum.{xor_list}
use Rattle.cube.specs.Group.{Group2, additive}
use Rattle.cube.specs.Group.Laws.{group}
use Rattle.cube.specs.Sum.{sum}
use Rattle.cube.specs.Sum.Laws.{eqb_comm, cond-eq, cond-ne, sum-ext, sum-zero, sum-add, sum-single}
use Rattle.tower.specs.Field.{Point}
use Rattle.parameters.specs.declared.Parameters.{Parameters}
use Rattle.layout.specs.Layout.{side, others}
use Rattle.layout.specs.Layout.Laws.{side-others}
use Rattle.exchange.specs.Reading.{points, encode, ◌⊞◌, 𝟎}
use Rattle.exchange.proofs.Reading.Laws.{encode-ext}
use Rattle.exchange.specs.Values.{Key, alpha, beta, part_v}
use Rattle.exchange.specs.Parties.{sums, announced_bytes}
use Rattle.exchange.specs.Announcing.{Hidden, party_alpha, party_beta, formula_v, party_v, announced_by}
use Rattle.parties.specs.Sums.{less}
use Rattle.axes.proofs.Laws.Difference.{share_row, alpha-difference, beta-difference, part_v-difference, row-difference}
use Rattle.axes.proofs.Laws.Row.{hide-made}

-- ---- sums in any group

module _ {A : Type 0} (G : Group2 A) where
  infixl 60 ◌+G◌
  open G use {zero as 𝟘, add as ◌+G◌}

  meet : (s x y : A) → (s +G x) +G (y +G x) ≡ s +G y
  meet s x y = simp (group, G)

  apart : (s x y : A) → s +G x ≡ y → s ≡ x +G y
  apart s x y e = from s x ∙ ap (λ (z : A). x +G z) e
    where
      from : (s x : A) → s ≡ x +G (s +G x)
      from s x = simp (group, G)

  one_of : (x : A) (h n : ℕ) → sum G (λ c. cond (eqb c h) x 𝟘) n ≡ cond (ltb h n) x 𝟘
  one_of x h n = go (dec_lt h n)
    where
      go : Dec (h < n) → sum G (λ c. cond (eqb c h) x 𝟘) n ≡ cond (ltb h n) x 𝟘
      go (yes l) =
          sum-ext G _ _ n (λ c k. ap (λ (b : Bool). cond b x 𝟘) (eqb_comm c h)) ∙ sum-single G (λ c. x) h n l
          ∙ sym (ap (λ (b : Bool). cond b x 𝟘) (lt-ltb h n l))
      go (no l) =
          sum-zero G _ n (λ c k. cond-ne c h x 𝟘 (λ e. l (omega arith))) ∙ sym (ap (λ (b : Bool). cond b x 𝟘) (le-ltb h n (omega arith)))

  -- all but one
  without : (f : ℕ → A) (h n : ℕ) → h < n → sum G (λ c. cond (eqb c h) 𝟘 (f c)) n ≡ f h +G sum G f n
  without f h n l =
      apart _ (f h) (sum G f n)
      (ap (λ (z : A). sum G (λ c. cond (eqb c h) 𝟘 (f c)) n +G z) (sym (sum-ext G _ _ n (λ c k. ap (λ (b : Bool). cond b (f c) 𝟘) (eqb_comm c h)) ∙ sum-single G f h n l))
      ∙ sym (sum-add G _ _ n) ∙ sum-ext G _ _ n (λ c k. split (eqb c h) (f c)))
    where
      split : (b : Bool) (x : A) → cond b 𝟘 x +G cond b x 𝟘 ≡ x
      split true x = simp (group, G)
      split false x = simp (group, G)

-- a party after the first one
later : (n : ℕ) → eqb (suc n) 0 ≡ false
later n = ne_eqb (suc n) 0 (λ e. omega arith)

-- ---- the parties: s c for all but the last one, whose leaves are what these leave of `all`

module _ (p : Parameters) (key : Key) (m2 : List ℕ) (s : ℕ → List ℕ) (all : List ℕ) (last : s (others p) ≡ less all s (others p)) where
  module _ (f : Bool → List ℕ → Point) (difference : (a b : List ℕ) (first : Bool) → f first a ⊞ f first b ≡ f false (xor_list a b)) where
    left : (n : ℕ) → sums (λ c. f (eqb c 0) (s c)) n ⊞ f (eqb n 0) (less all s n) ≡ f true all
    unfolding sum less
    left zero = zero-add (f true all)
      where
        zero-add : (x : Point) → 𝟎 ⊞ x ≡ x
        zero-add x = points.base.add_comm 𝟎 x ∙ points.base.add-zero x
    left (suc n) =
        ap (λ (b : Bool). sums (λ c. f (eqb c 0) (s c)) n ⊞ f (eqb n 0) (s n) ⊞ f b (xor_list (less all s n) (s n))) (later n)
        ∙ ap (λ (z : Point). sums (λ c. f (eqb c 0) (s c)) n ⊞ f (eqb n 0) (s n) ⊞ z) (sym (difference (less all s n) (s n) (eqb n 0)))
        ∙ meet (additive points.base) _ _ _ ∙ left n

    pub all-parties : sums (λ c. f (eqb c 0) (s c)) (side p) ≡ f true all
    unfolding sum
    all-parties =
        ap (sums (λ c. f (eqb c 0) (s c))) (side-others p)
        ∙ ap (λ (z : List ℕ). sums (λ c. f (eqb c 0) (s c)) (others p) ⊞ f (eqb (others p) 0) z) last ∙ left (others p)

  module _ (hidden : Hidden) where
    unfoldable pub hat_alpha : ℕ → Point
    hat_alpha l = alpha p key m2 true all l ⊞ cond (ltb hidden.party (side p)) (hidden.α l) 𝟎

    unfoldable pub hat_beta : ℕ → Point
    hat_beta l = beta p key m2 true all l ⊞ cond (ltb hidden.party (side p)) (hidden.β l) 𝟎

    hats : (f : Bool → List ℕ → Point) (x : Point) → ((a b : List ℕ) (first : Bool) → f first a ⊞ f first b ≡ f false (xor_list a b))
        → sums (λ c. f (eqb c 0) (s c) ⊞ cond (eqb c hidden.party) x 𝟎) (side p) ≡ f true all ⊞ cond (ltb hidden.party (side p)) x 𝟎
    hats f x d =
        sum-add (additive points.base) _ _ (side p)
        ∙ ap₂ ◌⊞◌ (all-parties f d) (one_of (additive points.base) x hidden.party (side p))

    formula-is : (c l : ℕ) → formula_v p key m2 s hidden c l ≡ part_v p key m2 (eqb c 0) (s c) (hat_alpha l) (hat_beta l) l
    unfolding formula_v party_alpha party_beta hat_alpha hat_beta
    formula-is c l =
        ap₂ (λ (x y : Point). part_v p key m2 (eqb c 0) (s c) x y l)
        (hats (λ b z. alpha p key m2 b z l) (hidden.α l) (λ a b. alpha-difference p key m2 a b l))
        (hats (λ b z. beta p key m2 b z l) (hidden.β l) (λ a b. beta-difference p key m2 a b l))

    unfoldable pub total_v : ℕ → Point
    total_v l = part_v p key m2 true all (hat_alpha l) (hat_beta l) l

    formulas : (l : ℕ) → sums (λ c. formula_v p key m2 s hidden c l) (side p) ≡ total_v l
    unfolding total_v
    formulas l =
        sum-ext (additive points.base) _ _ (side p) (λ c h. formula-is c l)
        ∙ all-parties (λ b z. part_v p key m2 b z (hat_alpha l) (hat_beta l) l) (λ a b. part_v-difference p key m2 a b (hat_alpha l) (hat_beta l) l)

    -- the row of party c by the formula
    unfoldable pub formula_row : ℕ → List ℕ
    formula_row c = share_row p key m2 (eqb c 0) (s c) hat_alpha hat_beta

    abbrev pub hiding_of : List ℕ
    hiding_of = encode hidden.α p.t ++ (encode hidden.β p.t ++ encode total_v p.t)

    pub row_made : (c : ℕ) → c < side p
        → announced_bytes p (announced_by p key m2 s hidden) c ≡ cond (eqb c hidden.party) (xor_list (formula_row c) hiding_of) (formula_row c)
    unfolding announced_bytes party_alpha party_beta party_v formula_row share_row
    row_made c h = go (ℕ_discrete c hidden.party)
      where
        held : c ≡ hidden.party → (l : ℕ)
            → sums (λ c. cond (eqb c hidden.party) 𝟎 (formula_v p key m2 s hidden c l)) (side p) ≡ part_v p key m2 (eqb c 0) (s c) (hat_alpha l) (hat_beta l) l ⊞ total_v l
        held q l =
            without (additive points.base) (λ c. formula_v p key m2 s hidden c l) hidden.party (side p) (omega arith)
            ∙ ap₂ ◌⊞◌ (ap (λ (z : ℕ). formula_v p key m2 s hidden z l) (sym q) ∙ formula-is c l) (formulas l)

        go : Dec (c ≡ hidden.party)
            → announced_bytes p (announced_by p key m2 s hidden) c ≡ cond (eqb c hidden.party) (xor_list (formula_row c) hiding_of) (formula_row c)
        go (yes q) =
            ap₂ ◌++◌ (encode-ext _ _ p.t (λ l k. ap (λ (z : Point). alpha p key m2 (eqb c 0) (s c) l ⊞ z) (cond-eq c hidden.party _ _ q)))
            (ap₂ ◌++◌ (encode-ext _ _ p.t (λ l k. ap (λ (z : Point). beta p key m2 (eqb c 0) (s c) l ⊞ z) (cond-eq c hidden.party _ _ q)))
            (encode-ext _ _ p.t (λ l k. cond-eq c hidden.party _ _ q ∙ held q l)))
            ∙ sym (hide-made p.t (alpha p key m2 (eqb c 0) (s c)) (beta p key m2 (eqb c 0) (s c)) (λ l. part_v p key m2 (eqb c 0) (s c) (hat_alpha l) (hat_beta l) l)
            hidden.α hidden.β total_v)
            ∙ sym (cond-eq c hidden.party _ _ q)
        go (no n) =
            ap₂ ◌++◌ (encode-ext _ _ p.t (λ l k. ap (λ (z : Point). alpha p key m2 (eqb c 0) (s c) l ⊞ z) (cond-ne c hidden.party _ _ n) ∙ points.base.add-zero _))
            (ap₂ ◌++◌ (encode-ext _ _ p.t (λ l k. ap (λ (z : Point). beta p key m2 (eqb c 0) (s c) l ⊞ z) (cond-ne c hidden.party _ _ n) ∙ points.base.add-zero _))
            (encode-ext _ _ p.t (λ l k. cond-ne c hidden.party _ _ n ∙ formula-is c l)))
            ∙ sym (cond-ne c hidden.party _ _ n)

    -- the rows of the parties taken from that of all leaves
    rows_left : (r : ℕ → List ℕ) (n : ℕ) → ((c : ℕ) → c < n → r c ≡ formula_row c)
        → less (share_row p key m2 true all hat_alpha hat_beta) r n ≡ share_row p key m2 (eqb n 0) (less all s n) hat_alpha hat_beta
    unfolding less formula_row
    rows_left r zero e = refl
    rows_left r (suc n) e =
        ap₂ xor_list (rows_left r n (λ c l. e c (omega arith))) (e n (omega arith)) ∙ row-difference p key m2 (less all s n) (s n) hat_alpha hat_beta (eqb n 0)
        ∙ sym (ap (λ (b : Bool). share_row p key m2 b (xor_list (less all s n) (s n)) hat_alpha hat_beta) (later n))

    pub last_row : (r : ℕ → List ℕ) → ((c : ℕ) → c < others p → r c ≡ formula_row c)
        → less (share_row p key m2 true all hat_alpha hat_beta) r (others p) ≡ formula_row (others p)
    unfolding formula_row
    last_row r e = rows_left r (others p) e ∙ ap (λ (z : List ℕ). share_row p key m2 (eqb (others p) 0) z hat_alpha hat_beta) (sym last)
