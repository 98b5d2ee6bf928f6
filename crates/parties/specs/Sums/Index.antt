-- The sums and their indexes.
--
-- At p q, index_at        an index but D is that of a party's sum, not the last one's
-- axis-index, party-index the axis and the party at the index of a party's sum
-- index-other             which is not D
-- in-total, in-index      the leaves of the sum at index D, and at the index of a party's sum
use Rattle.std.specs.Prelude.{◌≡◌, Bool, true, ◌||◌, cond, ℕ, zero, suc, ◌+◌, ◌-◌, ◌*◌, ◌/◌, ◌%◌, ◌≤◌, ◌<◌, eqb}
use Rattle.std.proofs.Math.Path.{refl, ap, ap₂}
use Rattle.std.proofs.Common.{◌∙◌, zero-mul, mul-le-mul_right, mod-lt, div-add-mod', div-lt_iff_lt-mul, arith, eq-eqb, ne_eqb, lt-ltb, le-ltb}
use Rattle.std.proofs.Math.Decide.{dec_lt}
use Rattle.std.proofs.Math.Arith.{digits_div, digits_mod}
use Rattle.parameters.specs.declared.Parameters.{Parameters}
use Rattle.layout.specs.Layout.{others, sum_count, sum_index}
use Rattle.layout.specs.Layout.Laws.{total-lt}
use Rattle.exchange.specs.Parties.{party_of}
use Rattle.parties.specs.Sums.{rank, axis_at, party_at, in_sum}

pub record At (p : Parameters) (q : ℕ) : Type 0 where
  pub axis : axis_at p q < p.axes
  pub party : party_at p q < others p
  pub index : sum_index p (axis_at p q) (party_at p q) ≡ q

module _ (p : Parameters) where
  rank_less : (q : ℕ) → q < p.axes → rank p q ≡ q
  unfolding rank
  rank_less q h = rw (lt-ltb q p.axes h) (omega arith)

  rank-more : (q : ℕ) → p.axes < q → rank p q ≡ q - 1
  unfolding rank
  rank-more q h = rw (le-ltb q p.axes (omega arith)) refl

  behind : (c j : ℕ) → sum_index p j (suc c) ≡ suc c * p.axes + j + 1
  behind c j = rw (ne_eqb (suc c) 0 (λ e. omega arith)) refl

  rank-index : (j c : ℕ) → j < p.axes → rank p (sum_index p j c) ≡ c * p.axes + j
  rank-index j zero h =
      let z = zero-mul p.axes in
      let e : sum_index p j 0 ≡ j = omega arith in
      ap (rank p) e ∙ rank_less j h ∙ omega arith
  rank-index j (suc c) h =
      let o : 1 * p.axes ≤ suc c * p.axes = mul-le-mul_right p.axes (omega arith) in
      ap (rank p) (behind c j) ∙ rank-more (suc c * p.axes + j + 1) (omega arith) ∙ omega arith

  pub axis-index : (j c : ℕ) → j < p.axes → axis_at p (sum_index p j c) ≡ j
  axis-index j c h = ap (λ (n : ℕ). n % p.axes) (rank-index j c h) ∙ digits_mod c h

  pub party-index : (j c : ℕ) → j < p.axes → party_at p (sum_index p j c) ≡ c
  party-index j c h = ap (λ (n : ℕ). n / p.axes) (rank-index j c h) ∙ digits_div c h

  pub index-other : (j c : ℕ) → j < p.axes → sum_index p j c ≡ p.axes → ⊥
  index-other j zero h e = let z = zero-mul p.axes in omega arith
  index-other j (suc c) h e =
      let o : 1 * p.axes ≤ suc c * p.axes = mul-le-mul_right p.axes (omega arith) in omega (arith, behind c j)

  pub index_at : (q : ℕ) → q < sum_count p → (q ≡ p.axes → ⊥) → At p q
  index_at q h other = go (dec_lt q p.axes)
    where
      whole : party_at p q * p.axes + axis_at p q ≡ rank p q
      whole = div-add-mod' (rank p q) p.axes

      made : 0 < p.axes → rank p q < others p * p.axes → cond (eqb (party_at p q) 0) 0 1 + rank p q ≡ q → At p q
      made pos r e = record {
        axis = mod-lt (rank p q) pos;
        party = (div-lt_iff_lt-mul {k = p.axes} pos).1 r;
        index = omega (arith, whole);
      }

      go : Dec (q < p.axes) → At p q
      go (yes l) =
          let r = rank_less q l in
          let z : party_at p q < 1 = (div-lt_iff_lt-mul {k = p.axes} {x = rank p q} {y = 1} (omega arith)).1 (omega arith) in
          made (omega arith) (omega (arith, total-lt p)) (rw (eq-eqb (party_at p q) 0 (omega arith)) (omega arith))
      go (no l) =
          let r = rank-more q (omega arith) in
          let pos : 0 < p.axes = positive p.axes refl in
          let z : party_at p q ≡ 0 → ⊥ = λ e. let k : rank p q < 1 * p.axes = (div-lt_iff_lt-mul {k = p.axes} {x = rank p q} {y = 1} pos).0 (omega arith) in omega arith in
          made pos (omega arith) (rw (ne_eqb (party_at p q) 0 z) (omega arith))
        where
          positive : (d : ℕ) → p.axes ≡ d → 0 < p.axes
          positive zero e = let z : others p * p.axes ≡ 0 = ap (◌*◌ (others p)) e ∙ omega arith in absurd (omega arith)
          positive (suc d) e = omega arith

  pub in-total : (i : ℕ) → in_sum p p.axes i ≡ true
  unfolding in_sum
  in-total i = ap (λ (b : Bool). b || party_of p (axis_at p p.axes) (party_at p p.axes) i) (eq-eqb p.axes p.axes refl)

  pub in-index : (j c i : ℕ) → j < p.axes → in_sum p (sum_index p j c) i ≡ party_of p j c i
  unfolding in_sum
  in-index j c i h =
      ap (λ (b : Bool). b || party_of p (axis_at p (sum_index p j c)) (party_at p (sum_index p j c)) i) (ne_eqb (sum_index p j c) p.axes (index-other j c h))
      ∙ ap₂ (λ (j c : ℕ). party_of p j c i) (axis-index j c h) (party-index j c h)
