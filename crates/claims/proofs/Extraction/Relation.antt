-- Two openings whose strings of layer 4, and of layer 6 on an axis where the hidden leaves differ, agree: the relation holds of the sums
-- over all leaves.
--
-- relation-holds       ε(SQ − PF)(r) = c − ab at each position, of the parts of the summed share
-- witness-holds        the same, and Hx = y, of the sums over all leaves of the output
use Rattle.std.specs.Prelude.{◌≡◌, refl, ℕ, ◌<◌, length}
use Rattle.std.proofs.Math.Path.{sym, ap₂}
use Rattle.std.proofs.Common.{◌∙◌}
use Rattle.std.proofs.Math.Bool.{false}
use mathlib.Core.List.{List}
use Rattle.cube.specs.Group.{pair_path}
use Rattle.cube.specs.Sum.{sum}
use Rattle.cube.specs.Sum.Laws.{cond-ne}
use Rattle.cube.specs.Party.{replaced}
use Rattle.cube.specs.Opening as cube
use Rattle.cube.specs.Opening.Laws.{extraction}
use Rattle.tower.specs.Field.{Point}
use Rattle.parameters.specs.declared.Parameters.{Parameters}
use Rattle.layout.specs.Layout.{side, leaves, digit, y_length}
use Rattle.exchange.specs.Reading.{◌⊞◌, 𝟎}
use Rattle.exchange.specs.Values.{Key, alpha, beta, part_v}
use Rattle.exchange.proofs.Values.Relation.{Relation, total_v-relation}
use Rattle.exchange.proofs.Parties.Cube.{axis_partition, G, GG, leaf_w, leaf_v, constant_w, constant_v, v-total}
use Rattle.exchange.specs.Opening.{Exchange, opened_share, announced}
use Rattle.exchange.proofs.Opening.Cube.{opened_w, opened_v, opened-announced, opened-verified}
use Rattle.exchange.specs.Extractor.{output}
use Rattle.claims.specs.Words.{leaf_share, Witness}
use Rattle.claims.proofs.Extraction.Sums.{whole, whole-ext, sums-when, syndrome-holds}
use Rattle.claims.proofs.Extraction.Strings.{axis_string_of, axis-same}
use Rattle.claims.proofs.Extraction.Leaves.{Matched, SameLeaves, share_from, share-first, share-second, leaf_share-is}

-- ---- one position of one axis

module _ (hash : List ℕ → ℕ → List ℕ) (hash-length : (s : List ℕ) (n : ℕ) → length (hash s n) ≡ n) (p : Parameters) (key : Key)
    (e e' : Exchange) (matched : Matched p e e') (same-leaves : SameLeaves hash hash-length p e e' matched) where
  -- the shares of all leaves, and their sum
  abbrev shares : ℕ → List ℕ
  shares = share_from hash hash-length p e e' matched

  abbrev all : List ℕ
  all = whole p shares

  module _ (j : ℕ) (apart : digit p j e.leaf ≡ digit p j e'.leaf → ⊥)
      (same-axis : axis_string_of hash hash-length p e e' matched.same-prefix key e j ≡ axis_string_of hash hash-length p e e' matched.same-prefix key e' j)
      (l : ℕ) (position : l < p.t) where
    w : ℕ → Point × Point
    w = leaf_w p key e.message2 l shares

    v : ℕ → Point × Point → Point
    v = leaf_v p key e.message2 l shares

    k : Point × Point
    k = constant_w p key e.message2 l

    k' : Point × Point → Point
    k' = constant_v p key e.message2 l

    -- a leaf that an opening discloses announces there what its share says
    disclosed-leaf : (y : Exchange) → y.message2 ≡ e.message2 → (i : ℕ) → (i ≡ y.leaf → ⊥) → opened_share hash p y i ≡ shares i
        → (opened_w hash p y key l i ≡ w i) × (opened_v hash p y key l i ≡ v i)
    unfolding opened_w opened_v w v leaf_w leaf_v replaced
    disclosed-leaf y m i n s = (
      pair_path
          (cond-ne i y.leaf _ _ n ∙ ap₂ (λ (m2 s : List ℕ). alpha p key m2 false s l) m s)
          (cond-ne i y.leaf _ _ n ∙ ap₂ (λ (m2 s : List ℕ). beta p key m2 false s l) m s),
      ap₂ {C = Point × Point → Point} (λ (m2 s : List ℕ) (h : Point × Point). part_v p key m2 false s h.0 h.1 l) m s,
    )

    first : (i : ℕ) → i < leaves p → (i ≡ e.leaf → ⊥) → (opened_w hash p e key l i ≡ w i) × (opened_v hash p e key l i ≡ v i)
    first i h n = disclosed-leaf e refl i n (share-first hash hash-length p e e' matched i n)

    second : (i : ℕ) → i < leaves p → (i ≡ e'.leaf → ⊥) → (opened_w hash p e' key l i ≡ w i) × (opened_v hash p e' key l i ≡ v i)
    second i h n = disclosed-leaf e' (sym matched.same-message2) i n (share-second hash hash-length p e e' matched same-leaves i h n)

    hats : Point × Point
    hats = cube.totals GG G (axis_partition p j) k k' w

    sum-zero : k' hats ⊞ sum G (λ i. v i hats) (leaves p) ≡ 𝟎
    unfolding hats k k'
    sum-zero =
        extraction GG G (axis_partition p j) k k' e.leaf e'.leaf apart matched.inside
        (opened_w hash p e key l) (opened_w hash p e' key l) w (opened_v hash p e key l) (opened_v hash p e' key l) v first second
        (λ c h. sym (opened-announced hash p e key l matched.inside j c)
        ∙ pair_path (told c h).0 (told c h).1
        ∙ rw matched.same-message2 (opened-announced hash p e' key l matched.inside' j c))
        (λ c h. sym (opened-verified hash p e key l matched.inside j c h) ∙ (told c h).2
        ∙ rw matched.same-message2 (opened-verified hash p e' key l matched.inside' j c h))
      where
        told : (c : ℕ) → c < side p
            → ((announced hash p e key j).α c l ≡ (announced hash p e' key j).α c l) × ((announced hash p e key j).β c l ≡ (announced hash p e' key j).β c l)
            × ((announced hash p e key j).v c l ≡ (announced hash p e' key j).v c l)
        told c h = axis-same hash hash-length p e e' matched.same-prefix key j same-axis c l h position

    pub relation-holds : Relation p key e.message2 all l
    unfolding hats k k' w v
    relation-holds = total_v-relation p key e.message2 all l (v-total p key e.message2 l shares j ∙ sum-zero)

-- ---- the sums over all leaves of the output

module _ (hash : List ℕ → ℕ → List ℕ) (hash-length : (s : List ℕ) (n : ℕ) → length (hash s n) ≡ n) (p : Parameters) (key : Key)
    (short : p.k < p.m) (y-length : length key.y ≡ y_length p) (e e' : Exchange) (matched : Matched p e e')
    (same-leaves : SameLeaves hash hash-length p e e' matched) (j : ℕ) (apart : digit p j e.leaf ≡ digit p j e'.leaf → ⊥)
    (same-axis : axis_string_of hash hash-length p e e' matched.same-prefix key e j ≡ axis_string_of hash hash-length p e e' matched.same-prefix key e' j) where
  abbrev out_shares : ℕ → List ℕ
  out_shares = leaf_share hash p e.prefix (output hash p e e')

  pub witness-holds : Witness p key out_shares e.message2
  witness-holds = record {
    syndrome = syndrome-holds p key short y-length out_shares;
    relation = λ l h.
        sums-when p key short y-length out_shares e.message2 l
        (rw (whole-ext p out_shares _ (leaf_share-is hash hash-length p e e' matched))
        (relation-holds hash hash-length p key e e' matched same-leaves j apart same-axis l h));
  }
