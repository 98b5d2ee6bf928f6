-- A free list of openings of one run, under one prefix and h, that meets m + w different points, each with two unequal multipliers: x is the same in
-- all its pairs and light.
--
-- shares_of y y'         the shares that follow from the extractor's part for a pair
-- relation-met          the relation of a pair that meets r with ε, over the sums of any one pair of the list
-- Met l r               pairs of the list meet r at position l with two unequal multipliers
-- same-x, bytes-x, light-x   x is the same in all pairs; it is bytes, where the hash gives bytes, and messages 5 and y are; the bound
use Rattle.std.specs.Prelude.{◌≡◌, true, ℕ, ◌+◌, ◌-◌, ◌≤◌, ◌<◌, length}
use Rattle.std.proofs.Common.{sym, ap, ◌∙◌, subst, arith}
use mathlib.Core.List.{List}
use Rattle.std.proofs.Math.Decide.{ℕ_discrete}
use Rattle.algebra.specs.Each.{Each, Distinct}
use Rattle.algebra.specs.Each.Laws.{each_map}
use Rattle.tower.specs.Field.{Point}
use Rattle.parameters.specs.declared.Parameters.{Parameters}
use Rattle.parameters.specs.Limits.{Within}
use Rattle.polynomial.specs.Bytes.{Bytes}
use Rattle.relation.specs.Key.{weight_of}
use Rattle.layout.specs.Layout.{leaves, values_length, at_q, siblings_length, y_length}
use Rattle.exchange.proofs.Sequences.Laws.{bytes_drop}
use Rattle.exchange.specs.Reading.{bytes_at, ◌⊞◌, ◌⊠◌}
use Rattle.exchange.proofs.Reading.Laws.{length-bytes_at}
use Rattle.exchange.proofs.Leaf.Laws.{bytes-share}
use Rattle.exchange.specs.Values.{Key, x_of, p_of, F, point_of, multiplier_of}
use Rattle.exchange.proofs.Values.Relation.{Relation}
use Rattle.exchange.proofs.Values.Laws.{length-p_of}
use Rattle.exchange.specs.Opening.{Exchange, aux_of}
use Rattle.exchange.specs.Extractor.{output}
use Rattle.claims.specs.Words.{leaf_state, aux_state, leaf_share, summed, States, x_sum, q_sum, p_sum, a_sum, b_sum, c_sum}
use Rattle.claims.proofs.Extraction.Sums.{length-summed, length-x_sum, bytes-x_sum, whole-ext, sums-when, sums-then, x_sum-is}
use Rattle.claims.specs.Weight.{low_bytes, Free}
use Rattle.claims.proofs.Weight.Light.{Twice, defect, light-low}
use Rattle.claims.proofs.Weight.Common.{pair-states, Paired, one-share}

module _ (hash : List ℕ → ℕ → List ℕ) (hash-length : (s : List ℕ) (n : ℕ) → length (hash s n) ≡ n) (p : Parameters) (key : Key)
    (ys : List Exchange) (free : Free hash p key ys) (prefix h : List ℕ) (within : Within p) (y-length : length key.y ≡ y_length p) where
  abbrev InList : Exchange → Exchange → Type 0
  InList = Paired hash hash-length p key ys free prefix h

  abbrev pub shares_of : Exchange → Exchange → ℕ → List ℕ
  shares_of y y' = leaf_share hash p y.prefix (output hash p y y')

  states-of : {y y' : Exchange} → InList y y' → States hash p key y y' (output hash p y y')
  states-of q = pair-states hash hash-length p key ys free q.one q.other q.alike within.k-most y-length

  same-share : {y y' z z' : Exchange} → InList y y' → InList z z' → (j : ℕ) → j < leaves p → shares_of y y' j ≡ shares_of z z' j
  same-share = one-share hash hash-length p key ys free prefix h within.k-most y-length

  pub same-x : {y y' z z' : Exchange} → InList y y' → InList z z' → x_sum p key (shares_of y y') ≡ x_sum p key (shares_of z z')
  same-x {y} {y'} {z} {z'} q q' =
      x_sum-is p key within.k-most y-length (shares_of y y')
      ∙ ap (x_of p key true) (whole-ext p (shares_of y y') (shares_of z z') (same-share q q'))
      ∙ sym (x_sum-is p key within.k-most y-length (shares_of z z'))

  -- two pairs that meet r at position l
  pub record Met (l : ℕ) (r : Point) : Type 0 where
    pub y : Exchange
    pub y' : Exchange
    pub z : Exchange
    pub z' : Exchange
    pub pair : InList y y'
    pub pair' : InList z z'
    pub point : point_of p y.message2 l ≡ r
    pub point' : point_of p z.message2 l ≡ r
    pub unequal : multiplier_of p y.message2 l ≡ multiplier_of p z.message2 l → ⊥

  -- ---- one pair's sums serve for all

  module _ {y₀ y₀' : Exchange} (q₀ : InList y₀ y₀') where
    abbrev shares : ℕ → List ℕ
    shares = shares_of y₀ y₀'

    abbrev x₀ : List ℕ
    x₀ = x_sum p key shares

    -- the low coefficients of the summed Q
    low_q : List ℕ
    low_q = summed p.w (λ i. bytes_at (shares i) (at_q p) p.w) (leaves p)

    length-x₀ : length x₀ ≡ p.m
    length-x₀ = length-x_sum p key within.k-most y-length shares

    length-low_q : length low_q ≡ p.w
    unfolding low_q
    length-low_q = length-summed p.w (λ i. bytes_at (shares i) (at_q p) p.w) (leaves p) (λ i h. length-bytes_at (shares i) (at_q p) p.w)

    length-p_sum : length (p_sum p key shares) ≡ p.w
    unfolding p_sum
    length-p_sum = length-summed p.w (λ i. p_of p (shares i)) (leaves p) (λ i h. length-p_of p (shares i))

    short : p.m < 256
    short = let h = within.m-most in omega arith

    pub bytes-x : ((s : List ℕ) (n : ℕ) → Bytes (hash s n)) → Bytes key.y → Bytes y₀.message5 → Bytes y₀'.message5 → Bytes x₀
    bytes-x hash-bytes y-bytes sent sent' =
        unfold leaf_share in
        bytes-x_sum p key within.k-most y-length shares
        (λ i h. bytes-share hash hash-bytes p y₀.prefix i (leaf_state (output hash p y₀ y₀') i) (aux_state p (output hash p y₀ y₀'))
        (go (ℕ_discrete (leaves p - 1) y₀.leaf))) y-bytes
      where
        bytes-aux : (y : Exchange) → Bytes y.message5 → Bytes (aux_of p y)
        bytes-aux y h = unfold aux_of in bytes_drop (siblings_length p + 32 + values_length p) y.message5 h

        -- aux from an opening that discloses leaf n−1
        go : Dec (leaves p - 1 ≡ y₀.leaf) → Bytes (aux_state p (output hash p y₀ y₀'))
        go (no n) = rw ((states-of q₀).aux n) (bytes-aux y₀ sent)
        go (yes z) = rw ((states-of q₀).aux' (λ z'. q₀.alike.matched.apart (sym z ∙ z'))) (bytes-aux y₀' sent')

    abbrev defect₀ : Point → Point
    defect₀ = defect p.m p.w x₀ low_q (p_sum p key shares) length-x₀ short length-low_q length-p_sum

    abbrev z₀ : ℕ → Point
    z₀ l = c_sum p key shares l ⊞ a_sum p key shares l ⊠ b_sum p key shares l

    relation-met : {y y' : Exchange} → InList y y' → (l : ℕ) → l < p.t → (r : Point) → point_of p y.message2 l ≡ r
        → multiplier_of p y.message2 l ⊠ defect₀ r ≡ z₀ l
    relation-met {y} {y'} q l h r met =
        let given = (states-of q).witness.relation l h in
        unfold defect low_q q_sum F in
        rw (← met)
        (sums-when p key within.k-most y-length shares y.message2 l
        (subst (λ (s : List ℕ). Relation p key y.message2 s l) (whole-ext p (shares_of y y') shares (same-share q q₀))
        (sums-then p key within.k-most y-length (shares_of y y') y.message2 l given)))

    -- ---- the bound

    pub light-x : (l : ℕ) → l < p.t → (rs : List Point) → Distinct rs → p.m + p.w ≤ length rs → Each (Met l) rs → weight_of (low_bytes x₀) ≤ p.w
    light-x l position rs different enough met =
        light-low p.m p.w x₀ low_q (p_sum p key shares) length-x₀ short length-low_q length-p_sum (z₀ l) rs different enough (each_map twice rs met)
      where
        twice : (r : Point) → Met l r → Twice (defect₀ r) (z₀ l)
        twice r m = record {
          ε = multiplier_of p m.y.message2 l;
          ε' = multiplier_of p m.z.message2 l;
          unequal = m.unequal;
          product = relation-met m.pair l position r m.point;
          product' = relation-met m.pair' l position r m.point';
        }
