-- What the code makes of all axes is what their parties announce.
--
-- points-of                  bytes are the points that are read from them
-- hidden-some                a party holds the hidden leaf exactly where one is hidden
-- axis-made                  an axis
-- rows_made                  all axes
use Rattle.std.specs.Prelude.{◌≡◌, refl, Bool, ℕ, zero, suc, ◌+◌, ◌*◌, ◌≤◌, ◌<◌, eqb, length, get_or, take}
use Rattle.std.proofs.Math.Path.{sym, ap, ap₂}
use Rattle.std.proofs.Common.{◌∙◌, zero-mul, mul-le-mul_right, arith, ne_eqb, lt-ltb, le-ltb, take-append-drop, length-drop, take_all}
use Rattle.std.proofs.Math.Bool.{true, false, cond}
use mathlib.Core.List.{List, ◌++◌, append_assoc}
use Rattle.std.proofs.Math.Decide.{dec_lt}
use Rattle.std.proofs.Math.Dec.{ltb}
use Rattle.std.proofs.Math.ListN.{drop}
use Rattle.lists.specs.Part.{part}
use Rattle.lists.specs.Sum.{xor_list}
use Rattle.tower.specs.Field.{Point, bytes_of}
use Rattle.tower.proofs.Field.Laws.{bytes_of-point}
use Rattle.parameters.specs.declared.Parameters.{Parameters}
use Rattle.layout.specs.Layout.{side, others, sum_index, leaves, digit, factor_length, values_length, at_v}
use Rattle.layout.specs.Layout.Laws.{digit_lt, side-others, index-lt}
use Rattle.exchange.specs.Sequences.{joined}
use Rattle.exchange.proofs.Sequences.Laws.{joined-ext}
use Rattle.exchange.specs.Reading.{points, bytes_at, point_at, encode, ◌⊞◌}
use Rattle.exchange.proofs.Reading.Laws.{bytes_at-part, encode-ext}
use Rattle.exchange.specs.Values.{Key, alpha, beta}
use Rattle.values.specs.Announced.{announced_of}
use Rattle.values.specs.Filled.{filled-block}
use Rattle.coefficients.specs.Shares.{share_of}
use Rattle.values.specs.Shares.{block_of}
use Rattle.parties.specs.Sums.{less, with_last}
use Rattle.parties.specs.Totals.{less-ext}
use Rattle.axes.proofs.Laws.Difference.{encode-xor, front-xor, share_row}
use Rattle.axes.specs.Row.{front_by, row_by, hidden_party, hiding_by, with_hidden, hats_by, axis_by}
use Rattle.axes.proofs.Laws.Row.{front_by-is, row_by-is, row-v}
use Rattle.axes.specs.Announcing.{party_from, hidden_from, row_of}
use Rattle.axes.proofs.Laws.Parties.{hat_alpha, hat_beta, total_v, formula_row, hiding_of, row_made, last_row}
use Rattle.axes.specs.Axes.{Evaluated, party_row, rows_by}

-- ---- bytes read as points

part-point : (s : List ℕ) (i : ℕ) → ((j : ℕ) → get_or s j 0 < 256) → i + 4 ≤ length s → part s i 4 ≡ bytes_of (point_at s i)
unfolding point_at bytes_at
part-point s i b h =
    sym (bytes_at-part s i 4 h)
    ∙ sym (bytes_of-point ((get_or s i 0, get_or s (suc i) 0), (get_or s (suc (suc i)) 0, get_or s (suc (suc (suc i))) 0))
    (b i, b (suc i), b (suc (suc i)), b (suc (suc (suc i)))))

pub points-of : (p : Parameters) (s : List ℕ) → length s ≡ values_length p → ((j : ℕ) → get_or s j 0 < 256)
    → s ≡ encode (λ l. point_at s (4 * l)) p.t ++ encode (λ l. point_at s (factor_length p + 4 * l)) p.t
unfolding part
points-of p s e b =
    let a = factor_length p in
    let k = length-drop a s in
    let z : (l : ℕ) → 0 + 4 * l ≡ 4 * l = λ l. omega arith in
    sym (take-append-drop a s)
    ∙ ap₂ ◌++◌ (filled-block (λ l. point_at s (4 * l)) s 0 p.t (λ l h. ap (λ (i : ℕ). take 4 (drop i s)) (z l) ∙ part-point s (4 * l) b (omega arith)))
    (sym (take_all a (drop a s) (omega arith)) ∙ filled-block (λ l. point_at s (a + 4 * l)) s a p.t (λ l h. part-point s (a + 4 * l) b (omega arith)))

-- ---- the party that holds the hidden leaf

hidden-some : (p : Parameters) (leaf j : ℕ) → ltb (hidden_party p leaf j) (side p) ≡ ltb leaf (leaves p)
unfolding hidden_party
hidden-some p leaf j = go (ltb leaf (leaves p))
  where
    go : (b : Bool) → ltb (cond b (digit p j leaf) (side p)) (side p) ≡ b
    go true = lt-ltb (digit p j leaf) (side p) (digit_lt p j leaf)
    go false = le-ltb (side p) (side p) (omega arith)

-- ---- the axes

module _ (p : Parameters) (key : Key) (m2 sums : List ℕ) (leaf : ℕ) (hidden blocks hats total : List ℕ)
    (given : Evaluated p key m2 sums blocks) (sized : length hidden ≡ values_length p) (bytes : (i : ℕ) → get_or hidden i 0 < 256)
    (es : hats ≡ hats_by p leaf (block_of p blocks p.axes) hidden)
    (et : total ≡ row_by p true (share_of p sums p.axes) (block_of p blocks p.axes) hats) where
  abbrev all : List ℕ
  all = share_of p sums p.axes

  abbrev α⋆ : ℕ → Point
  α⋆ l = point_at hidden (4 * l)

  abbrev β⋆ : ℕ → Point
  β⋆ l = point_at hidden (factor_length p + 4 * l)

  module _ (j : ℕ) (inside : j < p.axes) where
    abbrev s : ℕ → List ℕ
    s = party_from p sums j

    own : (c : ℕ) → c < others p → share_of p sums (sum_index p j c) ≡ s c
    unfolding party_from with_last
    own c h = sym (ap (λ (b : Bool). cond b (share_of p sums (sum_index p j c)) (less all (λ c. share_of p sums (sum_index p j c)) (others p))) (lt-ltb c (others p) h))

    last : s (others p) ≡ less all s (others p)
    unfolding party_from with_last
    last =
        ap (λ (b : Bool). cond b (share_of p sums (sum_index p j (others p))) (less all (λ c. share_of p sums (sum_index p j c)) (others p))) (le-ltb (others p) (others p) (omega arith))
        ∙ less-ext all (λ c. share_of p sums (sum_index p j c)) s (others p) own

    abbrev α̂ : ℕ → Point
    α̂ = hat_alpha p key m2 s all last (hidden_from p leaf hidden j)

    abbrev β̂ : ℕ → Point
    β̂ = hat_beta p key m2 s all last (hidden_from p leaf hidden j)

    hidden-is : hidden ≡ encode α⋆ p.t ++ encode β⋆ p.t
    hidden-is = points-of p hidden sized bytes

    all-is : front_by p (block_of p blocks p.axes) ≡ encode (alpha p key m2 true all) p.t ++ encode (beta p key m2 true all) p.t
    all-is = front_by-is p key m2 true all _ (given.firsts p.axes (omega arith))

    hats-is : hats ≡ encode α̂ p.t ++ encode β̂ p.t
    unfolding hats_by with_hidden hat_alpha hat_beta
    hats-is =
        es ∙ go (ltb leaf (leaves p))
        ∙ ap (λ (b : Bool). encode (λ l. alpha p key m2 true all l ⊞ cond b (α⋆ l) points.base.zero) p.t ++ encode (λ l. beta p key m2 true all l ⊞ cond b (β⋆ l) points.base.zero) p.t)
        (sym (hidden-some p leaf j))
      where
        go : (b : Bool)
            → cond b (xor_list (front_by p (block_of p blocks p.axes)) hidden) (front_by p (block_of p blocks p.axes))
            ≡ encode (λ l. alpha p key m2 true all l ⊞ cond b (α⋆ l) points.base.zero) p.t ++ encode (λ l. beta p key m2 true all l ⊞ cond b (β⋆ l) points.base.zero) p.t
        go true =
            ap₂ xor_list all-is hidden-is ∙ front-xor _ _ p.t _ _
            ∙ ap (λ (z : List ℕ). encode (λ l. alpha p key m2 true all l ⊞ α⋆ l) p.t ++ z) (encode-xor _ _ p.t)
        go false = all-is ∙ ap₂ ◌++◌ (encode-ext _ _ p.t (λ l h. sym (points.base.add-zero _))) (encode-ext _ _ p.t (λ l h. sym (points.base.add-zero _)))

    total-is : total ≡ share_row p key m2 true all α̂ β̂
    total-is = et ∙ row_by-is p key m2 true all _ _ α̂ β̂ (given.firsts p.axes (omega arith)) hats-is

    block-is : (c : ℕ) → c < others p → block_of p blocks (sum_index p j c) ≡ announced_of p key m2 (eqb c 0) (share_of p sums (sum_index p j c))
    block-is zero h = given.firsts (sum_index p j 0) (omega (arith, zero-mul p.axes))
    block-is (suc c) h =
        let e : 1 * p.axes ≤ suc c * p.axes = mul-le-mul_right p.axes (omega arith) in
        given.rest (sum_index p j (suc c)) (rw (ne_eqb (suc c) 0 (λ e. omega arith)) (omega arith)) (index-lt p j (suc c) inside h)
        ∙ sym (ap (λ (b : Bool). announced_of p key m2 b (share_of p sums (sum_index p j (suc c)))) (ne_eqb (suc c) 0 (λ e. omega arith)))

    party-is : (c : ℕ) → c < others p → party_row p sums blocks hats j c ≡ formula_row p key m2 s all last (hidden_from p leaf hidden j) c
    unfolding party_row formula_row
    party-is c h =
        row_by-is p key m2 (eqb c 0) (share_of p sums (sum_index p j c)) _ _ α̂ β̂ (block-is c h) hats-is
        ∙ ap (λ (z : List ℕ). share_row p key m2 (eqb c 0) z α̂ β̂) (own c h)

    rows_are : (c : ℕ) → c < side p
        → with_last p total (party_row p sums blocks hats j) c ≡ formula_row p key m2 s all last (hidden_from p leaf hidden j) c
    unfolding with_last
    rows_are c h = go (dec_lt c (others p))
      where
        pick : {b : Bool} → ltb c (others p) ≡ b
            → cond (ltb c (others p)) (party_row p sums blocks hats j c) (less total (party_row p sums blocks hats j) (others p))
            ≡ cond b (party_row p sums blocks hats j c) (less total (party_row p sums blocks hats j) (others p))
        pick e = ap (λ (b : Bool). cond b (party_row p sums blocks hats j c) (less total (party_row p sums blocks hats j) (others p))) e

        go : Dec (c < others p)
            → cond (ltb c (others p)) (party_row p sums blocks hats j c) (less total (party_row p sums blocks hats j) (others p))
            ≡ formula_row p key m2 s all last (hidden_from p leaf hidden j) c
        go (yes l) = pick (lt-ltb c (others p) l) ∙ party-is c l
        go (no l) =
            let e : others p ≡ c = omega (arith, side-others p) in
            pick (le-ltb c (others p) (omega arith))
            ∙ ap (λ (z : List ℕ). less z (party_row p sums blocks hats j) (others p)) total-is
            ∙ last_row p key m2 s all last (hidden_from p leaf hidden j) (party_row p sums blocks hats j) party-is
            ∙ ap (formula_row p key m2 s all last (hidden_from p leaf hidden j)) e

    hiding-is : hiding_by p hidden total ≡ hiding_of p key m2 s all last (hidden_from p leaf hidden j)
    unfolding hiding_by share_row total_v
    hiding-is = ap₂ (λ (x y : List ℕ). x ++ drop (at_v p) y) hidden-is total-is
        ∙ ap (◌++◌ (encode α⋆ p.t ++ encode β⋆ p.t)) (row-v p _ _ _) ∙ append_assoc (encode α⋆ p.t) (encode β⋆ p.t) _

    pub axis-made : axis_by p total (party_row p sums blocks hats j) (hidden_party p leaf j) (hiding_by p hidden total) ≡ row_of p key m2 sums leaf hidden j
    unfolding axis_by row_of
    axis-made =
        joined-ext _ _ (side p) (λ c h. ap₂ (λ (x y : List ℕ). cond (eqb c (hidden_party p leaf j)) (xor_list x y) x) (rows_are c h) hiding-is
        ∙ sym (row_made p key m2 s all last (hidden_from p leaf hidden j) c h))

pub rows_made : (p : Parameters) (key : Key) (m2 sums : List ℕ) (leaf : ℕ) (hidden blocks : List ℕ) → Evaluated p key m2 sums blocks
    → length hidden ≡ values_length p → ((i : ℕ) → get_or hidden i 0 < 256)
    → rows_by p sums blocks leaf hidden ≡ joined (row_of p key m2 sums leaf hidden) p.axes
unfolding rows_by
rows_made p key m2 sums leaf hidden blocks given sized bytes =
    joined-ext _ _ p.axes (λ j h. axis-made p key m2 sums leaf hidden blocks _ _ given sized bytes refl refl j h)
