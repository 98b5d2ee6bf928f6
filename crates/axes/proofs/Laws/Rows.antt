-- The rows of an axis as the code writes them.
--
-- length-party_row      a party's row
-- length-less, length_last   what is left of a row, and the row of any party
-- rows-joined          the rows of all parties but the last one, and then the last one's
-- row-parts            the last one's from those that are written
-- put-behind           a list written behind the front that is there
-- hide-joined          something added to the row of one party
-- rows-hidden          on all axes
-- hiding-put           the hidden leaf's α and β written over those of a row
-- all_made             the rows of all axes
-- front-there, front-sized, front_fits   a front of n that was lent is there, has its length, and fits where n fit
use Rattle.std.specs.Prelude.{◌≡◌, Bool, true, eqb, ltb, take, drop}
use Rattle.std.proofs.Math.Path.{refl, sym, ap, ap₂}
use Rattle.std.proofs.Common.{◌∙◌, le_of_eq, arith, ne_eqb, lt-ltb, le-ltb, length-append, length-drop, drop_of_length-le, length-take-le, take_at}
use Rattle.std.proofs.Math.Bool.{cond}
use mathlib.Core.List.{List, ◌++◌, append-nil}
use Prim.Native.Nat.{ℕ, zero, suc, ◌+◌, ◌*◌, ◌≤◌, ◌<◌}
use Rattle.std.proofs.Math.Decide.{dec_lt}
use Rattle.std.proofs.Math.ListN.{length}
use Rattle.lists.specs.Part.{part, put_at}
use Rattle.lists.specs.Part.Laws.{length_part, length-put_at}
use Rattle.lists.specs.Sum.{xor_list, xor_at}
use Rattle.lists.specs.Sum.Laws.{length-xor_list}
use Rattle.tower.specs.Field.{Point}
use Rattle.parameters.specs.declared.Parameters.{Parameters}
use Rattle.layout.specs.Layout.{side, others, sum_count, blocks_length, sum_index, values_length, row_length, axis_length, at_v}
use Rattle.layout.specs.Layout.Laws.{side-others, index-lt}
use Rattle.exchange.specs.Sequences.{joined}
use Rattle.exchange.proofs.Sequences.Laws.{joined-ext, length-joined, part-joined}
use Rattle.exchange.specs.Reading.{encode}
use Rattle.exchange.proofs.Reading.Laws.{length-encode}
use Rattle.coefficients.specs.Shares.{share_of}
use Rattle.values.specs.Shares.{block_of}
use Rattle.points.specs.Blocks.{within-blocks}
use Rattle.parties.specs.Blocks.{xor_at-joined}
use Rattle.parties.specs.Sums.{less, with_last}
use Rattle.parties.specs.Totals.{less-ext}
use Rattle.axes.specs.Row.{front_by, v_at, v_by, row_by, hidden_party, hiding_by, with_hiding, axis_by}
use Rattle.axes.specs.Axes.{party_row, formula_rows, hats_of, rows_by}

sized_row : (p : Parameters) (b : List ℕ) (f : ℕ → Point) → length b ≡ row_length p → length (take (values_length p) b ++ encode f p.t) ≡ row_length p
sized_row p b f e =
    length-append (take (values_length p) b) (encode f p.t)
    ∙ ap₂ ◌+◌ (length-take-le (values_length p) b (omega arith)) (length-encode f p.t) ∙ omega arith

module _ (p : Parameters) (sums blocks hats : List ℕ) (sized : length blocks ≡ blocks_length p) (j : ℕ) (inside : j < p.axes) where
  pub length-party_row : (c : ℕ) → c < others p → length (party_row p sums blocks hats j c) ≡ row_length p
  unfolding party_row row_by front_by v_by
  length-party_row c h =
      sized_row p (block_of p blocks (sum_index p j c)) (v_at p (eqb c 0) (share_of p sums (sum_index p j c)) (block_of p blocks (sum_index p j c)) hats)
      (length_part blocks (sum_index p j c * row_length p) (row_length p) (within-blocks (sum_index p j c) (sum_count p) (row_length p) _ _ (index-lt p j c inside h) refl sized))

module _ (p : Parameters) (total : List ℕ) (r : ℕ → List ℕ) (sized-total : length total ≡ row_length p)
    (sized : (c : ℕ) → c < others p → length (r c) ≡ row_length p) where
  pub length-less : (n : ℕ) → n ≤ others p → length (less total r n) ≡ row_length p
  unfolding less
  length-less zero h = sized-total
  length-less (suc n) h =
      let e = length-less n (omega arith) in
      let k = sized n (omega arith) in
      length-xor_list (less total r n) (r n) (omega arith) ∙ e

  pub length_last : (c : ℕ) → c < side p → length (with_last p total r c) ≡ row_length p
  unfolding with_last
  length_last c h = go (dec_lt c (others p))
    where
      go : Dec (c < others p) → length (cond (ltb c (others p)) (r c) (less total r (others p))) ≡ row_length p
      go (yes l) = ap (λ (b : Bool). length (cond b (r c) (less total r (others p)))) (lt-ltb c (others p) l) ∙ sized c l
      go (no l) = ap (λ (b : Bool). length (cond b (r c) (less total r (others p)))) (le-ltb c (others p) (omega arith)) ∙ length-less (others p) (omega arith)

  pub rows-joined : joined r (others p) ++ less total r (others p) ≡ joined (with_last p total r) (side p)
  unfolding joined with_last
  rows-joined =
      ap₂ ◌++◌ (joined-ext r (with_last p total r) (others p) (λ c h. sym (ap (λ (b : Bool). cond b (r c) (less total r (others p))) (lt-ltb c (others p) h))))
      (sym (ap (λ (b : Bool). cond b (r (others p)) (less total r (others p))) (le-ltb (others p) (others p) (omega arith))))
      ∙ ap (joined (with_last p total r)) (sym (side-others p))

  pub row-parts : less total (λ c. part (joined r (others p)) (c * row_length p) (row_length p)) (others p) ≡ less total r (others p)
  row-parts = less-ext total _ r (others p) (λ c h. part-joined r (row_length p) (others p) sized c h)

  pub hide-joined : (h : ℕ) (hiding : List ℕ) → length hiding ≡ row_length p
      → cond (ltb h (side p)) (xor_at (joined (with_last p total r) (side p)) (h * row_length p) hiding) (joined (with_last p total r) (side p))
      ≡ joined (λ c. cond (eqb c h) (xor_list (with_last p total r c) hiding) (with_last p total r c)) (side p)
  hide-joined h hiding e = go (dec_lt h (side p))
    where
      go : Dec (h < side p)
          → cond (ltb h (side p)) (xor_at (joined (with_last p total r) (side p)) (h * row_length p) hiding) (joined (with_last p total r) (side p))
          ≡ joined (λ c. cond (eqb c h) (xor_list (with_last p total r c) hiding) (with_last p total r c)) (side p)
      go (yes l) =
          ap (λ (b : Bool). cond b (xor_at (joined (with_last p total r) (side p)) (h * row_length p) hiding) (joined (with_last p total r) (side p))) (lt-ltb h (side p) l)
          ∙ xor_at-joined (with_last p total r) (row_length p) (side p) hiding h length_last (le_of_eq e) l
      go (no l) =
          ap (λ (b : Bool). cond b (xor_at (joined (with_last p total r) (side p)) (h * row_length p) hiding) (joined (with_last p total r) (side p))) (le-ltb h (side p) (omega arith))
          ∙ joined-ext _ _ (side p) (λ c k. sym (ap (λ (b : Bool). cond b (xor_list (with_last p total r c) hiding) (with_last p total r c)) (ne_eqb c h (λ z. l (omega arith)))))

pub put-behind : (u v d : List ℕ) (a : ℕ) → length u ≡ a → length d ≡ a + length v → put_at (u ++ drop a d) a v ≡ u ++ v
unfolding put_at
put-behind u v d a e h =
    let k : length (u ++ drop a d) ≤ a + length v = omega (arith, length-append u (drop a d), length-drop a d) in
    ap₂ ◌++◌ (take_at u (drop a d) a e) (ap (◌++◌ v) (drop_of_length-le (u ++ drop a d) k) ∙ append-nil v)

module _ (p : Parameters) (sums blocks hats total : List ℕ) (sized : length blocks ≡ blocks_length p) (sized-total : length total ≡ row_length p) where
  length-formula : (j : ℕ) → j < p.axes → length (formula_rows p sums blocks hats total j) ≡ axis_length p
  unfolding formula_rows
  length-formula j h = length-joined _ (side p) (row_length p) (length_last p total (party_row p sums blocks hats j) sized-total (length-party_row p sums blocks hats sized j h))

  pub rows-hidden : (leaf : ℕ) (hiding : List ℕ) → length hiding ≡ row_length p
      → joined (λ j. with_hiding p (hidden_party p leaf j) hiding (part (joined (formula_rows p sums blocks hats total) p.axes) (j * axis_length p) (axis_length p))) p.axes
      ≡ joined (λ j. axis_by p total (party_row p sums blocks hats j) (hidden_party p leaf j) hiding) p.axes
  unfolding formula_rows axis_by
  rows-hidden leaf hiding e =
      joined-ext _ _ p.axes
      (λ j h. ap (with_hiding p (hidden_party p leaf j) hiding) (part-joined (formula_rows p sums blocks hats total) (axis_length p) p.axes length-formula j h)
      ∙ hide-joined p total (party_row p sums blocks hats j) sized-total (length-party_row p sums blocks hats sized j h) (hidden_party p leaf j) hiding e)

pub hiding-put : (p : Parameters) (hidden total : List ℕ) → length hidden ≡ values_length p → put_at total 0 hidden ≡ hiding_by p hidden total
unfolding hiding_by put_at
hiding-put p hidden total e = let k : 0 + length hidden ≡ at_v p = omega arith in ap (λ (n : ℕ). hidden ++ drop n total) k

-- the hats h and the row w of all disclosed leaves, then the rows by the formula, then what the hidden leaf adds
pub all_made : (p : Parameters) (sums blocks : List ℕ) (leaf : ℕ) (hidden : List ℕ) → length blocks ≡ blocks_length p
    → length hidden ≡ values_length p → (h w hiding rows : List ℕ)
    → h ≡ hats_of p blocks leaf hidden → w ≡ row_by p true (share_of p sums p.axes) (block_of p blocks p.axes) h → length w ≡ row_length p
    → hiding ≡ put_at w 0 hidden → rows ≡ joined (formula_rows p sums blocks h w) p.axes
    → joined (λ j. with_hiding p (hidden_party p leaf j) hiding (part rows (j * axis_length p) (axis_length p))) p.axes ≡ rows_by p sums blocks leaf hidden
unfolding rows_by
all_made p sums blocks leaf hidden sized-blocks sized-hidden h w hiding rows eh ew sized e er =
    let put = hiding-put p hidden w sized-hidden in
    let long : length (hiding_by p hidden w) ≡ row_length p = ap length (sym put) ∙ length-put_at w 0 hidden (omega arith) ∙ sized in
    ap₂ (λ (d r : List ℕ). joined (λ j. with_hiding p (hidden_party p leaf j) d (part r (j * axis_length p) (axis_length p))) p.axes) (e ∙ put) er
    ∙ rows-hidden p sums blocks h w sized-blocks sized leaf (hiding_by p hidden w) long
    ∙ ap₂ (λ (h w : List ℕ). joined (λ j. axis_by p w (party_row p sums blocks h j) (hidden_party p leaf j) (hiding_by p hidden w)) p.axes) eh
    (ew ∙ ap (row_by p true (share_of p sums p.axes) (block_of p blocks p.axes)) eh)

-- ---- a front that was lent, read again

module _ (u v : List ℕ) (n : ℕ) (e : length u ≡ n) where
  pub front-there : n ≤ length (u ++ v)
  front-there = omega (arith, length-append u v)

  pub front-sized : length (take n (u ++ v)) ≡ n
  front-sized = ap length (take_at u v n e) ∙ e

  pub front_fits : (a m : ℕ) → a + n ≤ m → a + length (take n (u ++ v)) ≤ m
  front_fits a m h = omega (arith, front-sized)
