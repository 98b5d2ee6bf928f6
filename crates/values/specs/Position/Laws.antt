-- The announcement of shares, position after position.
--
-- Announced p α β γ out n     the first n positions of α, β and γ stand in out
-- announced-none, announced-turn, announced-end     from no position to all
-- Left p before out i n       the parts of out of the shares from i on are as they were
-- left-turn, each_turn        the announcements of one share more at one position
-- EachTo, to_none, to-turn, to_end    of all shares, position after position
use Rattle.std.specs.Prelude.{◌≡◌, Bool, length, take}
use Rattle.std.proofs.Math.Path.{refl, sym, ap, ap₂, subst}
use Rattle.std.proofs.Common.{◌∙◌, inl, inr, take-append-drop, drop-drop, take_all}
use mathlib.Core.List.{List, ◌++◌}
use Prim.Native.Nat.{ℕ, ◌+◌, ◌-◌, ◌*◌, ◌≤◌, ◌<◌}
use Rattle.std.proofs.Math.Decide.{dec_lt, ℕ_discrete}
use native.Mathlib.Omega.{arith}
use Rattle.std.proofs.Math.ListN.{drop, length-drop}
use Rattle.lists.specs.Part.{part, put_at}
use Rattle.lists.specs.Part.Laws.{length_part, lent_back, part-fits, part-put_at-same, part-put_at-before, part-put_at-behind}
use Rattle.tower.specs.Field.{Point, bytes_of}
use Rattle.parameters.specs.declared.Parameters.{Parameters}
use Rattle.layout.specs.Layout.{row_length, at_v, factor_length}
use Rattle.exchange.specs.Reading.{encode}
use Rattle.exchange.specs.Values.{Key, alpha, beta}
use Rattle.coefficients.specs.Shares.{share_of}
use Rattle.values.specs.Announced.{gamma, announced_of}
use Rattle.values.specs.Filled.{Filled, length-point, filled-keep, filled_more, filled-block}
use Rattle.values.specs.Shares.{block_of}
use Rattle.points.specs.Blocks.{within-blocks}
use Rattle.values.specs.Position.{factors_at, Each, EachAnnounced}

-- three blocks of points, each filled up to position n
pub record Announced (p : Parameters) (α β γ : ℕ → Point) (out : List ℕ) (n : ℕ) : Type 0 where
  pub sized : length out ≡ row_length p
  pub alphas : Filled α out 0 n
  pub betas : Filled β out (factor_length p) n
  pub gammas : Filled γ out (at_v p) n

module _ (p : Parameters) (α β γ : ℕ → Point) (out : List ℕ) where
  announced-none : length out ≡ row_length p → Announced p α β γ out 0
  announced-none e = record { sized = e; alphas = λ i h. absurd (omega arith); betas = λ i h. absurd (omega arith); gammas = λ i h. absurd (omega arith) }

  announced-turn : (next : List ℕ) (l : ℕ) → l < p.t → next ≡ put_at (factors_at p l (α l) (β l) out) (at_v p + 4 * l) (bytes_of (γ l))
      → Announced p α β γ out l → Announced p α β γ next (l + 1)
  unfolding factors_at
  announced-turn next l h en g =
      let n = g.sized in
      let t = factor_length p + 4 * l in
      let u = at_v p + 4 * l in
      let a : List ℕ = put_at out (4 * l) (bytes_of (α l)) in
      let na = length-point out (4 * l) (α l) (omega arith) in
      let b : List ℕ = put_at a t (bytes_of (β l)) in
      let nb = length-point a t (β l) (omega arith) in
      let αs = filled_more out (4 * l) (α l) (omega arith) α 0 l (omega arith) refl g.alphas in
      let βs = filled-keep out (4 * l) (α l) (omega arith) β (factor_length p) l (inl (omega arith)) g.betas in
      let γs = filled-keep out (4 * l) (α l) (omega arith) γ (at_v p) l (inl (omega arith)) g.gammas in
      let αs₂ = filled-keep a t (β l) (omega arith) α 0 (l + 1) (inr (omega arith)) αs in
      let βs₂ = filled_more a t (β l) (omega arith) β (factor_length p) l refl refl βs in
      let γs₂ = filled-keep a t (β l) (omega arith) γ (at_v p) l (inl (omega arith)) γs in
      subst (λ (q : List ℕ). Announced p α β γ q (l + 1)) (sym en) record {
        sized = length-point b u (γ l) (omega arith) ∙ nb ∙ na ∙ n;
        alphas = filled-keep b u (γ l) (omega arith) α 0 (l + 1) (inr (omega arith)) αs₂;
        betas = filled-keep b u (γ l) (omega arith) β (factor_length p) (l + 1) (inr (omega arith)) βs₂;
        gammas = filled_more b u (γ l) (omega arith) γ (at_v p) l refl refl γs₂;
      }

  announced-end : Announced p α β γ out p.t → out ≡ encode α p.t ++ (encode β p.t ++ encode γ p.t)
  unfolding part
  announced-end g =
      let n = g.sized in
      let e : factor_length p + factor_length p ≡ at_v p = omega arith in
      let k = length-drop (at_v p) out in
      sym (take-append-drop (factor_length p) out)
      ∙ ap₂ ◌++◌ (filled-block α out 0 p.t g.alphas)
      (sym (take-append-drop (factor_length p) (drop (factor_length p) out))
      ∙ ap₂ ◌++◌ (filled-block β out (factor_length p) p.t g.betas)
      (drop-drop (factor_length p) (factor_length p) out ∙ ap (λ (k : ℕ). drop k out) e ∙ sym (take_all (factor_length p) (drop (at_v p) out) (omega arith))
      ∙ filled-block γ out (at_v p) p.t g.gammas))

-- ---- all shares at one position

abbrev pub Left : Parameters → List ℕ → List ℕ → ℕ → ℕ → Type 0
Left p before out i n = (j : ℕ) → i ≤ j → j < n → block_of p out j ≡ block_of p before j

-- u is what announcing share i leaves in its part of out, which starts at b; room is how long it is
module _ (p : Parameters) (before out u next : List ℕ) (n i b room : ℕ) (er : room ≡ row_length p) (below : i < n)
    (sized : length out ≡ n * row_length p) (eb : b ≡ i * row_length p) (eu : length u ≡ row_length p)
    (en : next ≡ take b out ++ (u ++ drop (b + room - b) (drop b out))) where
  put : next ≡ put_at out (i * row_length p) u
  put = en ∙ lent_back out u b (b + room) (omega arith) (eu ∙ omega arith) ∙ ap (λ (m : ℕ). put_at out m u) eb

  fits : i * row_length p + length u ≤ length out
  fits = let f = part-fits i n (row_length p) below in omega arith

  other : (j : ℕ) → j < n → (j ≡ i → ⊥) → block_of p next j ≡ block_of p out j
  other j h o = ap (λ (q : List ℕ). block_of p q j) put ∙ go (dec_lt j i)
    where
      go : Dec (j < i) → block_of p (put_at out (i * row_length p) u) j ≡ block_of p out j
      go (yes q) = part-put_at-before out (i * row_length p) u fits (j * row_length p) (row_length p) (part-fits j i (row_length p) q)
      go (no q) =
          let f = part-fits i j (row_length p) (omega arith) in
          part-put_at-behind out (i * row_length p) u fits (j * row_length p) (row_length p) (omega arith)

  own : block_of p next i ≡ u
  own = ap₂ (λ (q : List ℕ) (m : ℕ). part q (i * row_length p) m) put (sym eu) ∙ part-put_at-same out (i * row_length p) u fits

  pub left-turn : Left p before out i n → Left p before next (i + 1) n
  left-turn h j k m = other j m (λ e. omega arith) ∙ h j (omega arith) m

  pub each_turn : (f : ℕ → List ℕ → List ℕ) → u ≡ f i (take (b + room - b) (drop b out)) → Left p before out i n → Each p f before out i
      → Each p f before next (i + 1)
  unfolding part
  each_turn f e left h j k = go (ℕ_discrete j i)
    where
      same : u ≡ f i (block_of p before i)
      same =
          let s : b + room - b ≡ row_length p = omega arith in
          e ∙ ap₂ (λ (m m' : ℕ). f i (take m (drop m' out))) s eb ∙ ap (f i) (left i (omega arith) below)

      go : Dec (j ≡ i) → block_of p next j ≡ f j (block_of p before j)
      go (yes q) = ap (block_of p next) q ∙ own ∙ same ∙ ap (λ (m : ℕ). f m (block_of p before m)) (sym q)
      go (no q) = other j (omega arith) q ∙ h j (omega arith)

-- ---- all positions

module _ (p : Parameters) (key : Key) (message2 : List ℕ) (first : Bool) (n : ℕ) (shares : List ℕ) where
  abbrev pub EachTo : List ℕ → ℕ → Type 0
  EachTo out l = (i : ℕ) → i < n → let s = share_of p shares i in Announced p (alpha p key message2 first s) (beta p key message2 first s) (gamma p message2 s) (block_of p out i) l

  pub to_none : (out : List ℕ) → length out ≡ n * row_length p → EachTo out 0
  to_none out e i h =
      announced-none p _ _ _ (block_of p out i)
      (length_part out (i * row_length p) (row_length p) (within-blocks i n (row_length p) (i * row_length p) (length out) h refl e))

  pub to-turn : (out next : List ℕ) (l : ℕ) → l < p.t → EachAnnounced p key message2 first shares l out next n → EachTo out l → EachTo next (l + 1)
  to-turn out next l h g to i b = announced-turn p _ _ _ (block_of p out i) (block_of p next i) l h (g i b) (to i b)

  pub to_end : (out : List ℕ) → EachTo out p.t → (i : ℕ) → i < n → block_of p out i ≡ announced_of p key message2 first (share_of p shares i)
  unfolding announced_of
  to_end out to i h = announced-end p _ _ _ (block_of p out i) (to i h)
