-- The rows of all axes one after another, and the strings of layers 6 and 7 made of them.
--
-- length-row, length-rows          a row has the length of an axis
-- rows-string                      rows that are those of the announcements of the axes give layer 7's string
-- row_is                           a row depends on the sums of leaves and on the hidden leaf's α and β alone
-- own_row, own-rows                the prover's parties: the rows give message 3
-- opened-row                       the verifier's parties: a row is what its axis announces
use Rattle.std.specs.Prelude.{◌≡◌, ℕ, ◌+◌, ◌*◌, ◌≤◌, ◌<◌, length, get_or}
use Rattle.std.proofs.Math.Path.{ap}
use Rattle.std.proofs.Common.{◌∙◌}
use mathlib.Core.List.{List, ◌∷◌}
use native.Mathlib.Omega.{arith}
use Rattle.lists.specs.Part.{part}
use Rattle.lists.specs.Part.Laws.{get_d_part}
use Rattle.parameters.specs.declared.Parameters.{Parameters}
use Rattle.layout.specs.Layout.{side, leaves, factor_length, values_length, row_length, axis_length, siblings_length}
use Rattle.exchange.specs.Sequences.{joined}
use Rattle.exchange.proofs.Sequences.Laws.{joined-ext, length-joined, part-joined}
use Rattle.exchange.specs.Run.{Run}
use Rattle.exchange.specs.Strings.{string, string6, string7}
use Rattle.exchange.specs.Reading.{point_at}
use Rattle.exchange.proofs.Reading.Laws.{point_at-ext}
use Rattle.exchange.specs.Values.{Key}
use Rattle.exchange.specs.Parties.{Announced, announced_bytes, axis_string}
use Rattle.exchange.proofs.Parties.Laws.{length-announced_bytes}
use Rattle.exchange.specs.Announcing.{Hidden, none, announced_by}
use Rattle.exchange.proofs.Announcing.Laws.{by-ext}
use Rattle.exchange.specs.Messages.{own_party, own_announced, message3}
use Rattle.exchange.specs.Opening.{Exchange, alpha_of, beta_of, hidden_on, disclosed, announced}
use Rattle.axes.specs.RowStrings.{rows_string}
use Rattle.axes.specs.Row.{hidden_party}
use Rattle.axes.proofs.Laws.Row.{hidden-inside, hidden-outside}
use Rattle.axes.specs.Announcing.{party_from, hidden_from, row_of}

-- ---- rows

module _ (p : Parameters) (key : Key) (m2 sums : List ℕ) (leaf : ℕ) (hidden : List ℕ) where
  length-row : (j : ℕ) → length (row_of p key m2 sums leaf hidden j) ≡ axis_length p
  unfolding row_of
  length-row j =
      length-joined (announced_bytes p _) (side p) (row_length p) (λ c h. length-announced_bytes p _ c)

  pub length-rows : length (joined (row_of p key m2 sums leaf hidden) p.axes) ≡ p.axes * (axis_length p)
  length-rows = length-joined (row_of p key m2 sums leaf hidden) p.axes (axis_length p) (λ j h. length-row j)

  pub rows-string : (hash : List ℕ → ℕ → List ℕ) (prefix : List ℕ) (A : ℕ → Announced)
      → ((j : ℕ) → j < p.axes → row_of p key m2 sums leaf hidden j ≡ joined (announced_bytes p (A j)) (side p))
      → rows_string hash p prefix (joined (row_of p key m2 sums leaf hidden) p.axes)
      ≡ string7 prefix (λ j. hash (axis_string p prefix j (A j)) 32) p.axes
  unfolding string7 axis_string string6
  rows-string hash prefix A same =
      ap (string 7 prefix) (joined-ext _ _ p.axes (λ j h. ap (λ (r : List ℕ). hash (string 6 prefix ((j + 1) ∷ r)) 32)
      (part-joined (row_of p key m2 sums leaf hidden) (axis_length p) p.axes (λ j h. length-row j) j h ∙ same j h)))

  -- a row of parties with the same sums of leaves, and of a hidden leaf with the same α and β
  row_is : (j : ℕ) (s : ℕ → List ℕ) (b : Hidden) → hidden_party p leaf j ≡ b.party → ((c : ℕ) → c < side p → party_from p sums j c ≡ s c)
      → (hidden_party p leaf j < side p → (l : ℕ) → l < p.t → point_at hidden (4 * l) ≡ b.α l)
      → (hidden_party p leaf j < side p → (l : ℕ) → l < p.t → point_at hidden (factor_length p + 4 * l) ≡ b.β l)
      → row_of p key m2 sums leaf hidden j ≡ joined (announced_bytes p (announced_by p key m2 s b)) (side p)
  unfolding row_of
  row_is j s b e es ea eb = joined-ext _ _ (side p) (by-ext p key m2 (party_from p sums j) s (hidden_from p leaf hidden j) b e es ea eb)

-- ---- the prover's parties

module _ (hash : List ℕ → ℕ → List ℕ) (p : Parameters) (x : List ℕ) (run : Run) (key : Key) (m2 sums : List ℕ) (leaf : ℕ) (hidden : List ℕ)
    (outside : leaves p ≤ leaf)
    (same : (j c : ℕ) → j < p.axes → c < side p → party_from p sums j c ≡ own_party hash p x run key m2 j c) where
  own_row : (j : ℕ) → j < p.axes
      → row_of p key m2 sums leaf hidden j ≡ joined (announced_bytes p (own_announced hash p x run key m2 j)) (side p)
  unfolding own_announced
  own_row j h =
      let o = hidden-outside p leaf j outside in
      row_is p key m2 sums leaf hidden j _ (none p) o (λ c k. same j c h k) (λ i. absurd (omega arith)) (λ i. absurd (omega arith))

  pub own-rows : hash (rows_string hash p run.prefix (joined (row_of p key m2 sums leaf hidden) p.axes)) 32 ≡ message3 hash p x run key m2
  unfolding message3
  own-rows = ap (λ (s : List ℕ). hash s 32) (rows-string p key m2 sums leaf hidden hash run.prefix (own_announced hash p x run key m2) own_row)

-- ---- the verifier's parties

module _ (hash : List ℕ → ℕ → List ℕ) (p : Parameters) (e : Exchange) (key : Key) (sums hidden : List ℕ) (inside : e.leaf < leaves p)
    (lent : hidden ≡ part e.message5 (siblings_length p + 32) (values_length p))
    (same : (j c : ℕ) → j < p.axes → c < side p → party_from p sums j c ≡ disclosed hash p e j c) where
  read : (i : ℕ) → i + 4 ≤ values_length p → point_at hidden i ≡ point_at e.message5 (siblings_length p + 32 + i)
  read i h =
      point_at-ext hidden e.message5 i (siblings_length p + 32 + i)
      (λ k b. let q : siblings_length p + 32 + (i + k) ≡ siblings_length p + 32 + i + k = omega arith in ap (λ (s : List ℕ). get_or s (i + k) 0) lent ∙ get_d_part e.message5 (siblings_length p + 32) (values_length p) (i + k) (omega arith)
      ∙ ap (λ (n : ℕ). get_or e.message5 n 0) q)

  pub opened-row : (j : ℕ) → j < p.axes
      → row_of p key e.message2 sums e.leaf hidden j ≡ joined (announced_bytes p (announced hash p e key j)) (side p)
  unfolding announced
  opened-row j h =
      row_is p key e.message2 sums e.leaf hidden j _ (hidden_on p e j) (hidden-inside p e.leaf j inside) (λ c k. same j c h k) (λ i. alphas) (λ i. betas)
    where
      alphas : (l : ℕ) → l < p.t → point_at hidden (4 * l) ≡ alpha_of p e l
      alphas l b = unfold alpha_of in read (4 * l) (omega arith)

      betas : (l : ℕ) → l < p.t → point_at hidden (factor_length p + 4 * l) ≡ beta_of p e l
      betas l b =
          unfold beta_of in
          let q : siblings_length p + 32 + (factor_length p + 4 * l) ≡ siblings_length p + 32 + factor_length p + 4 * l = omega arith in
          read (factor_length p + 4 * l) (omega arith) ∙ ap (point_at e.message5) q
