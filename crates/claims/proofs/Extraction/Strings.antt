-- What equal strings of two openings under one prefix say.
--
-- strings-inj          equal strings of one layer, with prefixes of one length, have the same rest
-- string4-inj          a leaf's string holds its state, and aux where it is leaf n−1
-- length-opened        a state has 32 bytes
-- leaf-same            layer 4: the leaf's state and aux are the same
-- commitments-same     layer 5: every leaf's commitment is the same
-- digests-same         layer 7: every axis's digest is the same
-- axis-same            layer 6: the parties of the axis announce the same
use Rattle.std.specs.Prelude.{◌≡◌, cond, ℕ, ◌<◌, length, drop}
use Rattle.std.proofs.Math.Path.{sym, ap}
use Rattle.std.proofs.Common.{◌∙◌}
use mathlib.Core.List.{List, []}
use Rattle.parameters.specs.declared.Parameters.{Parameters}
use Rattle.layout.specs.Layout.{side, leaves, is_last, message5_length}
use Rattle.exchange.proofs.Sequences.Laws.{append_inj, joined-inj}
use Rattle.exchange.specs.Strings.{string, string4, string5, string7}
use Rattle.exchange.proofs.Leaf.Laws.{SameAux, length-state}
use Rattle.exchange.specs.Values.{Key}
use Rattle.exchange.specs.Parties.{axis_string}
use Rattle.exchange.proofs.Parties.Laws.{axis_string-inj}
use Rattle.exchange.specs.Opening.{Exchange, aux_of, opened_state, leaf_string, leaf_commitment, commitment_string, announced, response_string}
use Rattle.exchange.proofs.Opening.Laws.{length-commitments}

pub strings-inj : (layer : ℕ) (pre pre' a b : List ℕ) → pre ≡ pre' → string layer pre a ≡ string layer pre' b → a ≡ b
unfolding string
strings-inj layer pre pre' a b q e = (append_inj pre a pre' b (ap length q) (ap (drop 1) e)).1

-- ---- a leaf

pub string4-inj : (p : Parameters) (pre pre' : List ℕ) (i : ℕ) (st st' aux aux' : List ℕ) → pre ≡ pre' → length st ≡ length st'
    → string4 p pre i st aux ≡ string4 p pre' i st' aux' → (st ≡ st') × SameAux p i aux aux'
unfolding string4
string4-inj p pre pre' i st st' aux aux' q l e =
    let parts = append_inj st (cond (is_last p i) aux []) st' (cond (is_last p i) aux' []) l (ap (drop 1) (strings-inj 4 pre pre' _ _ q e)) in
    (parts.0, λ t. rw t at parts.1)

-- ---- two openings

module _ (hash : List ℕ → ℕ → List ℕ) (hash-length : (s : List ℕ) (n : ℕ) → length (hash s n) ≡ n) (p : Parameters) (e e' : Exchange)
    (same-prefix : e.prefix ≡ e'.prefix) where
  pub length-opened : (e : Exchange) (i : ℕ) → length (opened_state hash p e i) ≡ 32
  unfolding opened_state
  length-opened e i = length-state hash hash-length e.prefix i _

  pub leaf-same : (i : ℕ) → leaf_string hash p e i ≡ leaf_string hash p e' i
      → (opened_state hash p e i ≡ opened_state hash p e' i) × SameAux p i (aux_of p e) (aux_of p e')
  unfolding leaf_string
  leaf-same i q =
      string4-inj p e.prefix e'.prefix i (opened_state hash p e i) (opened_state hash p e' i) (aux_of p e) (aux_of p e') same-prefix
      (length-opened e i ∙ sym (length-opened e' i)) q

  pub commitments-same : length e.message5 ≡ message5_length p e.leaf → length e'.message5 ≡ message5_length p e'.leaf
      → commitment_string hash p e ≡ commitment_string hash p e' → (i : ℕ) → i < leaves p → leaf_commitment hash p e i ≡ leaf_commitment hash p e' i
  unfolding commitment_string string5
  commitments-same l l' q =
      joined-inj (leaf_commitment hash p e) (leaf_commitment hash p e') (leaves p) 32
      (λ i h. length-commitments hash p e hash-length l i) (λ i h. length-commitments hash p e' hash-length l' i)
      (strings-inj 5 e.prefix e'.prefix _ _ same-prefix q)

  module _ (key : Key) where
    -- layer 6's string of axis j, counted from 0
    abbrev pub axis_string_of : Exchange → ℕ → List ℕ
    axis_string_of e j = axis_string p e.prefix j (announced hash p e key j)

    pub digests-same : response_string hash p e key ≡ response_string hash p e' key
        → (j : ℕ) → j < p.axes → hash (axis_string_of e j) 32 ≡ hash (axis_string_of e' j) 32
    unfolding response_string string7
    digests-same q =
        joined-inj (λ j. hash (axis_string_of e j) 32) (λ j. hash (axis_string_of e' j) 32) p.axes 32 (λ j h. hash-length _ 32) (λ j h. hash-length _ 32)
        (strings-inj 7 e.prefix e'.prefix _ _ same-prefix q)

    pub axis-same : (j : ℕ) → axis_string_of e j ≡ axis_string_of e' j → (c l : ℕ) → c < side p → l < p.t
        → ((announced hash p e key j).α c l ≡ (announced hash p e' key j).α c l) × ((announced hash p e key j).β c l ≡ (announced hash p e' key j).β c l)
        × ((announced hash p e key j).v c l ≡ (announced hash p e' key j).v c l)
    unfolding announced
    axis-same j q =
        axis_string-inj p e.prefix j (announced hash p e key j) (announced hash p e' key j)
        (q ∙ ap (λ (s : List ℕ). axis_string p s j (announced hash p e' key j)) (sym same-prefix))
