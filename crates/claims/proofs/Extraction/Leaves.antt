-- The leaves of two openings taken together: each leaf's state from an opening that discloses it.
--
-- Matched e e'           the two openings have one prefix and one message 2, messages 5 of the right length, and hide different leaves
-- SameLeaves e e'        the strings of layer 4 agree on the leaves opened in both
-- from_first, from_second   the state that is taken, and aux, is the one that either opening discloses
-- share_from              the share that follows from it
-- share-first, share-second   it is the one that either opening discloses
-- length_from            a state has 32 bytes
-- leaf_state-is, aux_state-is   the output, read back
-- leaf_share-is           the shares that follow from the output
use Rattle.std.specs.Prelude.{◌≡◌, Bool, cond, ℕ, ◌<◌, eqb}
use Rattle.std.proofs.Math.Path.{sym, ap, ap₂}
use Rattle.std.proofs.Common.{◌∙◌, mul_comm, eq-eqb, ne_eqb}
use Rattle.std.proofs.Math.Bool.{true, false}
use mathlib.Core.List.{List, ◌++◌}
use Rattle.std.proofs.Math.Decide.{ℕ_discrete}
use Rattle.std.proofs.Math.ListN.{length, take, drop}
use Rattle.parameters.specs.declared.Parameters.{Parameters}
use Rattle.layout.specs.Layout.{leaves, message5_length}
use Rattle.layout.specs.Layout.Laws.{is_last-true, is_last-false, is_last-last}
use Rattle.exchange.specs.Sequences.{joined}
use Rattle.exchange.proofs.Sequences.Laws.{joined_at, joined-rest}
use Rattle.exchange.specs.Leaf.{share}
use Rattle.exchange.proofs.Leaf.Laws.{SameAux, share-ext}
use Rattle.exchange.specs.Opening.{Exchange, aux_of, opened_state, opened_share, leaf_string}
use Rattle.exchange.specs.Extractor.{aux_from, state_from, output}
use Rattle.claims.specs.Words.{leaf_state, aux_state, leaf_share}
use Rattle.claims.proofs.Extraction.Strings.{length-opened, leaf-same}

pub record Matched (p : Parameters) (e e' : Exchange) : Type 0 where
  pub same-prefix : e.prefix ≡ e'.prefix
  pub same-message2 : e.message2 ≡ e'.message2
  pub inside : e.leaf < leaves p
  pub inside' : e'.leaf < leaves p
  pub apart : e.leaf ≡ e'.leaf → ⊥
  pub length5 : length e.message5 ≡ message5_length p e.leaf
  pub length5' : length e'.message5 ≡ message5_length p e'.leaf

module _ (hash : List ℕ → ℕ → List ℕ) (hash-length : (s : List ℕ) (n : ℕ) → length (hash s n) ≡ n) (p : Parameters) (e e' : Exchange)
    (matched : Matched p e e') where
  abbrev pub SameLeaves : Type 0
  SameLeaves = (i : ℕ) → i < leaves p → (i ≡ e.leaf → ⊥) → (i ≡ e'.leaf → ⊥) → leaf_string hash p e i ≡ leaf_string hash p e' i

  -- ---- what is taken is what either opening discloses

  pub from_first : (i : ℕ) → (i ≡ e.leaf → ⊥) → (state_from hash p e e' i ≡ opened_state hash p e i) × SameAux p i (aux_from p e e') (aux_of p e)
  unfolding state_from aux_from
  from_first i n = (
    rw (ne_eqb i e.leaf n),
    λ t. rw (is_last-false p e.leaf (λ z. n (is_last-last p i t ∙ sym z))),
  )

  pub from_second : SameLeaves → (i : ℕ) → i < leaves p → (i ≡ e'.leaf → ⊥)
      → (state_from hash p e e' i ≡ opened_state hash p e' i) × SameAux p i (aux_from p e e') (aux_of p e')
  from_second same i l n = go (ℕ_discrete i e.leaf)
    where
      go : Dec (i ≡ e.leaf) → (state_from hash p e e' i ≡ opened_state hash p e' i) × SameAux p i (aux_from p e e') (aux_of p e')
      go (yes z) = (
        unfold state_from in rw (eq-eqb i e.leaf z),
        λ t. unfold aux_from in rw (is_last-true p e.leaf (sym z ∙ is_last-last p i t)),
      )
      go (no z) =
          let f = from_first i z in
          let s = leaf-same hash hash-length p e e' matched.same-prefix i (same i l z n) in
          (f.0 ∙ s.0, λ t. f.1 t ∙ s.1 t)

  unfoldable pub share_from : ℕ → List ℕ
  share_from i = share hash p e.prefix i (state_from hash p e e' i) (aux_from p e e')

  pub share-first : (i : ℕ) → (i ≡ e.leaf → ⊥) → opened_share hash p e i ≡ share_from i
  unfolding opened_share share_from
  share-first i n = let f = from_first i n in sym (share-ext p e.prefix i _ _ _ _ hash f.0 f.1)

  pub share-second : SameLeaves → (i : ℕ) → i < leaves p → (i ≡ e'.leaf → ⊥) → opened_share hash p e' i ≡ share_from i
  unfolding opened_share share_from
  share-second same i l n =
      let f = from_second same i l n in
      ap (λ (s : List ℕ). share hash p s i (opened_state hash p e' i) (aux_of p e')) (sym matched.same-prefix)
      ∙ sym (share-ext p e.prefix i _ _ _ _ hash f.0 f.1)

  -- ---- the output, read back

  pub length_from : (i : ℕ) → length (state_from hash p e e' i) ≡ 32
  unfolding state_from
  length_from i = go (eqb i e.leaf)
    where
      go : (t : Bool) → length (cond t (opened_state hash p e' i) (opened_state hash p e i)) ≡ 32
      go true = length-opened hash hash-length p e e' matched.same-prefix e' i
      go false = length-opened hash hash-length p e e' matched.same-prefix e i

  pub leaf_state-is : (i : ℕ) → i < leaves p → leaf_state (output hash p e e') i ≡ state_from hash p e e' i
  unfolding leaf_state output
  leaf_state-is i l =
      ap (λ (n : ℕ). take 32 (drop n (joined (state_from hash p e e') (leaves p) ++ aux_from p e e'))) (mul_comm 32 i)
      ∙ joined_at (state_from hash p e e') 32 (leaves p) (λ i h. length_from i) (aux_from p e e') i l

  pub aux_state-is : aux_state p (output hash p e e') ≡ aux_from p e e'
  unfolding aux_state output
  aux_state-is =
      ap (λ (n : ℕ). drop n (joined (state_from hash p e e') (leaves p) ++ aux_from p e e')) (mul_comm 32 (leaves p))
      ∙ joined-rest (state_from hash p e e') 32 (leaves p) (λ i h. length_from i) (aux_from p e e')

  pub leaf_share-is : (i : ℕ) → i < leaves p → leaf_share hash p e.prefix (output hash p e e') i ≡ share_from i
  unfolding leaf_share share_from
  leaf_share-is i l = ap₂ (λ (s a : List ℕ). share hash p e.prefix i s a) (leaf_state-is i l) aux_state-is
