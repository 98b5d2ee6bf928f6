-- One run of two accepted openings: where no two of its strings are unequal, the run's part of the output is every leaf's state.
--
-- states-hold          the states of a run
use Rattle.std.specs.Prelude.{◌≡◌, refl, ℕ, ◌-◌, ◌<◌, length}
use Rattle.std.proofs.Math.Path.{sym, ap}
use Rattle.std.proofs.Common.{◌∙◌, arith}
use mathlib.Core.List.{List}
use Rattle.std.proofs.Math.Decide.{ℕ_discrete}
use Rattle.parameters.specs.declared.Parameters.{Parameters}
use Rattle.layout.specs.Layout.{leaves, y_length}
use Rattle.layout.specs.Layout.Laws.{leaves-pos, is_last-true}
use Rattle.exchange.proofs.FirstAxis.{first_axis, first-inside, first-apart}
use Rattle.exchange.specs.Strings.{string4}
use Rattle.exchange.specs.Leaf.{commitment}
use Rattle.exchange.proofs.Leaf.Laws.{SameAux, string4-ext}
use Rattle.exchange.specs.Values.{Key}
use Rattle.exchange.specs.Opening.{Exchange, aux_of, opened_state, leaf_string, leaf_commitment}
use Rattle.exchange.proofs.Opening.Laws.{commitment-disclosed}
use Rattle.exchange.specs.Extractor.{axis, output}
use Rattle.claims.specs.Words.{States, leaf_state, aux_state}
use Rattle.claims.proofs.Extraction.Leaves.{Matched, from_first, from_second, leaf_state-is, aux_state-is}
use Rattle.claims.proofs.Extraction.Relation.{witness-holds}
use Rattle.claims.proofs.Extraction.Compared.{Alike, AllEqual, same-leaves, same-axis, same-commitments}

module _ (hash : List ℕ → ℕ → List ℕ) (hash-length : (s : List ℕ) (n : ℕ) → length (hash s n) ≡ n) (p : Parameters) (key : Key)
    (short : p.k < p.m) (y-length : length key.y ≡ y_length p) (e e' : Exchange) (alike : Alike hash p key e e')
    (all-equal : AllEqual hash hash-length p key e e' alike) where
  abbrev matched : Matched p e e'
  matched = alike.matched

  abbrev taken : List ℕ
  taken = output hash p e e'

  agree : (i : ℕ) → i < leaves p → (i ≡ e.leaf → ⊥) → (i ≡ e'.leaf → ⊥) → leaf_string hash p e i ≡ leaf_string hash p e' i
  agree = same-leaves hash hash-length p key e e' alike all-equal

  -- the state of a leaf in the output, and aux, is the one that an opening discloses
  out_first : (i : ℕ) → i < leaves p → (i ≡ e.leaf → ⊥) → (leaf_state taken i ≡ opened_state hash p e i) × SameAux p i (aux_state p taken) (aux_of p e)
  out_first i l n =
      let f = from_first hash hash-length p e e' matched i n in
      (leaf_state-is hash hash-length p e e' matched i l ∙ f.0, λ t. aux_state-is hash hash-length p e e' matched ∙ f.1 t)

  out-second : (i : ℕ) → i < leaves p → (i ≡ e'.leaf → ⊥) → (leaf_state taken i ≡ opened_state hash p e' i) × SameAux p i (aux_state p taken) (aux_of p e')
  out-second i l n =
      let f = from_second hash hash-length p e e' matched agree i l n in
      (leaf_state-is hash hash-length p e e' matched i l ∙ f.0, λ t. aux_state-is hash hash-length p e e' matched ∙ f.1 t)

  commits-first : (i : ℕ) → i < leaves p → (i ≡ e.leaf → ⊥)
      → commitment hash p e.prefix i (leaf_state taken i) (aux_state p taken) ≡ leaf_commitment hash p e i
  unfolding commitment leaf_string
  commits-first i l n =
      let f = out_first i l n in
      ap (λ (s : List ℕ). hash s 32) (string4-ext p e.prefix i _ _ _ _ f.0 f.1) ∙ sym (commitment-disclosed hash p e i n)

  commits-second : (i : ℕ) → i < leaves p → (i ≡ e'.leaf → ⊥)
      → commitment hash p e.prefix i (leaf_state taken i) (aux_state p taken) ≡ leaf_commitment hash p e' i
  unfolding commitment leaf_string
  commits-second i l n =
      let f = out-second i l n in
      ap (λ (s : List ℕ). hash s 32)
      (string4-ext p e.prefix i _ _ _ _ f.0 f.1
      ∙ ap (λ (s : List ℕ). string4 p s i (opened_state hash p e' i) (aux_of p e')) matched.same-prefix)
      ∙ sym (commitment-disclosed hash p e' i n)

  same-commitment : (i : ℕ) → i < leaves p → leaf_commitment hash p e i ≡ leaf_commitment hash p e' i
  same-commitment = same-commitments hash hash-length p key e e' alike all-equal

  commits : (i : ℕ) → i < leaves p → commitment hash p e.prefix i (leaf_state taken i) (aux_state p taken) ≡ leaf_commitment hash p e i
  commits i l = go (ℕ_discrete i e.leaf)
    where
      go : Dec (i ≡ e.leaf) → commitment hash p e.prefix i (leaf_state taken i) (aux_state p taken) ≡ leaf_commitment hash p e i
      go (yes z) = commits-second i l (λ z'. matched.apart (sym z ∙ z')) ∙ sym (same-commitment i l)
      go (no n) = commits-first i l n

  last_leaf : leaves p - 1 < leaves p
  last_leaf = let h = leaves-pos p in omega arith

  -- the relation comes from the first axis on which the hidden leaves differ
  pub states-hold : States hash p key e e' taken
  states-hold = record {
    opened = λ i l n. (out_first i l n).0;
    opened' = λ i l n. (out-second i l n).0;
    aux = λ n. (out_first (leaves p - 1) last_leaf n).1 (is_last-true p (leaves p - 1) refl);
    aux' = λ n. (out-second (leaves p - 1) last_leaf n).1 (is_last-true p (leaves p - 1) refl);
    commitments = commits;
    commitments' = λ i l. commits i l ∙ same-commitment i l;
    witness =
        witness-holds hash hash-length p key short y-length e e' matched agree (first_axis p e.leaf e'.leaf)
        (first-apart p e.leaf e'.leaf matched.inside matched.inside' matched.apart)
        (same-axis hash hash-length p key e e' alike all-equal (first_axis p e.leaf e'.leaf)
        (first-inside p e.leaf e'.leaf matched.inside matched.inside' matched.apart));
  }
