-- The laws of an opening's checks.
--
-- sums-agree               the sums of α, β and v agree on all axes, whatever the opening holds
-- accepted-then, accepted-when   the verdict is `Ok` exactly when the opening is `Accepted`
-- commitment-disclosed     the commitment of a disclosed leaf
-- length-commitments       commitments have 32 bytes, where message 5 has its length
use Rattle.std.specs.Prelude.{◌≡◌, Bool, cond, ℕ, eqb, Ok}
use Rattle.std.proofs.Math.Path.{sym, ap, ap₂}
use Rattle.std.proofs.Common.{◌∙◌, arith, ne_eqb, length-take, length-drop}
use Rattle.std.proofs.Math.Bool.{true, false}
use mathlib.Core.List.{List, ◌++◌}
use Rattle.std.proofs.Math.ListN.{length}
use Rattle.lists.specs.Equal.{eq_list}
use Rattle.lists.specs.Equal.Laws.{eq_list-true, eq_list-of}
use Rattle.tower.specs.Field.{Point}
use Rattle.answers.specs.Checks.Laws.{check-true, check-rest}
use Rattle.parameters.specs.declared.Parameters.{Parameters}
use Rattle.layout.specs.Layout.{message5_length}
use Rattle.exchange.proofs.Reading.Laws.{encode-ext}
use Rattle.exchange.specs.Values.{Key}
use Rattle.exchange.specs.Parties.{sums_of}
use Rattle.exchange.specs.Opening.{Exchange, commitment_of, leaf_string, leaf_commitment, commitment_string, announced, verdict, Accepted}
use Rattle.exchange.proofs.Opening.Cube.{hats, opened-hats, opened-v-zero}

module _ (hash : List ℕ → ℕ → List ℕ) (p : Parameters) (e : Exchange) (key : Key) where
  pub sums-agree : (j j' : ℕ) → sums_of p (announced hash p e key j) ≡ sums_of p (announced hash p e key j')
  unfolding sums_of announced
  sums-agree j j' =
      ap₂ ◌++◌ (encode-ext _ _ p.t (λ l h. ap (λ (z : Point × Point). z.0) (same l)))
      (ap₂ ◌++◌ (encode-ext _ _ p.t (λ l h. ap (λ (z : Point × Point). z.1) (same l)))
      (encode-ext _ _ p.t (λ l h. opened-v-zero hash p e key l j ∙ sym (opened-v-zero hash p e key l j'))))
    where
      same : (l : ℕ) → hats hash p e key l j ≡ hats hash p e key l j'
      same l = opened-hats hash p e key l j ∙ sym (opened-hats hash p e key l j')

  -- ---- acceptance

  pub accepted-when : Accepted hash p e key → verdict hash p e key ≡ Ok tt
  unfolding verdict
  accepted-when a = rw (eq_list-of _ _ a.commitment, eq_list-of _ _ a.response)

  pub accepted-then : verdict hash p e key ≡ Ok tt → Accepted hash p e key
  unfolding verdict
  accepted-then q =
      let rest = check-rest (eq_list (hash (commitment_string hash p e) 32) e.h) _ _ q in
      record {
        commitment = eq_list-true _ _ (check-true _ _ _ q);
        sums_same = λ j h. sums-agree j 0;
        response = eq_list-true _ _ (check-true _ _ _ rest);
      }

-- ---- commitments

module _ (hash : List ℕ → ℕ → List ℕ) (p : Parameters) (e : Exchange) where
  pub commitment-disclosed : (i : ℕ) → (i ≡ e.leaf → ⊥) → leaf_commitment hash p e i ≡ hash (leaf_string hash p e i) 32
  unfolding leaf_commitment
  commitment-disclosed i n = rw (ne_eqb i e.leaf n)

  pub length-commitments : ((s : List ℕ) (n : ℕ) → length (hash s n) ≡ n) → length e.message5 ≡ message5_length p e.leaf
      → (i : ℕ) → length (leaf_commitment hash p e i) ≡ 32
  unfolding leaf_commitment message5_length commitment_of
  length-commitments hash-length h i = go (eqb i e.leaf)
    where
      go : (b : Bool) → length (cond b (commitment_of p e) (hash (leaf_string hash p e i) 32)) ≡ 32
      go true = simp (length-take, length-drop) (omega arith)
      go false = hash-length (leaf_string hash p e i) 32
