-- What demand 2's last clause supposes can be had: document 01's sample key is valid, before the first begin an exchange may start with
-- every salt and root, after a begin with every other salt, at one position any points are distinct, and there are slices that fit.
--
-- sample-valid                  document 01's sample is a valid key
-- fresh_start                   before the first begin no salt and root is refused
-- one-position                  at one position, as document 01's sample has it, any points are distinct
-- blank-fits                    slices of zeros, of the least lengths, fit
-- sample-leaves                 a leaf for each of two runs
-- begun-last                    a begin is carried out, so it is the last begin
-- other-start                   after it an exchange may start with every other salt
-- same-refused                  but not with the same salt and root
use Rattle.std.specs.Prelude.{◌≡◌, refl, ℕ, zero, suc, ◌<◌, length, get_or, replicate}
use Rattle.std.proofs.Common.{sym, ◌∙◌, le_of_eq, arith, lit<, lit≤}
use Rattle.std.proofs.Math.Path.{ap}
use mathlib.Core.List.{List, [], ◌∷◌}
use Rattle.std.proofs.Math.Option.{some, none-ne-some, some-injective}
use Rattle.std.proofs.lemmas.List.{length-replicate}
use Rattle.lists.specs.Xor.{◌⊕◌}
use Rattle.lists.specs.Sum.{xor_list}
use Rattle.bytefield.specs.Product.{reduction, xtime, times_bits, ◌⊗◌}
use Rattle.parameters.specs.declared.Parameters.{Parameters}
use Rattle.parameters.specs.Limits.{Within, limits, within_limits}
use Rattle.parameters.specs.Limits.Laws.{test-within}
use Rattle.relation.specs.Key.{dot, rows, vector_of, weight_of}
use Rattle.layout.specs.Layout.{bits, leaves, work_length}
use Rattle.layout.specs.Runs.{message1_length, messages3_length, messages5_length}
use Rattle.layout.specs.Runs.Laws.{RunsWithin}
use Rattle.runs.specs.Points.{DistinctPoints}
use Rattle.calls.specs.Prover.{Outcome}
use Rattle.calls.specs.Prover.History.{Begin, begin_call, outcome, after, made, begun, last_begin}
use Rattle.claims.specs.Completeness.{ValidKey, MayStart, Leaves, Fitting}
use Rattle.claims.proofs.Completeness.Reached.{may-start}
use Rattle.claims.proofs.Completeness.Sessions.{prover_begin-is}
use Rattle.claims.specs.Completeness.Sample.{sample, sample_key, sample_x_a, blank, sample_begin, begun_with}

sample-within : Within sample
unfolding limits within_limits
sample-within = test-within sample refl

sample-weight : weight_of (vector_of sample_key.matrix sample_key.y sample_x_a) ≡ 1
unfolding weight_of vector_of rows dot xor_list ◌⊗◌ times_bits xtime reduction ◌⊕◌
sample-weight = refl

pub sample-valid : ValidKey sample sample_key sample_x_a
sample-valid = record {
  within = sample-within;
  lent = record { matrix = refl; y = refl };
  long = refl;
  light = le_of_eq sample-weight;
  bytes-y = (lit< tt, tt);
  bytes-x_a = (lit< tt, tt);
}

pub fresh_start : (salt root : List ℕ) → length salt ≡ 32 → length root ≡ 16 → MayStart [] salt root
unfolding last_begin
fresh_start salt root h k = record { salt-length = h; root-length = k; not-repeated = λ b e r. none-ne-some b e }

pub one-position : (p : Parameters) → p.t ≡ 1 → (runs : ℕ) (m2 : List ℕ) → DistinctPoints p runs m2
one-position p one runs m2 e i l k a b q c = q (omega arith)

pub blank-fits : (p : Parameters) (runs : ℕ) (is : List ℕ) → Fitting p runs is (blank p runs is)
blank-fits p runs is = record {
  begin-work = le_of_eq (sym (zeros (work_length p)));
  begin-out = zeros (message1_length runs);
  points-work = le_of_eq (sym (zeros (work_length p)));
  points-out = zeros (messages3_length runs);
  leaf-work = le_of_eq (sym (zeros (work_length p)));
  leaf-out = zeros (messages5_length p is);
  opening-work = le_of_eq (sym (zeros (work_length p)));
}
  where
    zeros : (n : ℕ) → length {A = ℕ} (replicate n 0) ≡ n
    zeros n = length-replicate n 0

-- as many leaves as runs
pub sample-leaves : Leaves sample 2 (1 ∷ 0 ∷ [])
unfolding bits
sample-leaves = record { one-a-run = refl; below = below }
  where
    below : (e : ℕ) → e < 2 → get_or (1 ∷ 0 ∷ []) e 0 < leaves sample
    below zero l = lit< tt
    below (suc zero) l = lit< tt
    below (suc (suc e)) l = absurd (omega arith)

two_runs : RunsWithin 2
two_runs = record { least = lit≤ tt; most = lit≤ tt }

-- ---- after a begin

module _ (hash : List ℕ → ℕ → List ℕ) (salt root : List ℕ) (salt-length : length salt ≡ 32) (root-length : length root ≡ 16) where
  carried-out : (outcome hash (after hash []) (begin_call (sample_begin salt root) (blank sample 2 (0 ∷ 0 ∷ [])).begin-work (blank sample 2 (0 ∷ 0 ∷ [])).begin-out)).answer ≡ 0
  unfolding outcome
  carried-out =
      ap (λ (o : Outcome). o.answer)
      (prover_begin-is hash sample 2 two_runs sample_key sample_x_a sample-valid salt root (after hash []) salt-length root-length
      (may-start hash [] salt root (unfold made in fresh_start salt root salt-length root-length))
      (blank sample 2 (0 ∷ 0 ∷ [])).begin-work (blank sample 2 (0 ∷ 0 ∷ [])).begin-out (blank-fits sample 2 (0 ∷ 0 ∷ [])).begin-work (blank-fits sample 2 (0 ∷ 0 ∷ [])).begin-out)

  pub begun-last : last_begin (made hash (begun_with salt root)) ≡ some (sample_begin salt root)
  unfolding made last_begin begun
  begun-last = rw carried-out

  pub other-start : (salt' root' : List ℕ) → length salt' ≡ 32 → length root' ≡ 16 → (salt' ≡ salt → ⊥) → MayStart (made hash (begun_with salt root)) salt' root'
  other-start salt' root' h k n = record {
    salt-length = h;
    root-length = k;
    not-repeated = λ b e r. n (r.0 ∙ ap (λ (b : Begin). b.salt) (some-injective _ _ (sym e ∙ begun-last)));
  }

  pub same-refused : MayStart (made hash (begun_with salt root)) salt root → ⊥
  same-refused start = start.not-repeated (sample_begin salt root) begun-last (refl, refl)
