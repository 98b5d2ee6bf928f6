-- The laws of the lengths.
--
-- within-length, within-limits   a set within its limits has five numbers, and names parameters within theirs
-- sized-not, sized-so            the length, by the test of the set
-- runs-not, runs_so              the length, by the test of the run count first
use Rattle.std.specs.Prelude.{◌≡◌, refl, Bool, true, false, cond, List, ℕ, eqb, length}
use Rattle.std.proofs.Common.{ap, ◌∙◌}
use Rattle.std.proofs.lemmas.Bool.{false≢true}
use borrow.Author.Tests.{eqb-true}
use Rattle.parameters.specs.declared.Parameters.{Parameters}
use Rattle.parameters.specs.Limits.{within_limits, Within}
use Rattle.parameters.specs.Limits.Laws.{test-within}
use Rattle.parameters.specs.Set.{set_length, parameters_of}
use Rattle.stored.specs.Buffer.{fits}
use Rattle.layout.specs.Runs.{runs_within}
use Rattle.capi.specs.Sizes.{set_within, sized, sized_runs}

both_true : (a b : Bool) → cond a b false ≡ true → (a ≡ true) × (b ≡ true)
both_true true b e = (refl, e)
both_true false b e = absurd (false≢true e)

module _ (ns : List ℕ) where
  pub within-length : set_within ns ≡ true → length ns ≡ set_length
  unfolding fits
  within-length e = eqb-true (length ns) set_length (both_true (eqb (length ns) set_length) (within_limits (parameters_of ns)) e).0

  pub within-limits : set_within ns ≡ true → Within (parameters_of ns)
  unfolding fits
  within-limits e = test-within (parameters_of ns) (both_true (eqb (length ns) set_length) (within_limits (parameters_of ns)) e).1

  pub sized-not : (f : Parameters → ℕ) → set_within ns ≡ false → 0 ≡ sized ns f
  sized-not f e = rw e

  pub sized-so : (f : Parameters → ℕ) (p : Parameters) (n : ℕ) → set_within ns ≡ true → p ≡ parameters_of ns → n ≡ f p → n ≡ sized ns f
  sized-so f p n e is so = rw e (so ∙ ap f is)

  pub runs-not : (n : ℕ) (f : Parameters → ℕ) → runs_within n ≡ false → 0 ≡ sized_runs ns n f
  runs-not n f e = rw e

  pub runs_so : (n : ℕ) (f : Parameters → ℕ) (r : ℕ) → runs_within n ≡ true → r ≡ sized ns f → r ≡ sized_runs ns n f
  runs_so n f r e so = rw e so
