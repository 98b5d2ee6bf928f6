-- The laws of calls that name their parameters by a set.
--
-- set-not      another count of numbers
-- set_so       five numbers, from what the call gave with the parameters that were read
-- set-named    the numbers of parameters name them
use Rattle.std.specs.Prelude.{◌≡◌, List, ℕ, length}
use Rattle.std.proofs.Common.{sym, ap, ◌∙◌}
use Rattle.parameters.specs.declared.Parameters.{Parameters}
use Rattle.parameters.specs.Set.{set_length, numbers_of, parameters_of}
use Rattle.parameters.specs.Set.Laws.{length-numbers}
use Rattle.stored.proofs.Laws.Buffer.{fits_not, fits-so}
use Rattle.capi.specs.Set.{with_set}

module _ {A : Type 0} (ns : List ℕ) (call : Parameters → A) (other : A) where
  pub set-not : (length ns ≡ set_length → ⊥) → other ≡ with_set ns call other
  set-not h = fits_not ns set_length (call (parameters_of ns)) other h

  pub set_so : (p : Parameters) → length ns ≡ set_length → p ≡ parameters_of ns → call p ≡ with_set ns call other
  set_so p e is = ap call is ∙ fits-so ns set_length (call (parameters_of ns)) other e

pub set-named : {A : Type 0} (p : Parameters) (call : Parameters → A) (other : A) → with_set (numbers_of p) call other ≡ call p
set-named p call other = sym (fits-so (numbers_of p) set_length (call p) other (length-numbers p))
