-- The parameters as a call names them: the numbers of a set (parameters/specs/Set.antt).
--
-- with_set ns call other   the call with the parameters that ns names; another count of numbers gives the other
use Rattle.std.specs.Prelude.{List, ℕ}
use Rattle.parameters.specs.declared.Parameters.{Parameters}
use Rattle.parameters.specs.Set.{set_length, parameters_of}
use Rattle.stored.specs.Buffer.{fits}
pub mod Laws

abbrev pub with_set : {A : Type 0} → List ℕ → (Parameters → A) → A → A
with_set ns call other = fits ns set_length (call (parameters_of ns)) other
