-- What a history of calls tells, or nothing.
--
-- is_some o         there is something
-- or_else o o'      what o tells, else what o' tells
-- told o d f       f of what o tells, d where it tells nothing
use Rattle.std.specs.Prelude.{Bool, true, false}
use Rattle.std.proofs.Math.Option.{Option, none, some}

abbrev pub is_some : {A : Type 0} → Option A → Bool
is_some none = false
is_some (some a) = true

abbrev pub or_else : {A : Type 0} → Option A → Option A → Option A
or_else none o = o
or_else (some a) o = some a

abbrev pub told : {A B : Type 0} → Option A → B → (A → B) → B
told none d f = d
told (some a) d f = f a
