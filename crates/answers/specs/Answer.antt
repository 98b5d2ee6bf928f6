-- What a call answers.
--
-- Answer          `Ok` where the call was carried out, `Err r` where it is refused for the reason r
use Rattle.std.specs.Prelude.{Result, ⊤}
use Rattle.answers.specs.declared.Refusal.{Refusal}

abbrev pub Answer : Type 0
Answer = Result ⊤ Refusal
