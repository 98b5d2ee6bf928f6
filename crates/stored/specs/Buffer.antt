-- A session in a buffer that the caller lends.
--
-- fits b n call other   what the call gives; where the buffer b has not n bytes, the other
-- after n old new       the buffer after a call with the number n: the session written anew where the call was carried out (0), else as it was
-- Kept                  a call's number, and the bytes in the buffer after it
-- misfit b              2, and nothing else changes
use Rattle.std.specs.Prelude.{cond, List, ℕ, eqb, length}
use Rattle.answers.specs.Number.{refusal_number}
use Rattle.answers.specs.declared.Refusal.TheVariants.{Length}

unfoldable pub fits : {A : Type 0} → List ℕ → ℕ → A → A → A
fits b n call other = cond (eqb (length b) n) call other

abbrev pub after : ℕ → List ℕ → List ℕ → List ℕ
after n old new = cond (eqb n 0) new old

pub record Kept : Type 0 where
  pub number : ℕ
  pub session : List ℕ

abbrev pub kept : ℕ → List ℕ → Kept
kept n b = record { number = n; session = b }

abbrev pub misfit : List ℕ → Kept
misfit b = kept (refusal_number Length) b
