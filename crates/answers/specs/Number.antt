-- Document 01's numbers of refusals and answers.
--
-- refusal_number r      'Numbers caused by the input' (1 to 10), 'Numbers caused by the state' (11 to 13); 6 is unused; 14 is document 02's, request 02: 'A repeated point gets 14'
-- answer_number a       the number of the refusal, 0 where the call was carried out
use Rattle.std.specs.Prelude.{ℕ, Ok, Err}
use Rattle.answers.specs.declared.Refusal.{Refusal}
use Rattle.answers.specs.declared.Refusal.TheVariants.{Parameter, Length, Weight, Leaf, Commitment, Response, Exchange, SameLeaf, Malformed, NotDue, Closed, Repeated, SamePoint}
use Rattle.answers.specs.Answer.{Answer}
pub mod Laws

abbrev pub refusal_number : Refusal → ℕ
refusal_number Parameter = 1
refusal_number Length = 2
refusal_number Weight = 3
refusal_number Leaf = 4
refusal_number Commitment = 5
refusal_number Response = 7
refusal_number Exchange = 8
refusal_number SameLeaf = 9
refusal_number Malformed = 10
refusal_number NotDue = 11
refusal_number Closed = 12
refusal_number Repeated = 13
refusal_number SamePoint = 14

abbrev pub answer_number : Answer → ℕ
answer_number (Ok _) = 0
answer_number (Err r) = refusal_number r
