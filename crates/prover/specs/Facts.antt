-- What the functions that check and carry out a call ask, and what the checks that passed say.
--
-- outcome_of a s out work            what a call gives
-- Ready s                           parameters and run count that a session holds are within their limits, and its x is not too heavy
-- Begins p runs x_a salt root matrix y work out   what begin's checks say
-- Starting p runs x salt root work out   the same of an x that stands at the front of 255 bytes
-- Answering s message2 matrix y work out  what the checks of points say
-- Opening s is matrix y work out    what the checks of leaf say
use Rattle.std.specs.Prelude.{◌≡◌, List, ℕ, ◌≤◌, ◌<◌, length, take, get_or}
use Rattle.answers.specs.Answer.{Answer}
use Rattle.answers.specs.Number.{answer_number}
use Rattle.parameters.specs.declared.Parameters.{Parameters}
use Rattle.relation.specs.Key.{vector_of, weight_of}
use Rattle.layout.specs.Layout.{leaves, work_length}
use Rattle.layout.specs.Runs.{message1_length, messages2_length, messages3_length, messages5_length}
use Rattle.layout.specs.Lent.{Lent}
use Rattle.prover.specs.Arguments.{Limited, lengths_of, Sized}
use Rattle.calls.specs.Prover.{Prover, Outcome, held_x}

abbrev pub outcome_of : Answer → Prover → List ℕ → List ℕ → Outcome
outcome_of a s out work = record { answer = answer_number a; prover = s; out = out; work = work }

pub record Begins (p : Parameters) (runs : ℕ) (x_a salt root matrix y work out : List ℕ) : Type 0 where
  pub limits : Limited p runs
  pub sized : Sized p runs (length x_a) (length matrix) (length y) (lengths_of salt root work out)
  pub light : weight_of (vector_of matrix y x_a) ≤ p.w

pub record Starting (p : Parameters) (runs : ℕ) (x salt root work out : List ℕ) : Type 0 where
  pub limits : Limited p runs
  pub light : weight_of (take p.m x) ≤ p.w
  pub salt-is : length salt ≡ 32
  pub root_is : length root ≡ 16
  pub work-fits : work_length p ≤ length work
  pub out-is : length out ≡ message1_length runs

pub record Ready (s : Prover) : Type 0 where
  pub limits : Limited s.parameters s.runs
  pub light : weight_of (held_x s) ≤ s.parameters.w

pub record Answering (s : Prover) (message2 matrix y work out : List ℕ) : Type 0 where
  pub ready : Ready s
  pub message2-is : length message2 ≡ messages2_length s.parameters s.runs
  pub out-is : length out ≡ messages3_length s.runs
  pub lent : Lent s.parameters (length matrix) (length y) (length work)

pub record Opening (s : Prover) (is matrix y work out : List ℕ) : Type 0 where
  pub ready : Ready s
  pub leaves-are : length is ≡ s.runs
  pub below : (e : ℕ) → e < length is → get_or is e 0 < leaves s.parameters
  pub out-is : length out ≡ messages5_length s.parameters is
  pub lent : Lent s.parameters (length matrix) (length y) (length work)
