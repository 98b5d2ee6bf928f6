-- The messages of several runs (document 02, request 01): how many runs there may be, how long the messages are, where each run's part lies.
-- Runs count from 0. In messages 2 and 3 and in the output the part of run e lies at e times its length.
--
-- runs_within n           'An exchange gets 1 to 32 runs'
-- message1_length n       'message 1 carries the salt and one h a run'
-- digest_place e          where h of run e starts in it
-- messages2_length p n    message 2: 't points r, t multipliers ε' a run
-- messages3_length n      message 3: h' a run
-- messages5_length p is   message 5, from the hidden leaves of its runs: each part is as long as its leaf gives
-- message5_place p is e   where the part of run e starts in it
-- outputs_length p n      the extractor's output 'has a part for each run'
use Rattle.std.specs.Prelude.{Bool, ◌&&◌, List, [], ◌∷◌, ℕ, ◌+◌, ◌*◌, leb, take}
use Rattle.parameters.specs.declared.Parameters.{Parameters}
use Rattle.layout.specs.Layout.{message2_length, message5_length, output_length}
use Rattle.layout.specs.Maxima.{most_runs}
pub mod Laws

unfoldable pub runs_within : ℕ → Bool
runs_within n = leb 1 n && leb n most_runs

abbrev pub message1_length : ℕ → ℕ
message1_length n = 32 + n * 32

abbrev pub digest_place : ℕ → ℕ
digest_place e = 32 + e * 32

abbrev pub messages2_length : Parameters → ℕ → ℕ
messages2_length p n = n * message2_length p

abbrev pub messages3_length : ℕ → ℕ
messages3_length n = n * 32

unfoldable pub messages5_length : Parameters → List ℕ → ℕ
messages5_length p [] = 0
messages5_length p (i ∷ is) = message5_length p i + messages5_length p is

abbrev pub message5_place : Parameters → List ℕ → ℕ → ℕ
message5_place p is e = messages5_length p (take e is)

abbrev pub outputs_length : Parameters → ℕ → ℕ
outputs_length p n = n * output_length p
