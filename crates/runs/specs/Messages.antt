-- The prover's messages of an exchange of n runs, from those of its runs: 'message 1 carries the salt and one h a run, and every other message is
-- the runs' messages one after another' (document 02, request 01).
--
-- message2_at p m2 e   run e's part of message 2
-- leaf_at is e         run e's part of message 4, its hidden leaf
-- digest_of e          h of run e: what follows the prefix in the run's message 1
-- message1            salt, then h of each run
-- message3            h' of each run
-- message5 is         message 5 of each run
use Rattle.std.specs.Prelude.{List, ◌++◌, ℕ, ◌*◌, get_or, drop}
use Rattle.lists.specs.Part.{part}
use Rattle.parameters.specs.declared.Parameters.{Parameters}
use Rattle.layout.specs.Layout.{message2_length, prefix_length}
use Rattle.exchange.specs.Sequences.{joined}
use Rattle.exchange.specs.Values.{Key}
use Rattle.exchange.specs.Messages as run
use Rattle.runs.specs.Run.{run_at}

unfoldable pub message2_at : Parameters → List ℕ → ℕ → List ℕ
message2_at p m2 e = part m2 (e * message2_length p) (message2_length p)

abbrev pub leaf_at : List ℕ → ℕ → ℕ
leaf_at is e = get_or is e 0

module _ (hash : List ℕ → ℕ → List ℕ) (p : Parameters) (n : ℕ) (x salt root : List ℕ) where
  unfoldable pub digest_of : ℕ → List ℕ
  digest_of e = drop prefix_length (run.message1 hash p x (run_at hash salt root e))

  unfoldable pub message1 : List ℕ
  message1 = salt ++ joined digest_of n

  module _ (key : Key) (m2 : List ℕ) where
    unfoldable pub message3 : List ℕ
    message3 = joined (λ e. run.message3 hash p x (run_at hash salt root e) key (message2_at p m2 e)) n

    unfoldable pub message5 : List ℕ → List ℕ
    message5 is = joined (λ e. run.message5 hash p x (run_at hash salt root e) key (message2_at p m2 e) (leaf_at is e)) n
