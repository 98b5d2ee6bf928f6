-- What an opening is held to, in one list: h, h', message 2, then the prefix, which is the rest.
--
-- statement_of h h' m2 pre        the list of these
-- statement_at p e m1 m2 m3       that of run e, from messages 1 to 3 of its exchange
-- digest_in s, response_in s       h and h'
-- message2_in p s, prefix_in p s   message 2 and the prefix
-- exchange_in p s leaf m5         the exchange that has these, a hidden leaf and a message 5
-- StatementAsked                 a run, messages 1 to 3 that reach it, and room for the list
use Rattle.std.specs.Prelude.{◌≡◌, List, ◌++◌, ℕ, ◌+◌, ◌*◌, ◌≤◌, ◌<◌, length, take, drop}
use Rattle.lists.specs.Part.{part}
use Rattle.parameters.specs.declared.Parameters.{Parameters}
use Rattle.parameters.specs.Limits.{Within}
use Rattle.layout.specs.Layout.{message2_length, message2_place, prefix_place, statement_length}
use Rattle.layout.specs.Maxima.{most_runs}
use Rattle.layout.specs.Runs.{digest_place}
use Rattle.exchange.specs.Opening.{Exchange}
use Rattle.runs.specs.Run.{run_prefix}
use Rattle.runs.specs.Messages.{message2_at}
use Rattle.runs.specs.Opening.{message3_at}
pub mod Laws

unfoldable pub statement_of : List ℕ → List ℕ → List ℕ → List ℕ → List ℕ
statement_of h h' m2 prefix = h ++ (h' ++ (m2 ++ prefix))

unfoldable pub statement_at : Parameters → ℕ → List ℕ → List ℕ → List ℕ → List ℕ
statement_at p e m1 m2 m3 = statement_of (part m1 (digest_place e) 32) (message3_at m3 e) (message2_at p m2 e) (run_prefix (take 32 m1) e)

unfoldable pub digest_in : List ℕ → List ℕ
digest_in s = take 32 s

unfoldable pub response_in : List ℕ → List ℕ
response_in s = part s 32 32

unfoldable pub message2_in : Parameters → List ℕ → List ℕ
message2_in p s = part s message2_place (message2_length p)

unfoldable pub prefix_in : Parameters → List ℕ → List ℕ
prefix_in p s = drop (prefix_place p) s

unfoldable pub exchange_in : Parameters → List ℕ → ℕ → List ℕ → Exchange
exchange_in p s leaf m5 = record { prefix = prefix_in p s; h = digest_in s; message2 = message2_in p s; message3 = response_in s; leaf = leaf; message5 = m5 }

pub record StatementAsked (p : Parameters) (e : ℕ) (m1 m2 m3 out : List ℕ) : Type 0 where
  pub within : Within p
  pub few : e < most_runs
  pub reaches-message1 : digest_place e + 32 ≤ length m1
  pub reaches-message2 : e * message2_length p + message2_length p ≤ length m2
  pub reaches-message3 : e * 32 + 32 ≤ length m3
  pub room : length out ≡ statement_length p
