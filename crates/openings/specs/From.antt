-- What each step makes from what it is lent.
--
-- digest_from p pre leaf c a st n   n bytes of the digest of all commitments, from the states st, and commitment c and aux a of message 5
-- announced_from p key m2 sums leaf v    what the parties of every axis announce, from the sums, and α and β in v
-- response_from p pre rows n        n bytes of the digest of what the parties of every axis announce
-- judged p s leaf a o              the answer, from the comparisons of the two digests of what an opening gives in o with h and h' of the statement s
use Rattle.std.specs.Prelude.{List, [], ◌∷◌, ℕ}
use Rattle.shake256.specs.Fips.{SHAKE256}
use Rattle.lists.specs.Equal.{eq_list}
use Rattle.answers.specs.Answer.{Answer}
use Rattle.answers.specs.declared.Refusal.TheVariants.{Commitment, Response}
use Rattle.answers.specs.Checks.{checks}
use Rattle.parameters.specs.declared.Parameters.{Parameters}
use Rattle.layout.specs.Layout.{leaves}
use Rattle.exchange.specs.Sequences.{joined}
use Rattle.exchange.specs.Strings.{string5}
use Rattle.exchange.specs.Values.{Key}
use Rattle.leaves.specs.Commitments.{commitments_of}
use Rattle.axes.specs.Announcing.{row_of}
use Rattle.axes.specs.RowStrings.{rows_string}
use Rattle.openings.specs.Statement.{digest_in, response_in, prefix_in}
use Rattle.openings.specs.Parts.{states_in, rows_in, hidden_commitment}

unfoldable pub digest_from : Parameters → List ℕ → ℕ → List ℕ → List ℕ → List ℕ → ℕ → List ℕ
digest_from p prefix leaf commitment aux states n = SHAKE256 (string5 prefix (commitments_of p prefix states leaf commitment aux) (leaves p)) n

unfoldable pub announced_from : Parameters → Key → List ℕ → List ℕ → ℕ → List ℕ → List ℕ
announced_from p key m2 sums leaf values = joined (row_of p key m2 sums leaf values) p.axes

unfoldable pub response_from : Parameters → List ℕ → List ℕ → ℕ → List ℕ
response_from p prefix rows n = SHAKE256 (rows_string SHAKE256 p prefix rows) n

unfoldable pub judged : Parameters → List ℕ → ℕ → List ℕ → List ℕ → Answer
judged p s leaf aux o =
    checks (
    (eq_list (digest_from p (prefix_in p s) leaf (hidden_commitment p o) aux (states_in p o) 32) (digest_in s), Commitment)
    ∷ (eq_list (response_from p (prefix_in p s) (rows_in p o) 32) (response_in s), Response)
    ∷ []
    )
