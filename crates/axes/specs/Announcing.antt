-- What the parties of an axis announce, from the sums of their disclosed leaves: for prover and verifier alike. No leaf is
-- hidden where the number of the hidden leaf is not below n; then no party holds one.
--
-- party_from p sums j c     the sum of the disclosed leaves of party c on axis j, from the sum of all disclosed leaves and those of
--                          all parties but the last one of each axis, which has what these leave
-- hidden_from p leaf hidden j   the party that holds the hidden leaf on axis j, with that leaf's α and β, which stand in `hidden`
-- row_of p key m2 sums leaf hidden j   what is hashed of axis j behind its number
use Rattle.std.specs.Prelude.{List, ℕ, ◌+◌, ◌*◌}
use Rattle.parameters.specs.declared.Parameters.{Parameters}
use Rattle.layout.specs.Layout.{side, sum_index, factor_length}
use Rattle.exchange.specs.Sequences.{joined}
use Rattle.exchange.specs.Reading.{point_at}
use Rattle.exchange.specs.Values.{Key}
use Rattle.exchange.specs.Parties.{announced_bytes}
use Rattle.exchange.specs.Announcing.{Hidden, announced_by}
use Rattle.coefficients.specs.Shares.{share_of}
use Rattle.parties.specs.Sums.{with_last}
use Rattle.axes.specs.Row.{hidden_party}

unfoldable pub party_from : Parameters → List ℕ → ℕ → ℕ → List ℕ
party_from p sums j = with_last p (share_of p sums p.axes) (λ c. share_of p sums (sum_index p j c))

abbrev pub hidden_from : Parameters → ℕ → List ℕ → ℕ → Hidden
hidden_from p leaf hidden j =
    record { party = hidden_party p leaf j; α = λ l. point_at hidden (4 * l); β = λ l. point_at hidden (factor_length p + 4 * l) }

unfoldable pub row_of : Parameters → Key → List ℕ → List ℕ → ℕ → List ℕ → ℕ → List ℕ
row_of p key m2 sums leaf hidden j =
    joined
    (announced_bytes p (announced_by p key m2 (party_from p sums j) (hidden_from p leaf hidden j)))
    (side p)
