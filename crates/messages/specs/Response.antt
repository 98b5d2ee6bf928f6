-- Message 3 from the sums over the leaves.
--
-- Filled p x run sums           the sums over all leaves, aux added into the sum of all; and aux has its length
-- response_of p prefix key message2 sums   h' from the sums; no leaf is hidden, so that zeros stand for its values
use Rattle.std.specs.Prelude.{◌≡◌, List, length, replicate, ℕ}
use Rattle.shake256.specs.Fips.{SHAKE256}
use Rattle.parameters.specs.declared.Parameters.{Parameters}
use Rattle.layout.specs.Layout.{leaves, aux_length, values_length}
use Rattle.exchange.specs.Run.{Run}
use Rattle.exchange.specs.Sequences.{joined}
use Rattle.exchange.specs.Values.{Key}
use Rattle.exchange.specs.Messages.{own_aux}
use Rattle.parties.specs.Sums.Front.{filled}
use Rattle.axes.specs.Announcing.{row_of}
use Rattle.axes.specs.RowStrings.{rows_string}
use Rattle.messages.specs.Own.{own_states}

pub record Filled (p : Parameters) (x : List ℕ) (run : Run) (sums : List ℕ) : Type 0 where
  pub is : sums ≡ filled p run.prefix (own_states p run) (leaves p) (own_aux SHAKE256 p x run)
  pub sized : length (own_aux SHAKE256 p x run) ≡ aux_length p

unfoldable pub response_of : Parameters → List ℕ → Key → List ℕ → List ℕ → List ℕ
response_of p prefix key message2 sums =
    SHAKE256 (rows_string SHAKE256 p prefix (joined (row_of p key message2 sums (leaves p) (replicate (values_length p) 0)) p.axes)) 32
