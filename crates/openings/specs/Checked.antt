-- What the check of an opening gives.
--
-- LeavesOpened p pre leaf a work o work' o'   from the sibling seeds in the front of the work area and aux a: the states of all leaves in o', the sums of the
--                            disclosed leaves in the front of the work area, which stays behind them; the commitment in o stays
-- AxesOpened p s leaf v key work o work' o'   what the parties of every axis announce, from these sums, in o' too, and a work area of zeros
-- Checked p e key r work o   the verdict, a work area of zeros, and what the opening gives of leaves and axes, with message 5's commitment, in o
use Rattle.std.specs.Prelude.{◌≡◌, List, ℕ, take, drop, replicate}
use Rattle.shake256.specs.Fips.{SHAKE256}
use Rattle.answers.specs.Answer.{Answer}
use Rattle.parameters.specs.declared.Parameters.{Parameters}
use Rattle.layout.specs.Layout.{siblings_length, sums_length, work_length}
use Rattle.exchange.specs.Values.{Key}
use Rattle.exchange.specs.Opening.{Exchange, commitment_of, verdict}
use Rattle.leaves.specs.States.{states_from}
use Rattle.parties.specs.Sums.Front.{filled}
use Rattle.openings.specs.Statement.{message2_in}
use Rattle.openings.specs.Parts.{states_in, rows_in, hidden_commitment}
use Rattle.openings.specs.From.{announced_from}
use Rattle.openings.specs.Opened.{opened_states, opened_rows}
pub mod Laws

pub record LeavesOpened (p : Parameters) (prefix : List ℕ) (leaf : ℕ) (aux work o work' o' : List ℕ) : Type 0 where
  pub states-are : states_in p o' ≡ states_from p prefix leaf (take (siblings_length p) work)
  pub commitment-stays : hidden_commitment p o' ≡ hidden_commitment p o
  pub sums-are : take (sums_length p) work' ≡ filled p prefix (states_in p o') leaf aux
  pub rest-stays : drop (sums_length p) work' ≡ drop (sums_length p) work

pub record AxesOpened (p : Parameters) (s : List ℕ) (leaf : ℕ) (values : List ℕ) (key : Key) (work o work' o' : List ℕ) : Type 0 where
  pub states-stay : states_in p o' ≡ states_in p o
  pub commitment-stays : hidden_commitment p o' ≡ hidden_commitment p o
  pub rows_are : rows_in p o' ≡ announced_from p key (message2_in p s) (take (sums_length p) work) leaf values
  pub zeros : work' ≡ replicate (work_length p) 0

pub record Checked (p : Parameters) (e : Exchange) (key : Key) (r : Answer) (work o : List ℕ) : Type 0 where
  pub answer : r ≡ verdict SHAKE256 p e key
  pub zeros : work ≡ replicate (work_length p) 0
  pub states-are : states_in p o ≡ opened_states p e
  pub rows_are : rows_in p o ≡ opened_rows p e key
  pub commitment-is : hidden_commitment p o ≡ commitment_of p e
