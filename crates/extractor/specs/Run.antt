-- One run of two exchanges, checked and compared.
--
-- difference_in          the first unequal pair of strings; none where the hidden leaves agree
-- Compared              what the comparison asks
-- RunAsked              what the check of a run asks
-- difference_at          the first unequal pair of strings of two exchanges; none where the hidden leaves agree
-- RunFound              what is known where the first opening is accepted: the second's verdict, the first unequal pair of strings, and the states
--                       that both openings give, at the fronts of the halves
-- Checked               the first's verdict, and what is known where it is accepted
-- RunChecked            what the check of a run gives
use Rattle.std.specs.Prelude.{◌≡◌, cond, List, ℕ, eqb, length, take, drop, Option, None, Result, Ok, Err}
use Rattle.lists.specs.Zeroed.{zeroed}
use Rattle.shake256.specs.Fips.{SHAKE256}
use Rattle.answers.specs.declared.Refusal.{Refusal}
use Rattle.answers.specs.Answer.{Answer}
use Rattle.parameters.specs.declared.Parameters.{Parameters}
use Rattle.parameters.specs.Limits.{Within}
use Rattle.layout.specs.Layout.{statement_length, work_length}
use Rattle.layout.specs.Lent.{Lent}
use Rattle.layout.specs.Maxima.{most_opened}
use Rattle.exchange.specs.Values.{Key}
use Rattle.exchange.specs.Opening.{Exchange, verdict}
use Rattle.exchange.specs.Extractor.{extract}
use Rattle.openings.specs.Statement.{prefix_in, exchange_in}
use Rattle.openings.specs.Parts.{states_in}
use Rattle.openings.specs.Opened.{opened_states}
use Rattle.extractor.specs.declared.pairs.Pair.{Pair}
use Rattle.extractor.specs.declared.run.Judgement.{Judgement}
use Rattle.extractor.specs.Comparison.{comparison}
use Rattle.extractor.specs.Difference.{named, difference_of}
use Rattle.extractor.specs.Opened.{view_in}
use Rattle.extractor.specs.Pairs.{message_in, Lies}
pub mod Laws

abbrev pub most_openings : ℕ
most_openings = 19_520

unfoldable pub difference_in : Pair → List ℕ → List ℕ → List ℕ → List ℕ → Option (ℕ × ℕ)
difference_in pair s first5 second5 openings =
    cond (eqb pair.first.leaf pair.second.leaf) None
    (difference_of (comparison pair.p (prefix_in pair.p s) (view_in pair.p pair.first first5 (take most_opened openings))
    (view_in pair.p pair.second second5 (drop most_opened openings))))

pub record Compared (pair : Pair) (s first5 second5 openings : List ℕ) : Type 0 where
  pub within : Within pair.p
  pub sized-statement : length s ≡ statement_length pair.p
  pub first : Lies pair.p pair.first first5
  pub second : Lies pair.p pair.second second5
  pub room : length openings ≡ most_openings

pub record RunAsked (pair : Pair) (s first5 second5 matrix y work openings : List ℕ) : Type 0 where
  pub compared : Compared pair s first5 second5 openings
  pub lent : Lent pair.p (length matrix) (length y) (length work)

module _ (p : Parameters) (key : Key) (e e' : Exchange) where
  unfoldable pub difference_at : Option (ℕ × ℕ)
  difference_at = cond (eqb e.leaf e'.leaf) None (difference_of (extract SHAKE256 p key e e'))

  pub record RunFound (j : Judgement) (openings : List ℕ) : Type 0 where
    pub accepted : verdict SHAKE256 p e key ≡ Ok tt
    pub second : j.second ≡ verdict SHAKE256 p e' key
    pub difference : named j.difference ≡ difference_at
    pub states : states_in p openings ≡ opened_states p e
    pub others : states_in p (drop most_opened openings) ≡ opened_states p e'

  abbrev pub Found : Result Judgement Refusal → List ℕ → Type 0
  Found (Ok j) openings = RunFound j openings
  Found (Err r) openings = verdict SHAKE256 p e key ≡ Err r

  pub record Checked (work : List ℕ) (r : Result Judgement Refusal) (work' openings : List ℕ) : Type 0 where
    pub zeros : work' ≡ zeroed (work_length p) work
    pub found : Found r openings

abbrev pub RunChecked : Pair → List ℕ → List ℕ → List ℕ → Key → List ℕ → Result Judgement Refusal → List ℕ → List ℕ → Type 0
RunChecked pair s first5 second5 key =
    Checked pair.p key (exchange_in pair.p s pair.first.leaf (message_in pair.first first5))
    (exchange_in pair.p s pair.second.leaf (message_in pair.second second5))
