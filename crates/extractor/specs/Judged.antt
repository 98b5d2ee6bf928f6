-- An opening that was checked, as the comparison sees it.
--
-- Judging     what the check of an opening asks
-- Judged      what it gives: the verdict, the named length of the work area zeroed, and what the opening gives in the front of `opened'`,
--             which stays `opened` behind it
-- shows       the view of what it gives shows the exchange
use Rattle.std.specs.Prelude.{◌≡◌, refl, List, ℕ, ◌≤◌, ◌<◌, length, take, drop, replicate}
use Rattle.std.proofs.Math.Path.{sym}
use Rattle.std.proofs.Common.{◌∙◌}
use Rattle.lists.specs.Zeroed.{zeroed}
use Rattle.answers.specs.Answer.{Answer}
use Rattle.parameters.specs.declared.Parameters.{Parameters}
use Rattle.parameters.specs.Limits.{Within}
use Rattle.layout.specs.Layout.{leaves, message5_length, opened_length, statement_length, work_length}
use Rattle.layout.specs.Lent.{Lent}
use Rattle.exchange.specs.Values.{Key}
use Rattle.exchange.specs.Opening.{Exchange, aux_of}
use Rattle.reader.specs.Message5.{aux_in}
use Rattle.openings.specs.Checked.{Checked}
use Rattle.openings.specs.Checked.Laws.{checked-state, checked-row}
use Rattle.extractor.specs.Comparison.Laws.{Shows}
use Rattle.extractor.specs.Opened.{view_of}
use Rattle.extractor.specs.Opened.Laws.{state-front}
pub mod Laws

pub record Judging (p : Parameters) (statement : List ℕ) (leaf : ℕ) (m5 matrix y work opened : List ℕ) : Type 0 where
  pub within : Within p
  pub sized-statement : statement_length p ≤ length statement
  pub below : leaf < leaves p
  pub sized-message5 : length m5 ≡ message5_length p leaf
  pub lent : Lent p (length matrix) (length y) (length work)
  pub room : opened_length p ≤ length opened

pub record Judged (p : Parameters) (e : Exchange) (key : Key) (work opened : List ℕ) (r : Answer) (work' opened' : List ℕ) : Type 0 where
  pub checked : Checked p e key r (replicate (work_length p) 0) (take (opened_length p) opened')
  pub zeros : work' ≡ zeroed (work_length p) work
  pub size : length (take (opened_length p) opened') ≡ opened_length p
  pub rest-stays : drop (opened_length p) opened' ≡ drop (opened_length p) opened

module _ {p : Parameters} {e : Exchange} {key : Key} {work opened : List ℕ} {r : Answer} {work' opened' : List ℕ}
    (j : Judged p e key work opened r work' opened') where
  pub shows : (prefix : List ℕ) → e.prefix ≡ prefix → e.leaf < leaves p → length e.message5 ≡ message5_length p e.leaf
      → Shows p key prefix e (view_of p e.leaf (aux_in p e.message5) (take (opened_length p) opened'))
  unfolding aux_of aux_in
  shows prefix salt below sent = record {
    salt = salt;
    leaf = refl;
    given = sym j.checked.commitment-is;
    aux = refl;
    state = λ i l q. checked-state j.checked below sent i l q ∙ state-front p (take (opened_length p) opened') i l;
    row = λ i l. checked-row j.checked i l;
    sent = sent;
  }
