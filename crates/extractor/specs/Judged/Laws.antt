-- What the check of an opening leaves in the fronts of its slices, said of the whole slices.
--
-- judged     the fronts of the work area and of `opened` were lent and came back
use Rattle.std.specs.Prelude.{◌≡◌, List, ◌++◌, ℕ, length, take, drop}
use Rattle.std.proofs.Common.{sym, ap, ◌∙◌, subst₂, take_at, drop_at}
use Rattle.lists.specs.Zeroed.Laws.{zeroed-front}
use Rattle.answers.specs.Answer.{Answer}
use Rattle.parameters.specs.declared.Parameters.{Parameters}
use Rattle.layout.specs.Layout.{opened_length, work_length}
use Rattle.exchange.specs.Values.{Key}
use Rattle.exchange.specs.Opening.{Exchange}
use Rattle.openings.specs.Checked.{Checked}
use Rattle.extractor.specs.Judged.{Judged}

module _ {p : Parameters} {e : Exchange} {key : Key} {r : Answer} {area o : List ℕ} (checked : Checked p e key r area o)
    (all : length o ≡ opened_length p) where
  pub judged : (work opened : List ℕ) {n k : ℕ} → n ≡ work_length p → k ≡ opened_length p
      → Judged p e key work opened r (area ++ drop n work) (o ++ drop k opened)
  judged work opened {n} {k} q q' =
      let front : o ≡ take (opened_length p) (o ++ drop k opened) = sym (take_at o (drop k opened) (opened_length p) all) in
      record {
        checked = subst₂ (Checked p e key r) checked.zeros front checked;
        zeros = ap (λ (m : ℕ). area ++ drop m work) q ∙ zeroed-front work area (work_length p) checked.zeros;
        size = ap length (sym front) ∙ all;
        rest-stays = drop_at o (drop k opened) (opened_length p) all ∙ ap (λ (m : ℕ). drop m opened) q';
      }
