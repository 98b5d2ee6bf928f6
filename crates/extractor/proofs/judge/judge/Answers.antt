-- What is lent has the lengths that the check asks; the fronts come back (`judged`).
use Rattle.std.proofs.Common.{arith, length, length-take-le, take, ℕ, ◌∙◌, ◌≡◌}
use Rattle.layout.specs.Layout.{opened_length, work_length}
use Rattle.extractor.specs.Judged.Laws.{judged}
use Rattle.extractor.proofs.judge.judge.Goals as goal
use Rattle.extractor.proofs.judge.judge.Goals.{Start}

area-size : (c : Start) → (n : ℕ) → n ≡ work_length c.args.p → length (take n c.args.work.now) ≡ n
area-size c n e =
    length-take-le _ _ (omega (arith, c.requires.lent.work-fits))

opened-size : (c : Start) → (n : ℕ) → n ≡ opened_length c.args.p → length (take n c.args.opened.now) ≡ n
opened-size c n e =
    length-take-le _ _ (omega (arith, c.requires.room))

pub check_opening-requires : goal.check_opening-requires
check_opening-requires c =
    let asked = c.requires in
    record {
      within = asked.within;
      below = asked.below;
      sized-message5 = asked.sized-message5;
      sized-statement = omega (arith, asked.sized-statement);
      sized-matrix = asked.lent.matrix-is;
      sized-y = asked.lent.y-is;
      sized-work = area-size (goal.at.check_opening-requires c).Start _ c.work_length-area.ensures ∙ c.work_length-area.ensures;
      sized-opened = opened-size (goal.at.check_opening-requires c).Start _ c.opened_length-all.ensures ∙ c.opened_length-all.ensures;
    }

pub returns : goal.returns
returns c =
    judged c.check_opening.ensures
    (c.check_opening.auto.opened ∙ opened-size (goal.at.returns c).Start _ c.opened_length-all.ensures ∙ c.opened_length-all.ensures)
    c.args.work.now c.args.opened.now c.work_length-area.ensures c.opened_length-all.ensures
