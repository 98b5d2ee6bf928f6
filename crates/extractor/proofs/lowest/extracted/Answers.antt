-- The lowest run, if there is one, and the axis of its hidden leaves.
use Rattle.std.proofs.Common.{ap, arith, length, sym, ◌<◌, ◌∙◌}
use Rattle.std.specs.Option.{option_map}
use Rattle.extractor.specs.Head.{first_below-some}
use Rattle.extractor.specs.Lowest.{extracted_at}
use Rattle.extractor.proofs.lowest.extracted.Goals as goal
use Rattle.extractor.proofs.lowest.extracted.Goals.{In_ok-run}

inside : (c : In_ok-run) → c.in_ok-run.run' < length c.args.first4.now
inside c = (first_below-some _ _ _ (sym c.in_ok-run.was ∙ c.lowest_run.ensures)).1

pub returns-in_err-run : goal.returns-in_err-run
returns-in_err-run c = c.from_residual.ensures ∙ ap (option_map (extracted_at c.args.first4.now c.args.second4.now)) (sym c.in_err-run.was ∙ c.lowest_run.ensures)

pub bounds-first4-at : goal.bounds-first4-at
bounds-first4-at c = omega (arith, c.from-at.ensures, inside (goal.at.bounds-first4-at c).In_ok-run)

pub bounds-second4-at : goal.bounds-second4-at
bounds-second4-at c = omega (arith, c.from-at.ensures, inside (goal.at.bounds-second4-at c).In_ok-run, c.requires.same)

pub returns : goal.returns
returns c = rw (c.first_axis.ensures, c.from-at.ensures) (ap (option_map (extracted_at c.args.first4.now c.args.second4.now)) (sym c.in_ok-run.was ∙ c.lowest_run.ensures))
