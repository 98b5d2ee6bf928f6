-- The verdict of the second opening, and the pair that was found first stays.
use Rattle.std.proofs.Common.{ap, ap₂, rules, ℕ, ◌∙◌, ◌≡◌}
use Rattle.std.specs.Prelude.{Option}
use Rattle.std.specs.Option.{option_or}
use Rattle.answers.specs.Answer.{Answer}
use Rattle.extractor.specs.declared.findings.Difference.{Difference}
use Rattle.extractor.specs.Best.{in_run, better_of}
use Rattle.extractor.proofs.best.better.Goals as goal

pub returns : goal.returns
unfolding better_of
returns c =
    let map : c.map-unequal.result ≡ in_run c.args.run c.args.found.difference = search rules in
    ap₂ (λ (s : Answer) (u : Option (ℕ × Difference)). record { second = s; unequal = u }) c.and.ensures (c.or.ensures ∙ ap (option_or c.args.best.unequal) map)
