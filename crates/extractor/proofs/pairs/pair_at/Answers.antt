-- Both places.
use Rattle.std.proofs.Common.{ap₂}
use Rattle.extractor.specs.declared.pairs.Place.{Place}
use Rattle.extractor.proofs.pairs.pair_at.Goals as goal

pub returns : goal.returns
returns c = ap₂ (λ (a b : Place). record { p = c.args.p; first = a; second = b }) c.place_at-first.ensures c.place_at-second.ensures
