-- What was weighed is the vector that was made.
use Rattle.std.proofs.Common.{List, ap, leb, ℕ, ◌∙◌}
use Rattle.relation.specs.Key.{weight_of}
use Rattle.prover.proofs.vector.light_vector.Goals as goal

pub returns : goal.returns
returns c = (c.vector.ensures, c.within_weight.ensures ∙ ap (λ (x : List ℕ). leb (weight_of x) c.args.w) c.vector.ensures)
