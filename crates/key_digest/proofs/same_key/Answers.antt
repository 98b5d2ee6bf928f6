use Rattle.std.proofs.Common.{List, ap, ℕ, ◌∙◌}
use Rattle.lists.specs.Equal.{eq_list}
use Rattle.key_digest.proofs.same_key.Goals as goal

pub returns : goal.returns
returns c = c.equal.ensures ∙ ap (λ (d : List ℕ). eq_list d c.args.held.now) c.key_digest-digest.ensures
