-- The digest of the rows is compared with h' of the statement.
use Rattle.std.proofs.Common.{List, ap, ap₂, drop, take, ℕ, ◌∙◌}
use Rattle.lists.specs.Equal.{eq_list}
use Rattle.lists.specs.Part.{part}
use Rattle.openings.specs.Statement.{response_in}
use Rattle.openings.specs.Parts.Laws.{rows-lent}
use Rattle.openings.specs.Statement.Laws.{prefix-lent}
use Rattle.openings.specs.From.{response_from}
use Rattle.openings.proofs.response.response_agrees.Goals as goal

pub returns : goal.returns
unfolding response_from response_in part
returns c = let args = c.args in
    c.equal.ensures ∙ ap (λ (d : List ℕ). eq_list d (take 32 (drop 32 args.statement.now))) (c.response_digest.ensures ∙ ap₂
    (λ (pre rows : List ℕ). response_from args.p pre rows 32) (prefix-lent args.p args.statement.now c.prefix_place-at.ensures)
    (rows-lent args.p args.opened.now c.states_length-start.ensures c.rows_end-end.ensures))
