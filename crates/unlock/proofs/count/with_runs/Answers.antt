-- The cases are the definition's.
use Rattle.std.proofs.Common.{◌∙◌}
use Rattle.unlock.specs.Count.Laws.{with-ten, with-other}
use Rattle.unlock.proofs.count.with_runs.Goals as goal

pub returns-then-eq : goal.returns-then-eq
returns-then-eq c = with-ten c.args.checked c.args.runs c.eq.ensures c.if-eq.true

pub returns : goal.returns
returns c =
    c.and.ensures ∙ rw (c.require.ensures) (with-other c.args.checked c.args.runs c.eq.ensures c.if-eq.false c.runs_within.result c.runs_within.ensures)
