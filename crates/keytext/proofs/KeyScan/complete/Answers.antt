-- The two tests are those of `complete`.
use Rattle.std.proofs.Common.{sym, eqb, false, true, ◌∙◌, ◌≡◌}
use Rattle.keytext.specs.Scan.{complete}
use Rattle.keytext.proofs.KeyScan.complete.Goals as goal

pub returns-then-all_lines : goal.returns-then-all_lines
unfolding complete
returns-then-all_lines c =
    let e : eqb c.args.self.line 4 ≡ true = sym c.all_lines.ensures ∙ c.if-all_lines.true in
    rw e

pub returns-else-all_lines : goal.returns-else-all_lines
unfolding complete
returns-else-all_lines c =
    let e : eqb c.args.self.line 4 ≡ false = sym c.all_lines.ensures ∙ c.if-all_lines.false in
    c.if-all_lines.false ∙ rw e
