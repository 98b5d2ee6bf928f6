-- Each return follows from the tests that led to it.
use Rattle.std.proofs.Common.{eq-eqb, le-leb, ne_eqb, ◌∙◌}
use borrow.Author.Tests.{lt-leb}
use Rattle.keytext.specs.Scan.{line_end}
use Rattle.keytext.proofs.KeyScan.line_end.Goals as goal
use Rattle.keytext.proofs.KeyScan.line_end.Goals.{then-self-gt3-via-then-self-gt3, then-self-gt3-via-else-self-gt3+then-self-last_field}

pub returns-then-self-gt3 : goal.returns-then-self-gt3
unfolding line_end
returns-then-self-gt3 c =
    c.broken.ensures
    ∙ elim c.then-self-gt3.branch [
      | then-self-gt3-via-then-self-gt3 w ↦ rw (lt-leb _ _ w.if-self-gt3.true)
      | then-self-gt3-via-else-self-gt3+then-self-last_field w ↦
          rw (le-leb _ _ w.if-self-gt3.false, ← w.last_field.ensures, ne_eqb _ _ w.if-self-last_field.true)
    ]

pub returns : goal.returns
unfolding line_end
returns c = rw (le-leb _ _ c.if-self-gt3.false, ← c.last_field.ensures, eq-eqb _ _ c.if-self-last_field.false) c.closed.ensures
