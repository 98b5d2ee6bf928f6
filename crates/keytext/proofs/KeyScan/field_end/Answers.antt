-- Each return follows from the tests that led to it.
use Rattle.std.proofs.Common.{le-leb, le-ltb, lt-ltb, ◌∙◌}
use borrow.Author.Tests.{lt-leb}
use Rattle.keytext.specs.Scan.{field_end}
use Rattle.keytext.proofs.KeyScan.field_end.Goals as goal
use Rattle.keytext.proofs.KeyScan.field_end.Goals.{then-self-gt3-via-then-self-gt3, then-self-gt3-via-else-self-gt3+then-self-last_field}

pub returns-then-self-gt3 : goal.returns-then-self-gt3
unfolding field_end
returns-then-self-gt3 c =
    c.broken.ensures
    ∙ elim c.then-self-gt3.branch [
      | then-self-gt3-via-then-self-gt3 w ↦ rw (lt-leb _ _ w.if-self-gt3.true)
      | then-self-gt3-via-else-self-gt3+then-self-last_field w ↦
          rw (le-leb _ _ w.if-self-gt3.false, ← w.last_field.ensures, le-ltb _ _ w.if-self-last_field.true)
    ]

pub returns : goal.returns
unfolding field_end
returns c = rw (le-leb _ _ c.if-self-gt3.false, ← c.last_field.ensures, lt-ltb _ _ c.if-self-last_field.false) c.closed.ensures
