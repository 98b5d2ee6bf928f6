-- Each return follows from the tests that led to it.
use Rattle.std.proofs.Common.{eq-eqb, le-ltb, lt-ltb, ne_eqb}
use Rattle.text.specs.Scanner.Word.{word_step}
use Rattle.text.proofs.word.WordScan.push.Goals as goal
use Rattle.text.proofs.word.WordScan.push.Goals.{else-self-word-via-then-self-word+else-word-self, else-self-word-via-else-self-word}

pub returns-then-word-self : goal.returns-then-word-self
unfolding word_step
returns-then-word-self c = rw (lt-ltb _ _ c.if-self-word.true, eq-eqb _ _ c.if-word-self.true)

pub returns-else-self-word : goal.returns-else-self-word
unfolding word_step
returns-else-self-word c =
    elim c.else-self-word.branch [
      | else-self-word-via-then-self-word+else-word-self w ↦ rw (lt-ltb _ _ w.if-self-word.true, ne_eqb _ _ w.if-word-self.false)
      | else-self-word-via-else-self-word w ↦ rw (le-ltb _ _ w.if-self-word.false)
    ]
