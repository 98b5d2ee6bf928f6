-- Each return follows from the test that led to it.
use Rattle.std.proofs.Common.{arith}
use Rattle.std.proofs.lemmas.Bool.Decides.{nat_tests}
use Rattle.text.specs.Scanner.Word.{word_accepts}
use Rattle.text.proofs.word.WordScan.accepts.Goals as goal

pub returns-then-self-word : goal.returns-then-self-word
unfolding word_accepts
returns-then-self-word c = grind (arith, nat_tests)

pub returns-else-self-word : goal.returns-else-self-word
unfolding word_accepts
returns-else-self-word c = grind (arith, nat_tests)
