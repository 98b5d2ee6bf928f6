-- The word of each line.
use Rattle.std.proofs.Common.{arith, ne_eqb}
use Rattle.keytext.specs.Form.{set_word, matrix_word, syndrome_word, key_word}
use Rattle.keytext.proofs.form.word_of.Goals as goal

pub returns-in-0 : goal.returns-in-0
unfolding set_word
returns-in-0 c = rw (c.in-0.is)

pub returns-in-1 : goal.returns-in-1
unfolding matrix_word
returns-in-1 c = rw (c.in-1.is)

pub returns-in-2 : goal.returns-in-2
unfolding syndrome_word
returns-in-2 c = rw (c.in-2.is)

pub returns-in_default : goal.returns-in_default
unfolding key_word
returns-in_default c =
    let i = c.args.line in
    rw (ne_eqb i 0 (omega arith), ne_eqb i 1 (omega arith), ne_eqb i 2 (omega arith))
