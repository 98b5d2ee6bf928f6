-- The words and the exponent one behind the other (`chance-written`); an exponent is small.
use Rattle.std.proofs.Common.{arith}
use Rattle.unlock.specs.Lines.{chance_word, power_text, chance_text}
use Rattle.unlock.specs.Lines.Laws.{exponent_small, chance-written}
use Rattle.unlock.proofs.report.chance_line.Goals as goal

pub put_number-b-requires : goal.put_number-b-requires
put_number-b-requires c = let (w, h) = c.requires in
    (omega (arith, exponent_small c.args.p w c.args.runs h), omega (arith, c.put-a.ensures.next, c.put-a.auto.out))

pub returns : goal.returns
unfolding chance_word power_text chance_text
returns c = chance-written c.args.out.now c.args.p c.args.runs
    (omega (arith, c.put.ensures.next, c.put_number-b.ensures.1, c.put-a.ensures.next)) c.put-a.ensures c.put_number-b.ensures.0
    c.put.ensures
