-- The word and the five numbers one behind the other (`set-written`).
use Rattle.std.proofs.Common.{arith, rules}
use Rattle.keytext.specs.Form.{set_word}
use Rattle.unlock.specs.Lines.Laws.{numbers-small, set-written}
use Rattle.unlock.proofs.report.set_line.Goals as goal

pub number_field-b-requires : goal.number_field-b-requires
number_field-b-requires c = ((numbers-small _ _ c.numbers_of-n.ensures c.requires).0, search rules)

pub number_field-c-requires : goal.number_field-c-requires
number_field-c-requires c = ((numbers-small _ _ c.numbers_of-n.ensures c.requires).1, search rules)

pub number_field-d-requires : goal.number_field-d-requires
number_field-d-requires c = ((numbers-small _ _ c.numbers_of-n.ensures c.requires).2, search rules)

pub number_field-e-requires : goal.number_field-e-requires
number_field-e-requires c = ((numbers-small _ _ c.numbers_of-n.ensures c.requires).3, search rules)

pub number_field-f-requires : goal.number_field-f-requires
number_field-f-requires c = ((numbers-small _ _ c.numbers_of-n.ensures c.requires).4, search rules)

pub returns : goal.returns
unfolding set_word
returns c = let a = c.args in let h₁ = c.number_field-b.ensures.1 in
    let h₂ = c.number_field-c.ensures.1 in let h₃ = c.number_field-d.ensures.1 in let h₄ = c.number_field-e.ensures.1 in
    let h₅ = c.number_field-f.ensures.1 in
    set-written a.p c.numbers_of-n.result c.numbers_of-n.ensures a.out.now
    (omega (arith, c.put.ensures.next, h₁, h₂, h₃, h₄, h₅, c.put-a.ensures.next)) c.put-a.ensures c.number_field-b.ensures.0
    c.number_field-c.ensures.0 c.number_field-d.ensures.0 c.number_field-e.ensures.0 c.number_field-f.ensures.0 c.put.ensures
