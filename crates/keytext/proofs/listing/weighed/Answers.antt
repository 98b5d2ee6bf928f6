-- The check 3 decides between the refusal and the five lines (`weighed-heavy`, `weighed-light`).
use Rattle.std.proofs.Common.{arith, leb-true, sym, ◌∙◌}
use Rattle.keytext.proofs.Laws.Finish.{weighed-light, weighed-heavy}
use Rattle.keytext.proofs.listing.weighed.Goals as goal

pub returns-then-not-within_weight : goal.returns-then-not-within_weight
returns-then-not-within_weight c = let v = c.vector.ensures in let a = c.args in
    let e = sym c.within_weight.ensures ∙ c.if-not-within_weight.true in
    rw (weighed-heavy a.w _ (rw v at e)) c.refused.ensures

pub lines_of-requires : goal.lines_of-requires
lines_of-requires c =
    let p = c.requires.le_w in let k = c.vector.auto.out in
    let e = sym c.within_weight.ensures ∙ c.if-not-within_weight.false in
    record { weighted = record { least = p.0; most = omega (arith, k, p.1); light = leb-true _ _ e; short = omega (arith, k, p.2) }; room = c.requires.room }

pub returns : goal.returns
returns c = let v = c.vector.ensures in let a = c.args in
    let e = sym c.within_weight.ensures ∙ c.if-not-within_weight.false in
    rw (weighed-light a.w _ (rw v at e)) (rw v at c.lines_of.ensures)
