use Rattle.std.proofs.Common.{List, [], ap, arith, drop, drop_of_length-le, sym, ℕ, ◌∙◌, ◌≡◌}
use Rattle.text.specs.Fold.{fold}
use Rattle.text.specs.Scanner.Decimal.{decimal_step}
use Rattle.unlock.specs.Count.Laws.{digit-more}
use Rattle.unlock.proofs.count.scanned.Goals as goal

pub loop-b-init : goal.loop-b-init
loop-b-init c = ap (λ z. fold (decimal_step 3) z c.args.text.now) c.new-scan.ensures

pub loop-b-preserved : goal.loop-b-preserved
loop-b-preserved c = let l = c.loop-b in
    digit-more c.args.text.now l.b-index l.scan (omega (arith, c)) c.push-scan.ensures ∙ l.invariant

pub returns : goal.returns
returns c = let l = c.loop-b in let t = c.args.text.now in
    let e : drop l.b-index t ≡ [] = drop_of_length-le t {i = l.b-index} (omega arith) in
    ap (λ (r : List ℕ). fold (decimal_step 3) l.scan r) (sym e) ∙ l.invariant
