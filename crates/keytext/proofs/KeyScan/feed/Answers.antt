use Rattle.std.proofs.Common.{List, [], ap, arith, drop, drop_of_length-le, refl, sym, ℕ, ◌∙◌, ◌≡◌}
use Rattle.text.specs.Fold.{fold}
use Rattle.keytext.specs.Scan.{held, step}
use Rattle.keytext.proofs.Laws.Scan.Steps.{fold_more}
use Rattle.keytext.proofs.KeyScan.feed.Goals as goal

pub loop-b-init : goal.loop-b-init
loop-b-init c = refl

pub loop-b-preserved : goal.loop-b-preserved
loop-b-preserved c = let l = c.loop-b in
    fold_more c.args.piece.now l.b-index (held l.scan l.matrix l.y l.x_a) (omega (arith, c)) c.step-scan.ensures ∙ l.invariant

pub returns : goal.returns
returns c = let t = c.args.piece.now in let l = c.loop-b in
    let e : drop l.b-index t ≡ [] = drop_of_length-le t {i = l.b-index} (omega arith) in
    ap (λ (r : List ℕ). fold step (held l.scan l.matrix l.y l.x_a) r) (sym e) ∙ l.invariant
