use Rattle.std.proofs.Common.{add-mul, ap, arith, drop, length, refl, take, ℕ, ◌*◌, ◌+◌, ◌-◌, ◌∙◌, ◌≡◌}
use Rattle.lists.specs.Blend.Laws.{blend-none, blend-all}
use Rattle.relation.specs.Key.{dot}
use Rattle.relation.proofs.Laws.Key.Vector.{length-rows}
use Rattle.key.specs.Loops.Image.{rows-turn}
use Rattle.key.proofs.image.Goals as goal

pub loop-i-init : goal.loop-i-init
loop-i-init c = blend-none _ _

pub loop-i-preserved : goal.loop-i-preserved
loop-i-preserved c = let a = c.args in let i = c.loop-i.i in let n = length a.x.now in
    let width : (i + 1) * n - i * n ≡ n = omega (arith, add-mul i 1 n) in
    rows-turn a.matrix.now a.x.now i (i * n) _ a.out.now c.loop-i.out (omega arith) refl c.loop-i.invariant
    (c.row.ensures ∙ ap (λ (j : ℕ). dot (take j (drop (i * n) a.matrix.now)) a.x.now) width)

pub returns : goal.returns
returns c = let a = c.args in c.loop-i.invariant
    ∙ blend-all c.loop-i.i _ _ (length-rows (length a.out.now) a.matrix.now a.x.now) (omega arith)
