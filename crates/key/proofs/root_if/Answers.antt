-- By cases: `root-hit` and `root-miss`.
use Rattle.std.proofs.Common.{refl}
use Rattle.key.specs.Loops.Locator.{root-hit, root-miss}
use Rattle.key.proofs.root_if.Goals as goal

pub returns-then-hit : goal.returns-then-hit
returns-then-hit c = let a = c.args in
    root-hit a.hit a.p.now _ a.at a.f _ c.if-hit.true c.add_root.ensures refl

pub returns : goal.returns
returns c = let a = c.args in root-miss a.hit a.p.now a.at a.f c.if-hit.false
