use Rattle.std.proofs.Common.{⊎_elim}
use Rattle.bench_c.proofs.Left.{left-start, left-next, left-end-a, left-end-b}
use Rattle.bench_c.proofs.bytefield_c_dot.Goals as goal

pub loop-x-init : goal.loop-x-init
loop-x-init c =
    let f = c.zip-x-items.ensures in
    rw c.into_iter-x-iterator.ensures.into_iter_gives (left-start _ _ _ _ (rw f.first c.iter.ensures.rest) f.second.0)

pub loop-x-preserved : goal.loop-x-preserved
loop-x-preserved c =
    let (ea, eb) = c.in-Some.ensures.steps in
    left-next _ _ _ _ _ _ _ _ _ _ ea eb c.product.ensures c.sum-total.ensures c.loop-x.invariant

pub returns : goal.returns
returns c = ⊎_elim (λ q. left-end-a _ _ _ _ q.1.0 c.loop-x.invariant) (λ q. left-end-b _ _ _ _ q.1.0 c.loop-x.invariant) c.in-None.ensures.steps
