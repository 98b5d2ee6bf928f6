use Rattle.std.proofs.Common.{List, ap, arith, length, length-take-le, set, take, ℕ, ◌∙◌, ◌≡◌}
use Rattle.lists.specs.Zeroed.{zeroed}
use Rattle.lists.specs.Zeroed.Laws.{zeroed-none, zeroed-more, zeroed-all, zeroed-front}
use Rattle.lists.proofs.zero_front.Goals as goal

pub loop-x-init : goal.loop-x-init
loop-x-init c = zeroed-none _

pub loop-x-preserved : goal.loop-x-preserved
loop-x-preserved c =
    ap (λ (l : List ℕ). set l c.loop-x.x-index 0) c.loop-x.invariant ∙ zeroed-more c.loop-x.x-index _ (omega arith)

pub returns : goal.returns
returns c =
    let w = c.args.w.now in
    let n = c.args.n in
    let front : length (take n w) ≡ n = length-take-le n w c.requires in
    let all : c.loop-x.x-index ≡ n = omega arith in
    zeroed-front w c.loop-x.x-items n
    (c.loop-x.invariant ∙ ap (λ (k : ℕ). zeroed k (take n w)) all ∙ zeroed-all (take n w) n front)
