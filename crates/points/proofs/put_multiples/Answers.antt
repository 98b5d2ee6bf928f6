use Rattle.std.proofs.Common.{ap, arith, length, ◌∙◌, ◌≡◌}
use Rattle.lists.specs.Part.{put_at}
use Rattle.lists.specs.Part.Laws.{put_at-none, put_at-more, put_at-all}
use Rattle.packed.specs.Table.{multiples}
use Rattle.points.proofs.put_multiples.Goals as goal

pub loop-i-init : goal.loop-i-init
loop-i-init c = put_at-none _ c.args.at c.multiples-table.result

pub loop-i-preserved : goal.loop-i-preserved
loop-i-preserved c =
    let a = c.args in rw c.loop-i.invariant (put_at-more a.out.now a.at c.multiples-table.result c.loop-i.i (omega arith) (omega arith))

pub returns : goal.returns
returns c =
    let t = c.multiples-table.result in
    let e : c.loop-i.i ≡ length t = omega arith in
    rw e at c.loop-i.invariant ∙ put_at-all _ _ t ∙ ap (put_at _ c.args.at) (c.multiples-table.ensures ∙ ap multiples c.word_of.ensures)
