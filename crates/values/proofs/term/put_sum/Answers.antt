-- The value's point and x are added (`sum-made`).
use Rattle.std.proofs.Common.{ap, ◌∙◌}
use Rattle.lists.specs.Part.{put_at}
use Rattle.packed.specs.Word.{bytes}
use Rattle.points.specs.Multiples.Laws.{bytes-word_of}
use Rattle.values.specs.Terms.{sum-made}
use Rattle.values.proofs.term.put_sum.Goals as goal

pub returns : goal.returns
returns c = λ v y ev ex. c.put_point.ensures
    ∙ ap (put_at c.args.out.now c.args.at) (sum-made _ _ _ v y (c.point_of.ensures ∙ ap (bytes 4) ev ∙ bytes-word_of v) ex c.sum.ensures)
