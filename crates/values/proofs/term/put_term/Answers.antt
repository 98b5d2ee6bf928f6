-- The product of the value's point with the factor, and x, are added (`sum-made`).
use Rattle.std.proofs.Common.{ap, ◌∙◌}
use Rattle.lists.specs.Part.{put_at}
use Rattle.tower.specs.Field.{Point, point, bytes_of}
use Rattle.tower.proofs.Field.Laws.{point-bytes_of}
use Rattle.packed.specs.Word.{bytes}
use Rattle.exchange.specs.Reading.{points, ◌⊠◌}
use Rattle.points.specs.Multiples.Laws.{bytes-word_of}
use Rattle.values.specs.Terms.{sum-made}
use Rattle.values.proofs.term.put_term.Goals as goal

pub returns : goal.returns
returns c = (
  λ b v y eb ev ex. c.put_point.ensures ∙ ap (put_at c.args.out.now c.args.at)
      (sum-made _ _ _ (b ⊠ v) y
      (c.product_by-product.ensures.0 b eb
      ∙ ap bytes_of (ap (λ (z : Point). z ⊠ b) (ap point (c.point_of.ensures ∙ ap (bytes 4) ev ∙ bytes-word_of v) ∙ point-bytes_of v)
      ∙ points.base.mul_comm v b))
      ex c.sum.ensures),
  c.product_by-product.ensures.1,
)
