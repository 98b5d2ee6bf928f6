-- The four products by bytes add up to the product (`whole-product`).
use Rattle.lists.specs.Xor.{◌⊕◌}
use Rattle.points.specs.Multiples.Laws.{whole-product}
use Rattle.points.proofs.whole_product.Goals as goal

pub returns : goal.returns
unfolding ◌⊕◌
returns c =
    λ b e. whole-product c.args.a b c.args.table.now _ _ _ _ c.read_at.ensures c.read_at-2.ensures c.read_at-3.ensures
    c.read_at-4.ensures e
