-- The four bytes are those of the product (`z-step`).
use Rattle.std.proofs.Common.{w8}
use borrow.Author.Rules.{elem_Fits}
use Rattle.points.specs.Multiples.Laws.{z-step}
use Rattle.points.proofs.by_z.Goals as goal

pub returns : goal.returns
returns c =
    z-step c.args.b (λ i. (elem_Fits w8 w8 c.args.b c.well_formed.0.0 i c.well_formed.0.1.1 tt).fits) _ _ _ _ _
    c.product.ensures c.sum.ensures c.product-2.ensures c.sum-2.ensures c.sum-3.ensures
