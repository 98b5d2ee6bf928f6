-- Each byte is the sum of the bytes (`sum-bytes`).
use Rattle.std.proofs.Common.{w8}
use borrow.Author.Rules.{elem_Fits}
use Rattle.tower.specs.Point.{four_sum}
use Rattle.tower.proofs.Point.Written.{four-path}
use Rattle.points.specs.Written.{sum-bytes}
use Rattle.points.specs.Multiples.Laws.{four_bytes}
use Rattle.points.proofs.sum.Goals as goal

pub returns : goal.returns
unfolding four_sum
returns c =
    sum-bytes _ _ _ _ _ (four_bytes c.args.a (λ i. (elem_Fits w8 w8 c.args.a c.well_formed.0.0 i c.well_formed.0.1.1 tt).fits))
    (four_bytes c.args.b (λ i. (elem_Fits w8 w8 c.args.b c.well_formed.1.0.0 i c.well_formed.1.0.1.1 tt).fits))
    (four-path c.sum.ensures c.sum-2.ensures c.sum-3.ensures c.sum-4.ensures)
