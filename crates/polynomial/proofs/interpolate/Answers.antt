-- Interpolation at the first of all points (`at_front`).
use Rattle.std.proofs.Common.{arith, sym}
use Rattle.polynomial.specs.Loops.Points.{length_front, at_front}
use Rattle.polynomial.proofs.interpolate.Goals as goal

pub slice_bounds-interpolate_at-end : goal.slice_bounds-interpolate_at-end
slice_bounds-interpolate_at-end c = sym (length_front 255 _ _ (omega arith) c.points-fs.ensures)

pub interpolate_at-requires : goal.interpolate_at-requires
interpolate_at-requires c = length_front 255 _ _ (omega arith) c.points-fs.ensures

pub returns : goal.returns
returns c = at_front 255 _ _ _ (omega arith) c.points-fs.ensures c.interpolate_at.ensures
