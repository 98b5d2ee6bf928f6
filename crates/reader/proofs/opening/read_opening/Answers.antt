-- The fronts of siblings and values are lent, and what the parts become is what message 5 holds (`Opening/Laws`).
use Rattle.std.proofs.Common.{arith, sym}
use Rattle.reader.proofs.Laws.Opening.{seeds-length, points-length, siblings-read, commitment-read, values-read, left-read}
use Rattle.reader.proofs.opening.read_opening.Goals as goal

pub slice_bounds-read_parts-end : goal.slice_bounds-read_parts-end
slice_bounds-read_parts-end c =
    omega (arith, c.siblings_length-seeds, c.requires.siblings-fit)

pub slice_bounds-read_parts-end-2 : goal.slice_bounds-read_parts-end-2
slice_bounds-read_parts-end-2 c =
    sym (seeds-length _ _ _ _ _ c.requires _ _ c.siblings_length-seeds.ensures c.values_length-points.ensures)

pub slice_bounds-read_parts-end-3 : goal.slice_bounds-read_parts-end-3
slice_bounds-read_parts-end-3 c =
    omega (arith, c.values_length-points, c.requires.values-fit)

pub slice_bounds-read_parts-end-4 : goal.slice_bounds-read_parts-end-4
slice_bounds-read_parts-end-4 c =
    sym (points-length _ _ _ _ _ c.requires _ _ c.siblings_length-seeds.ensures c.values_length-points.ensures)

pub returns : goal.returns
returns c =
    let es = c.siblings_length-seeds.ensures in
    let ev = c.values_length-points.ensures in
    let parts = c.read_parts.ensures in record { value = left-read _ _ _ _ _ c.requires _ _ es ev parts; siblings_after = siblings-read _ _ _ _ _ c.requires _ _ es ev parts; commitment_after = commitment-read _ _ _ _ _ c.requires _ _ es ev parts; values_after = values-read _ _ _ _ _ c.requires _ _ es ev parts }
