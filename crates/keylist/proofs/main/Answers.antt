-- The listing lies within the array that it was written to (`fits-room`).
use Rattle.std.proofs.Common.{length-take-le, sym}
use Rattle.keytext.proofs.Laws.Finish.{fits-room}
use Rattle.keylist.proofs.main.Goals as goal

pub slice_bounds-out-end : goal.slice_bounds-out-end
slice_bounds-out-end c = let e = c.finish-n.ensures in fits-room _ _ e.0 e.1

pub slice_bounds-write_all-end : goal.slice_bounds-write_all-end
slice_bounds-write_all-end c = let e = c.finish-n.ensures in sym (length-take-le _ _ (fits-room _ _ e.0 e.1))
