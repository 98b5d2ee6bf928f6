-- The lines lie within the arrays that they were written to (`written-fits`).
use Rattle.std.proofs.Common.{length-take-le, sym}
use Rattle.unlock.specs.Lines.Laws.{written-fits}
use Rattle.unlock.proofs.show_set.Goals as goal

pub slice_bounds-line-end : goal.slice_bounds-line-end
slice_bounds-line-end g c = written-fits c.set_line-n.ensures

pub slice_bounds-write_all-end : goal.slice_bounds-write_all-end
slice_bounds-write_all-end g c = sym (length-take-le _ _ (written-fits c.set_line-n.ensures))

pub slice_bounds-next-end : goal.slice_bounds-next-end
slice_bounds-next-end g c = written-fits c.runs_line-k.ensures

pub slice_bounds-write_all-end-2 : goal.slice_bounds-write_all-end-2
slice_bounds-write_all-end-2 g c = sym (length-take-le _ _ (written-fits c.runs_line-k.ensures))
