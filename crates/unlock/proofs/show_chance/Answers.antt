-- The line lies within the array that it was written to (`written-fits`).
use Rattle.std.proofs.Common.{length-take-le, sym}
use Rattle.unlock.specs.Lines.Laws.{written-fits}
use Rattle.unlock.proofs.show_chance.Goals as goal

pub slice_bounds-line-end : goal.slice_bounds-line-end
slice_bounds-line-end g c = written-fits c.chance_line-n.ensures

pub slice_bounds-write_all-end : goal.slice_bounds-write_all-end
slice_bounds-write_all-end g c = sym (length-take-le _ _ (written-fits c.chance_line-n.ensures))
