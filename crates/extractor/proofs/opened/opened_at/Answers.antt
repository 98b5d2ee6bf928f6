-- aux ends the run's part of message 5 (`aux-lent`), and what the check made is the front of the half.
use Rattle.std.proofs.Common.{List, ap, ap₂, arith, take, ℕ}
use Rattle.extractor.specs.Opened.{view_of}
use Rattle.extractor.specs.Pairs.{aux-before}
use Rattle.extractor.specs.Recall.Laws.{aux-lent}
use Rattle.extractor.proofs.opened.opened_at.Goals as goal

pub overflow_add-aux : goal.overflow_add-aux
overflow_add-aux c = omega (
  arith,
  aux-before c.args.p c.args.place c.args.message5.now c.requires.lies,
  c.requires.lies.near,
  c.aux_place.ensures,
  c.requires.within.axes-most,
  c.requires.within.t-most,
)

pub slice_bounds-result-count : goal.slice_bounds-result-count
slice_bounds-result-count c = omega (arith, aux-before c.args.p c.args.place c.args.message5.now c.requires.lies, c.aux_place.ensures)

pub slice_bounds-result-start : goal.slice_bounds-result-start
slice_bounds-result-start c = omega (arith, aux-before c.args.p c.args.place c.args.message5.now c.requires.lies, c.aux_place.ensures)

pub returns : goal.returns
returns c = let a = c.args in
    ap₂ (λ (aux made : List ℕ). view_of a.p a.place.leaf aux made) (aux-lent a.p a.place a.message5.now c.requires.lies c.aux_place.ensures)
    (ap (λ (n : ℕ). take n a.half.now) c.opened_length-all.ensures)
