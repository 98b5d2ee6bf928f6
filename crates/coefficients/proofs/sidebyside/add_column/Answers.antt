use Rattle.std.proofs.Common.{ap, arith, length, map, sym, ◌*◌, ◌+◌, ◌<◌, ◌∙◌}
use Rattle.lists.specs.Xor.{◌⊕◌}
use Rattle.lists.specs.Part.Laws.{part-fits}
use Rattle.lists.specs.Sum.Laws.{xor_list-none}
use Rattle.packed.specs.Word.{scaled}
use Rattle.packed.specs.Maps.{added_more, added-all}
use Rattle.coefficients.specs.Columns.{column, length-column, column-at}
use Rattle.coefficients.proofs.sidebyside.add_column.Goals as goal
use Rattle.coefficients.proofs.sidebyside.add_column.Goals.{In-loop-j}

-- the entry stands within the matrix
inside : (c : In-loop-j) → let a = c.args in c.loop-j.j * a.k + a.i < length a.matrix.now
inside c =
    let a = c.args in
    omega (arith, part-fits c.loop-j.j (length a.out.now) a.k c.loop-j-test.true)

pub loop-j-init : goal.loop-j-init
loop-j-init c = let a = c.args in
    λ v e. xor_list-none _ (map (scaled v) (column (length a.out.now) a.k a.i a.matrix.now))

pub overflow_mul-j : goal.overflow_mul-j
overflow_mul-j c = omega (arith, inside (goal.at.overflow_mul-j c).In-loop-j)

pub overflow_add-j : goal.overflow_add-j
overflow_add-j c = omega (arith, inside (goal.at.overflow_add-j c).In-loop-j)

pub bounds-matrix-j : goal.bounds-matrix-j
bounds-matrix-j c = inside (goal.at.bounds-matrix-j c).In-loop-j

pub loop-j-preserved : goal.loop-j-preserved
unfolding ◌⊕◌
loop-j-preserved c = let a = c.args in let l = c.loop-j in
    let n = length a.out.now in let m = length-column n a.k a.i a.matrix.now in
    λ v e. added_more (scaled v) a.out.now (column n a.k a.i a.matrix.now) l.out l.j c.times.result (omega arith) (omega arith)
    (l.invariant v e) (c.times.ensures.word v e ∙ ap (scaled v) (sym (column-at n a.k a.i a.matrix.now l.j (omega arith))))

pub returns : goal.returns
returns c = let a = c.args in
    let m = length-column (length a.out.now) a.k a.i a.matrix.now in
    λ v e. c.loop-j.invariant v e ∙ added-all (scaled v) _ (column (length a.out.now) a.k a.i a.matrix.now) c.loop-j.j (omega arith)
