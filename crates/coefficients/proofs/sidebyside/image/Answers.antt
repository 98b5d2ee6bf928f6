use Rattle.std.proofs.Common.{arith, rules}
use Rattle.coefficients.specs.Imaged.{imaged-none, imaged-fits, imaged-more, imaged-all}
use Rattle.coefficients.proofs.sidebyside.image.Goals as goal

pub loop-i-init : goal.loop-i-init
loop-i-init c = let (room, fits, zeros) = c.requires in
    imaged-none c.args.words.now c.args.matrix.now c.args.k zeros

pub add_column-requires : goal.add_column-requires
add_column-requires c = (imaged-fits c.args.words.now c.args.matrix.now c.args.k c.loop-i.i c.loop-i.words c.loop-i.invariant c.requires.1, search rules)

pub loop-i-preserved : goal.loop-i-preserved
loop-i-preserved c = imaged-more _ c.args.matrix.now c.args.k c.loop-i.i c.loop-i.words c.add_column.new.out c.requires.0 (omega arith) c.loop-i.invariant
    (c.add_column.ensures _ c.multiples-table.ensures) c.add_column.auto.out

pub returns : goal.returns
returns c = let g = c.loop-i.invariant in
    (g.kept, imaged-all c.args.words.now c.args.matrix.now c.args.k c.loop-i.i c.loop-i.words c.requires.0 (omega arith) g)
