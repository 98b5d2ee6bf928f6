use Rattle.std.proofs.Common.{arith, length, refl, ◌*◌, ◌+◌, ◌∙◌, ◌≡◌, ◌≤◌}
use Rattle.packed.specs.Share.{share}
use Rattle.points.specs.Blocks.{within-blocks, length-block, blocks-none, blocks-turn, blocks_end}
use Rattle.coefficients.proofs.unpack.Goals as goal
use Rattle.coefficients.proofs.unpack.Goals.{In-loop-i}

-- share i has its place
inside : (c : In-loop-i) → c.loop-i.i * length c.args.words.now + length c.args.words.now ≤ length c.loop-i.rows
inside c =
    let p = c.loop-i in
    within-blocks p.i c.args.n _ _ _ c.loop-i-test.true refl (p.auto.rows ∙ c.requires.1)

pub loop-i-init : goal.loop-i-init
loop-i-init c = blocks-none _ _ _

pub overflow_mul-at : goal.overflow_mul-at
overflow_mul-at c = omega (arith, inside (goal.at.overflow_mul-at c).In-loop-i)

pub overflow_add-at : goal.overflow_add-at
overflow_add-at c = omega (arith, inside (goal.at.overflow_add-at c).In-loop-i)

pub slice_bounds-share-end : goal.slice_bounds-share-end
slice_bounds-share-end c = omega (arith, inside (goal.at.slice_bounds-share-end c).In-loop-i)

pub loop-i-preserved : goal.loop-i-preserved
loop-i-preserved c =
    let p = c.loop-i in let w = c.args.words.now in let u = c.share.new.out in let fits = inside (goal.at.loop-i-preserved c).In-loop-i in
    let at = p.i * length w in
    let eu : length u ≡ length w = c.share.auto.out ∙ length-block at (length w) p.rows fits in
    blocks-turn (λ j. share j w) (length w) c.args.n c.args.rows.now c.requires.1 p.rows u p.i at c.loop-i-test.true refl eu c.share.ensures p.invariant

pub returns : goal.returns
returns c = let w = c.args.words.now in
    blocks_end (λ j. share j w) (length w) c.args.n c.args.rows.now c.requires.1 c.loop-i.rows c.loop-i.i (omega arith) c.loop-i.invariant
