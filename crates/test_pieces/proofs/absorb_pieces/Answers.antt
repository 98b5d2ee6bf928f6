use Rattle.std.proofs.Common.{ap, arith, length, refl, ◌∙◌}
use lib.Seq.{take-length}
use Rattle.test_pieces.proofs.Parts.{absorbed-part}
use Rattle.shake256.specs.Stream.{absorbed}
use Rattle.test_pieces.proofs.absorb_pieces.Goals as goal

pub loop-cut-init : goal.loop-cut-init
unfolding absorbed
loop-cut-init c = (omega arith, refl)

pub loop-cut-preserved : goal.loop-cut-preserved
loop-cut-preserved c =
    let m = c.args.message.now in
    let e = c.end-e in
    let part = absorbed-part c.args.s c.loop-cut.t m c.loop-cut.i e.result e.ensures.0 c.loop-cut.invariant.1 in
    (e.ensures.1, c.absorb-next.ensures ∙ part)

pub returns : goal.returns
returns c =
    let m = c.args.message.now in
    c.absorb.ensures ∙ absorbed-part c.args.s c.loop-cut.t m c.loop-cut.i (length m) c.loop-cut.invariant.0 c.loop-cut.invariant.1 ∙
    ap (absorbed c.args.s) (take-length m)
