-- The loop's invariant: what is left of the piece leads from the present state to that of the whole piece (`fold_more`).
use Rattle.std.proofs.Common.{drop, ◌≡◌}
use Rattle.text.specs.Fold.{fold}
use Rattle.keytext.specs.Scan.{held, step}
use Rattle.keytext.proofs.KeyScan.feed.Given as goal

abbrev pub invariant-loop-b : goal.invariant-loop-b
invariant-loop-b l =
    fold step (held l.scan l.matrix l.y l.x_a) (drop l.b-index l.piece) ≡ fold step (held l.initial.scan l.initial.matrix l.initial.y l.initial.x_a) l.piece
