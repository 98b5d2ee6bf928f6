-- The loop's invariant: S of the first i shares is written; a turn does the next eight, or those that are left (`blocks_more`).
use Rattle.std.proofs.Common.{◌-◌, ◌≤◌}
use Rattle.exchange.specs.Values.{key_of}
use Rattle.points.specs.Blocks.{Blocks}
use Rattle.coefficients.specs.Groups.{row_of}
use Rattle.coefficients.proofs.interpolate_with.Given as goal

abbrev pub invariant-loop-i : goal.invariant-loop-i
invariant-loop-i l =
    (l.i ≤ l.n) × Blocks (row_of l.p (key_of l.matrix l.y) l.group.first l.shares) l.m l.initial.rows l.rows l.i

abbrev pub decreases-loop-i : goal.decreases-loop-i
decreases-loop-i l = l.n - l.i
