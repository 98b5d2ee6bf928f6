-- The loop's invariant: the first i rows are in the word, and the entry of row i is at place `at`.
use Rattle.std.proofs.Common.{◌≡◌}
use Rattle.interpolants.specs.Words.{side_by_side}
use Rattle.interpolants.proofs.powersums.side_by_side.Given as goal

abbrev pub invariant-loop-i : goal.invariant-loop-i
invariant-loop-i l = l.w ≡ side_by_side l.rows l.i l.m l.j
