-- The loop's invariant: the parts of the runs from this one on are written (`Written`).
use Rattle.std.proofs.Common.{List, length, ℕ, ◌-◌}
use Rattle.extractor.specs.Outputs.{Written}
use Rattle.extractor.proofs.outputs.write_earlier.Given as goal

abbrev pub invariant-loop-run : goal.invariant-loop-run
invariant-loop-run l =
    (o : List ℕ) → Written l.p l.first.message1.now l.first.leaves.now l.first.message5.now l.second.leaves.now l.second.message5.now o (length l.first.leaves.now - 1) l.initial.out
    → Written l.p l.first.message1.now l.first.leaves.now l.first.message5.now l.second.leaves.now l.second.message5.now o l.run l.out
