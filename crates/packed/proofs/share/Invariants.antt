-- The loop's invariant: the first j entries are written (`blend`).
use Rattle.std.proofs.Common.{◌≡◌}
use Rattle.lists.specs.Blend.{blend}
use Rattle.packed.specs.Share.{share}
use Rattle.packed.proofs.share.Given as goal

abbrev pub invariant-loop-j : goal.invariant-loop-j
invariant-loop-j l = l.out ≡ blend l.j (share l.i l.words) l.initial.out
