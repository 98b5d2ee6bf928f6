-- The loop's invariant: the hex of the first i bytes stands in out from index at on, stored digit by digit (`hex_text-more`).
use Rattle.std.proofs.Common.{length, take, ◌≡◌}
use lib.Seq.{sets}
use Rattle.text.specs.Hex.{hex_text}
use Rattle.text.proofs.print.put_hex.Given as goal

abbrev pub invariant-loop-i : goal.invariant-loop-i
invariant-loop-i l = (l.out ≡ sets l.initial.out l.at (hex_text (take l.i l.s))) × (length l.out ≡ length l.initial.out)
