-- The loop's invariant: the first k words stay, and behind them each share has H' times its first i entries; a turn adds column i (`imaged-more`).
use Rattle.coefficients.specs.Imaged.{Imaged}
use Rattle.coefficients.proofs.sidebyside.image.Given as goal

abbrev pub invariant-loop-i : goal.invariant-loop-i
invariant-loop-i l = Imaged l.initial.words l.matrix l.k l.i l.words
