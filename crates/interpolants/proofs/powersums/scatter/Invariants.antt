-- The loop's invariant: the first o entries of c are done; together the turns reach every exponent once (`spaced-rows`).
use Rattle.std.proofs.Common.{get_or, length, ◌-◌, ◌≡◌}
use Rattle.interpolants.specs.Sums.{total}
use Rattle.interpolants.specs.Added.{Added, spaced}
use Rattle.interpolants.specs.Classes.{progression}
use Rattle.interpolants.proofs.powersums.scatter.Given as goal

abbrev pub invariant-loop-o : goal.invariant-loop-o
invariant-loop-o l = (length l.a ≡ length l.initial.a) × Added 255 (λ k. total (λ o. spaced 255 o 17 (progression (get_or l.c (16 - o) 0) 0 l.e) 15 k) l.o) l.initial.a l.a
