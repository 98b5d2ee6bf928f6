-- The loop's invariant: the first classes are added to zeros.
use Rattle.std.proofs.Common.{length, replicate, ◌-◌, ◌≡◌}
use Rattle.interpolants.specs.Added.{Added}
use Rattle.interpolants.specs.Classes.{scaled_by, class_sums}
use Rattle.interpolants.proofs.powersums.power_sums.Given as goal

abbrev pub invariant-loop-class : goal.invariant-loop-class
invariant-loop-class l = (length l.a ≡ 255) × Added 255 (λ k. class_sums (scaled_by l.rows l.n l.scales) l.class (254 - k)) (replicate 255 0) l.a
