-- The room has the longest message 5's length.
use Rattle.std.proofs.Common.{List, arith, length, length-take-le, replicate, sym, ℕ, ◌*◌, ◌≡◌, ◌≤◌}
use Rattle.parameters.specs.declared.Parameters.{Parameters}
use Rattle.parameters.specs.Limits.{Within}
use Rattle.layout.specs.Maxima.{most_runs, longest_message5}
use Rattle.layout.specs.Runs.{messages5_length}
use Rattle.layout.specs.Runs.Laws.{messages5-most}
use Rattle.unlock.proofs.messages.Goals as goal

long : {n : ℕ} (p : Parameters) (leaves : List ℕ) → n ≡ messages5_length p leaves → Within p → length leaves ≤ most_runs → n ≤ most_runs * longest_message5
long p leaves e w h = omega (arith, messages5-most p w leaves)

pub slice_bounds-message5-end : goal.slice_bounds-message5-end
slice_bounds-message5-end g c =
    long c.args.p c.leaves.new.out c.messages5_length.ensures c.requires.0
    (omega (arith, c.leaves.auto.out, length-take-le c.args.runs (replicate {A = ℕ} 32 0) c.requires.1))

pub slice_bounds-message5-end-2 : goal.slice_bounds-message5-end-2
slice_bounds-message5-end-2 g c =
    sym
    (length-take-le _ _
    (long c.args.p c.leaves.new.out c.messages5_length.ensures c.requires.0
    (omega (arith, c.leaves.auto.out, length-take-le c.args.runs (replicate {A = ℕ} 32 0) c.requires.1))))
