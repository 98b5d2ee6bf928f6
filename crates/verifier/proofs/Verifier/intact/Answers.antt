-- Parameters or a run count outside their limits and a leaf that is not below n each decide.
use Rattle.std.proofs.Common.{arith, length, length-take-le, sym, true, ◌∙◌, ◌≡◌, ◌&&◌, ◌≤◌}
use Rattle.lists.specs.Checks.Laws.{and_left, and_right}
use Rattle.parameters.specs.Limits.{within_limits}
use Rattle.parameters.specs.Limits.Laws.{test-within}
use Rattle.layout.specs.Runs.{runs_within}
use Rattle.layout.specs.Runs.Laws.{runs-within}
use Rattle.calls.specs.Lengths.{leaves_below}
use Rattle.verifier.specs.Held.{held}
use Rattle.verifier.specs.Laws.{intact-then, intact-else}
use Rattle.verifier.proofs.Verifier.intact.Goals as goal

pub slice_bounds-leaves_below-end : goal.slice_bounds-leaves_below-end
slice_bounds-leaves_below-end c =
    let s = c.args.self.now in
    let h = runs-within s.runs (and_right (within_limits s.parameters) _ (sym c.within.ensures ∙ c.if-within.true)) in
    let fits : s.runs ≤ length s.leaves = omega (arith, h) in sym (length-take-le _ _ fits)

pub slice_bounds-leaves-end : goal.slice_bounds-leaves-end
slice_bounds-leaves-end c =
    let s = c.args.self.now in
    let h = runs-within s.runs (and_right (within_limits s.parameters) _ (sym c.within.ensures ∙ c.if-within.true)) in omega (arith, h)

pub leaves_below-requires : goal.leaves_below-requires
leaves_below-requires c =
    let s = c.args.self.now in test-within s.parameters (and_left (within_limits s.parameters) _ (sym c.within.ensures ∙ c.if-within.true))

pub returns-then-within : goal.returns-then-within
unfolding leaves_below
returns-then-within c = c.leaves_below.ensures ∙ sym (intact-then (held c.args.self.now) (sym c.within.ensures ∙ c.if-within.true))

pub returns-else-within : goal.returns-else-within
returns-else-within c = c.if-within.false ∙ sym (intact-else (held c.args.self.now) (sym c.within.ensures ∙ c.if-within.false))
