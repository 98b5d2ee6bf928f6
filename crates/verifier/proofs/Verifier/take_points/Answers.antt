-- A refusal leaves the session; past the checks the message has room in its place, and the session after it is the definition's.
use Rattle.std.proofs.Common.{arith, length, sym, ◌∙◌, ◌≡◌}
use Rattle.calls.specs.Verifier.{points}
use Rattle.verifier.specs.Held.Laws.{pointed-held}
use Rattle.verifier.specs.Laws.{refused-call, done-call, points-passed}
use Rattle.verifier.proofs.Verifier.take_points.Goals as goal

pub returns-in_err-points_checks : goal.returns-in_err-points_checks
unfolding points
returns-in_err-points_checks c = refused-call _ _ _ _ c.points_checks.ensures _ c.in_err-points_checks.was c.from_residual.ensures.1

pub put_at-requires : goal.put_at-requires
put_at-requires c =
    let room = points-passed _ _ (sym c.points_checks.ensures ∙ c.in_ok-points_checks.was) in
    let l : length c.args.self.now.messages ≡ 4_128 = search in omega (arith, room, l)

pub returns : goal.returns
unfolding points
returns c =
    let s = c.args.self.now in
    let room = points-passed _ _ (sym c.points_checks.ensures ∙ c.in_ok-points_checks.was) in
    let l : length s.messages ≡ 4_128 = search in
    rw (c.put_at.ensures, pointed-held s.parameters s.runs s.phase s.messages s.leaves l c.args.message2.now room)
    (done-call _ _ _ _ c.points_checks.ensures c.in_ok-points_checks.was)
