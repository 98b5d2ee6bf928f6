-- A refusal leaves the session; past the checks the message has room in its place, and the session after it is the definition's.
use Rattle.std.proofs.Common.{arith, length, sym, ◌∙◌, ◌≡◌}
use Rattle.calls.specs.Verifier.{response}
use Rattle.verifier.specs.Held.Laws.{responded-held}
use Rattle.verifier.specs.Laws.{refused-call, done-call, response-passed}
use Rattle.verifier.proofs.Verifier.take_response.Goals as goal

pub returns-in_err-response_checks : goal.returns-in_err-response_checks
unfolding response
returns-in_err-response_checks c = refused-call _ _ _ _ c.response_checks.ensures _ c.in_err-response_checks.was c.from_residual.ensures.1

pub put_at-requires : goal.put_at-requires
put_at-requires c =
    let room = response-passed _ _ (sym c.response_checks.ensures ∙ c.in_ok-response_checks.was) in
    let l : length c.args.self.now.messages ≡ 4_128 = search in omega (arith, room, l)

pub returns : goal.returns
unfolding response
returns c =
    let s = c.args.self.now in
    let room = response-passed _ _ (sym c.response_checks.ensures ∙ c.in_ok-response_checks.was) in
    let l : length s.messages ≡ 4_128 = search in
    rw (c.put_at.ensures, responded-held s.parameters s.runs s.phase s.messages s.leaves l c.args.message3.now room)
    (done-call _ _ _ _ c.response_checks.ensures c.in_ok-response_checks.was)
