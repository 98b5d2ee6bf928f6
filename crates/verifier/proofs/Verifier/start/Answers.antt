-- A refusal leaves the session; past the checks message 1 has room in its place and the new session is the definition's.
use Rattle.std.proofs.Common.{ap, arith, length, replicate, sym, ℕ, ◌∙◌, ◌≡◌}
use lib.ListN.{length-replicate}
use Rattle.calls.specs.Verifier.{begin}
use Rattle.verifier.specs.Held.{held_length}
use Rattle.verifier.specs.Held.Laws.{begun-held}
use Rattle.verifier.specs.Laws.{refused-call, done-call, begin-passed}
use Rattle.verifier.proofs.Verifier.start.Goals as goal

pub returns-in_err-begin_checks : goal.returns-in_err-begin_checks
unfolding begin
returns-in_err-begin_checks c = refused-call _ _ _ _ c.begin_checks.ensures _ c.in_err-begin_checks.was c.from_residual.ensures.1

pub put_at-requires : goal.put_at-requires
put_at-requires c =
    let room = begin-passed _ _ _ (sym c.begin_checks.ensures ∙ c.in_ok-begin_checks.was) in
    let l : length (replicate {A = ℕ} held_length 0) ≡ held_length = length-replicate {A = ℕ} held_length 0 in omega (arith, room, l)

pub returns : goal.returns
unfolding begin
returns c =
    let room = begin-passed _ _ _ (sym c.begin_checks.ensures ∙ c.in_ok-begin_checks.was) in
    rw (c.put_at.ensures, begun-held c.args.p c.args.runs c.args.message1.now room)
    (done-call _ _ _ _ c.begin_checks.ensures c.in_ok-begin_checks.was)
