-- A refusal leaves session and work area; past the checks the verdict on all runs is the answer, and the session is closed.
use Rattle.std.proofs.Common.{ap, arith, length, length-take-le, refl, sym, take, ℕ, ◌∙◌, ◌≡◌}
use Rattle.shake256.specs.Fips.{SHAKE256}
use Rattle.exchange.specs.Values.{key_of}
use Rattle.runs.specs.Opening.{verdict}
use Rattle.calls.specs.Verifier.{ended}
use Rattle.verifier.specs.Held.{held}
use Rattle.verifier.specs.Judging.{transcript_in}
use Rattle.verifier.specs.Judging.Laws.{held-verdict}
use Rattle.verifier.specs.Laws.{Opened, refused-opening, judged-opening, opening-passed}
use Rattle.verifier.proofs.Verifier.take_opening.Goals as goal
use Rattle.verifier.proofs.Verifier.take_opening.Goals.{In_ok-opening_checks}

passed : (c : In_ok-opening_checks) → (let a = c.args in Opened (held a.self.now) (length a.message5.now) (length a.matrix.now)
    (length a.y.now) (length a.work.now))
passed c = opening-passed _ _ _ _ _ (sym c.opening_checks.ensures ∙ c.in_ok-opening_checks.was)

chosen : (c : In_ok-opening_checks) → (let s = c.args.self.now in length (take s.runs s.leaves) ≡ s.runs)
chosen c =
    let n : length c.args.self.now.leaves ≡ 32 = search in
    length-take-le c.args.self.now.runs c.args.self.now.leaves (omega (arith, n, (passed c).counted.most))

pub returns-in_err-opening_checks : goal.returns-in_err-opening_checks
returns-in_err-opening_checks c = refused-opening _ _ _ _ _ _ c.opening_checks.ensures _ c.in_err-opening_checks.was c.from_residual.ensures.1

pub shared_ref_as_front-leaves : goal.shared_ref_as_front-leaves
shared_ref_as_front-leaves c = omega (arith, (passed (goal.at.shared_ref_as_front-leaves c).In_ok-opening_checks).counted.most)

pub judge-answer-requires : goal.judge-answer-requires
judge-answer-requires c =
    let known = passed (goal.at.judge-answer-requires c).In_ok-opening_checks in
    let all = chosen (goal.at.judge-answer-requires c).In_ok-opening_checks in
    let l : length c.args.self.now.messages ≡ 4_128 = search in
    record {
      within = known.within;
      some = omega (arith, all, known.counted.least);
      few = omega (arith, all, known.counted.most);
      sized-messages = l;
      below = known.below;
      sized-message5 = known.size;
      lent = known.lent;
    }

pub returns : goal.returns
unfolding ended
returns c = let a = c.args in
    let s = a.self.now in let key = key_of a.matrix.now a.y.now in
    judged-opening _ _ _ _ _ _ c.opening_checks.ensures _ _ _
    (c.judge-answer.ensures.value
    ∙ ap (λ (n : ℕ). verdict SHAKE256 s.parameters n (transcript_in s.messages (take s.runs s.leaves) a.message5.now) key) (chosen (goal.at.returns c).In_ok-opening_checks)
    ∙ sym (held-verdict s.parameters s.phase s.runs s.messages s.leaves a.message5.now key))
    refl c.judge-answer.ensures.work_after c.in_ok-opening_checks.was
