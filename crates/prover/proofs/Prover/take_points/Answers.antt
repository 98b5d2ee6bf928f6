-- The checks refuse and nothing changes, or they pass and message 3 is made from what the session holds.
use Rattle.std.proofs.Common.{List, ap, ap₂, arith, length, sym, ℕ, ◌/◌, ◌∙◌, ◌≡◌}
use Rattle.shake256.specs.Fips.{SHAKE256}
use Rattle.layout.specs.Runs.{messages2_length, messages3_length}
use Rattle.layout.specs.Runs.Laws.{messages2-most}
use Rattle.exchange.specs.Values.{key_of}
use Rattle.runs.specs.Messages.{message3}
use Rattle.messages.specs.Run.{salt_in, root_in}
use Rattle.calls.specs.Prover.{held_x, points}
use Rattle.prover.specs.Carried.{held-exchanging, run-count, answered-made}
use Rattle.prover.specs.Checks.{refused-call, done-call, points-facts}
use Rattle.prover.specs.Facts.{Answering}
use Rattle.prover.specs.Held.{held}
use Rattle.prover.specs.Next.{answered_held}
use Rattle.prover.proofs.Prover.take_points.Goals as goal
use Rattle.prover.proofs.Prover.take_points.Goals.{In_ok-points_checks}

facts : (c : In_ok-points_checks) → (let a = c.args in
    Answering (held a.self.now) a.message2.now a.matrix.now a.y.now a.work.now a.out.now)
facts c =
    let a = c.args in
    points-facts SHAKE256 (held a.self.now) a.work.now a.out.now (key_of a.matrix.now a.y.now) a.message2.now _ c.points_checks.ensures
    c.in_ok-points_checks.was

-- how many runs out has room for
count : (c : In_ok-points_checks) → (let a = c.args in length a.out.now / 32 ≡ a.self.now.runs)
count c = run-count _ _ (facts c).out-is

pub returns-in_err-points_checks : goal.returns-in_err-points_checks
unfolding points
returns-in_err-points_checks c =
    let a = c.args in
    refused-call _ _ (held a.self.now) a.out.now a.work.now _ _ c.points_checks.ensures c.in_err-points_checks.was c.from_residual.ensures.1

pub message3-requires : goal.message3-requires
message3-requires c =
    let h = facts (goal.at.message3-requires c).In_ok-points_checks in
    let x-is : length c.args.self.now.x ≡ 255 = search in
    let n = count (goal.at.message3-requires c).In_ok-points_checks in (
      held-exchanging (held c.args.self.now) x-is _ _ c.args.work.now n c.seeds_of-seeds.ensures.2 h.ready h.lent.work-fits,
      record {
        message2-is = h.message2-is ∙ ap (messages2_length c.args.self.now.parameters) (sym n);
        matrix-is = h.lent.matrix-is;
        y-is = h.lent.y-is;
        out-is = h.out-is ∙ ap messages3_length (sym n);
      },
    )

pub put_at-requires : goal.put_at-requires
put_at-requires c =
    let h = facts (goal.at.put_at-requires c).In_ok-points_checks in
    let l = h.ready.limits in
    omega (arith, h.message2-is, messages2-most c.args.self.now.parameters l.within c.args.self.now.runs l.counted.most)

pub returns : goal.returns
unfolding points held_x
returns c = let a = c.args in let s = a.self.now in let key = key_of a.matrix.now a.y.now in
    answered-made (held s) key a.work.now a.out.now a.message2.now _ _ _ (answered_held (held s) a.message2.now c.put_at.ensures)
    (c.message3.ensures.0
    ∙ ap (λ (n : ℕ). message3 SHAKE256 s.parameters n (held_x (held s)) (salt_in c.seeds_of-seeds.result) (root_in c.seeds_of-seeds.result) key a.message2.now) (count (goal.at.returns c).In_ok-points_checks)
    ∙ ap₂ (λ (b d : List ℕ). message3 SHAKE256 s.parameters s.runs (held_x (held s)) b d key a.message2.now) c.seeds_of-seeds.ensures.0
    c.seeds_of-seeds.ensures.1)
    c.message3.ensures.1
    ∙ done-call _ _ (held s) a.out.now a.work.now _ c.points_checks.ensures c.in_ok-points_checks.was
