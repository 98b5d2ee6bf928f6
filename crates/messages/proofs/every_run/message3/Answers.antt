use Rattle.std.proofs.Common.{[], ap, arith, length, take, ◌*◌, ◌+◌, ◌/◌, ◌∙◌, ◌≡◌, ◌≤◌}
use Rattle.lists.specs.Part.Laws.{length-lent, part-fits}
use Rattle.layout.specs.Runs.Laws.{messages2-most}
use Rattle.exchange.specs.Values.{key_of}
use Rattle.messages.proofs.Laws.EveryRun.{arrays-of, cleared-none, cleared_more, placed-none, placed-next, response-turn, message3-made}
use Rattle.messages.specs.Run.{salt_in, root_in}
use Rattle.messages.proofs.every_run.message3.Invariants.{responses}
use Rattle.messages.proofs.every_run.message3.Goals as goal
use Rattle.messages.proofs.every_run.message3.Goals.{In-loop-e}

-- the part of a run lies within message 2, and within out
points-in : (c : In-loop-e) → c.loop-e.e * c.message2_length-size.result + c.message2_length-size.result ≤ length c.args.message2.now
points-in c = let n = ap (◌*◌ (length c.args.out.now / 32)) c.message2_length-size.ensures in
    omega (arith, part-fits c.loop-e.e (length c.args.out.now / 32) c.message2_length-size.result c.loop-e-test.true, c.requires.1.message2-is)

inside : (c : In-loop-e) → 32 * c.loop-e.e + 32 ≤ length c.loop-e.out
inside c = omega (arith, c.loop-e.auto.out, c.requires.1.out-is, c.loop-e-test.true)

pub loop-e-init : goal.loop-e-init
loop-e-init c = (cleared-none _ _, placed-none _ _)

pub overflow_mul-points : goal.overflow_mul-points
overflow_mul-points c = omega (arith, points-in (goal.at.overflow_mul-points c).In-loop-e, messages2-most c.args.p c.requires.0.within _ c.requires.0.runs.most, c.requires.1.message2-is)

pub overflow_add-next : goal.overflow_add-next
overflow_add-next c = omega (arith, points-in (goal.at.overflow_add-next c).In-loop-e, messages2-most c.args.p c.requires.0.within _ c.requires.0.runs.most, c.requires.1.message2-is)

pub overflow_mul-at : goal.overflow_mul-at
overflow_mul-at c = omega (arith, c.loop-e-test.true, c.requires.0.runs)

pub overflow_add-end : goal.overflow_add-end
overflow_add-end c = omega (arith, c.loop-e-test.true, c.requires.0.runs)

pub run_at-run-requires : goal.run_at-run-requires
run_at-run-requires c = (c.requires.0.seeds-are, omega (arith, c.loop-e-test.true, c.requires.0.runs))

pub slice_bounds-message3-end-in-loop-e : goal.slice_bounds-message3-end-in-loop-e
slice_bounds-message3-end-in-loop-e c = points-in (goal.at.slice_bounds-message3-end-in-loop-e c).In-loop-e

pub slice_bounds-message3-end-in-loop-e-2 : goal.slice_bounds-message3-end-in-loop-e-2
slice_bounds-message3-end-in-loop-e-2 c = inside (goal.at.slice_bounds-message3-end-in-loop-e-2 c).In-loop-e

pub message3-requires : goal.message3-requires
message3-requires c = let q = c.loop-e in let h = c.requires.1 in let at = (goal.at.message3-requires c).In-loop-e in (
  arrays-of _ _ _ _ _ _ _ c.requires.0 c.run_at-run.ensures.1 q.auto.work,
  record {
    message2-is = length-lent (q.e * c.message2_length-size.result) c.message2_length-size.result _ (points-in at) ∙ c.message2_length-size.ensures;
    matrix-is = h.matrix-is;
    y-is = h.y-is;
  },
  length-lent (32 * q.e) 32 q.out (inside at),
)

pub loop-e-preserved : goal.loop-e-preserved
loop-e-preserved c = let a = c.args in let d = c.message3 in let q = c.loop-e in
    let w = c.message2_length-size.ensures in
    let is = response-turn a.p (take a.p.m a.x.now) (salt_in a.seeds.now) (root_in a.seeds.now) (key_of a.matrix.now a.y.now) a.message2.now q.e _ _ _
    (ap (◌*◌ q.e) w) w c.run_at-run.ensures.0 _ d.ensures.0 in (
      cleared_more _ _ _ _ _ q.invariant.0 d.ensures.1,
      placed-next (responses a.p a.x.now a.seeds.now a.message2.now a.matrix.now a.y.now) q.e [] _ q.out _ _ _ (omega arith)
          q.invariant.1 _ is (omega arith) (inside (goal.at.loop-e-preserved c).In-loop-e) d.auto.out,
    )

pub returns : goal.returns
returns c = let a = c.args in let q = c.loop-e in
    let all : q.e ≡ length a.out.now / 32 = omega arith in (
      message3-made a.p _ _ _ _ (key_of a.matrix.now a.y.now) _ _ _ _ _ q.invariant.1 all (omega (arith, c.requires.1.out-is)),
      q.invariant.0.after (omega (arith, c.requires.0.runs)),
    )
