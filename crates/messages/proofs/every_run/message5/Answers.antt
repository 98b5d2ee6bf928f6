use Rattle.std.proofs.Common.{[], ap, arith, get_or, length, take, ◌*◌, ◌+◌, ◌∙◌, ◌≡◌, ◌≤◌}
use Rattle.lists.specs.Part.Laws.{length-lent, part-fits}
use Rattle.layout.specs.Layout.{message5_length}
use Rattle.layout.specs.Runs.Laws.{messages2-most, messages5-most, messages5-none, messages5-turn, messages5-all, message5-inside}
use Rattle.exchange.specs.Values.{key_of}
use Rattle.messages.proofs.Laws.EveryRun.{arrays-of, cleared-none, cleared_more, placed-none, placed-turn, opening-turn, message5-made}
use Rattle.messages.specs.Run.{salt_in, root_in}
use Rattle.messages.proofs.every_run.message5.Invariants.{openings}
use Rattle.messages.proofs.every_run.message5.Goals as goal
use Rattle.messages.proofs.every_run.message5.Goals.{After-message5_length, In-loop-e}

-- the part of a run lies within message 2
points-in : (c : In-loop-e) → c.loop-e.e * c.message2_length-size.result + c.message2_length-size.result ≤ length c.args.message2.now
points-in c = let n = ap (◌*◌ (length c.args.leaves.now)) c.message2_length-size.ensures in
    omega (arith, part-fits c.loop-e.e (length c.args.leaves.now) c.message2_length-size.result c.loop-e-test.true, c.requires.1.message2-is)

-- its message 5 is as long as its leaf says
long : (c : After-message5_length) → c.message5_length.result ≡ message5_length c.args.p (get_or c.args.leaves.now c.loop-e.e 0)
long c = c.message5_length.ensures ∙ ap (message5_length c.args.p) c.from-leaf.ensures

-- and lies within out
inside : (c : After-message5_length) → c.loop-e.at + c.message5_length.result ≤ length c.loop-e.out
inside c = let q = c.loop-e in
    omega (arith, q.invariant.0, long c, message5-inside c.args.p c.args.leaves.now q.e c.loop-e-test.true, q.auto.out, c.requires.1.out-is)

pub loop-e-init : goal.loop-e-init
loop-e-init c = (messages5-none c.args.p c.args.leaves.now, cleared-none _ _, λ y. placed-none _ _)

pub overflow_mul-points : goal.overflow_mul-points
overflow_mul-points c = omega (arith, points-in (goal.at.overflow_mul-points c).In-loop-e, messages2-most c.args.p c.requires.0.within _ c.requires.0.runs.most, c.requires.1.message2-is)

pub overflow_add-next : goal.overflow_add-next
overflow_add-next c = omega (arith, points-in (goal.at.overflow_add-next c).In-loop-e, messages2-most c.args.p c.requires.0.within _ c.requires.0.runs.most, c.requires.1.message2-is)

pub overflow_add-end : goal.overflow_add-end
overflow_add-end c = omega (arith, inside (goal.at.overflow_add-end c).After-message5_length, messages5-most c.args.p c.requires.0.within c.args.leaves.now, c.requires.1.out-is, c.loop-e.auto.out, c.requires.0.runs)

pub run_at-run-requires : goal.run_at-run-requires
run_at-run-requires c = (c.requires.0.seeds-are, omega (arith, c.loop-e-test.true, c.requires.0.runs))

pub slice_bounds-message5-end-in-loop-e : goal.slice_bounds-message5-end-in-loop-e
slice_bounds-message5-end-in-loop-e c = points-in (goal.at.slice_bounds-message5-end-in-loop-e c).In-loop-e

pub slice_bounds-message5-end-in-loop-e-2 : goal.slice_bounds-message5-end-in-loop-e-2
slice_bounds-message5-end-in-loop-e-2 c = inside (goal.at.slice_bounds-message5-end-in-loop-e-2 c).After-message5_length

pub message5-requires : goal.message5-requires
message5-requires c = let q = c.loop-e in let h = c.requires.1 in let at = goal.at.message5-requires c in (
  arrays-of _ _ _ _ _ _ _ c.requires.0 c.run_at-run.ensures.1 q.auto.work,
  record {
    message2-is = length-lent (q.e * c.message2_length-size.result) c.message2_length-size.result _ (points-in at.In-loop-e) ∙ c.message2_length-size.ensures;
    is_leaf = omega (arith, c.from-leaf.ensures, h.below q.e c.loop-e-test.true);
    matrix-is = h.matrix-is;
    out-is = length-lent q.at c.message5_length.result q.out (inside at.After-message5_length) ∙ c.message5_length.ensures;
  },
)

pub loop-e-preserved : goal.loop-e-preserved
loop-e-preserved c = let a = c.args in let d = c.message5 in let q = c.loop-e in let at = goal.at.loop-e-preserved c in
    let w = c.message2_length-size.ensures in (
      messages5-turn a.p a.leaves.now q.e q.at c.message5_length.result c.loop-e-test.true q.invariant.0 (long at.After-message5_length),
      cleared_more _ _ _ _ _ q.invariant.1 d.ensures.1,
      λ y. placed-turn (openings a.p a.x.now a.seeds.now a.message2.now a.leaves.now a.matrix.now y) q.e [] _ q.out _ _
          (q.invariant.2 y) _
          (opening-turn a.p (take a.p.m a.x.now) (salt_in a.seeds.now) (root_in a.seeds.now) (key_of a.matrix.now y) a.message2.now q.e _ _ _
          (ap (◌*◌ q.e) w) w c.run_at-run.ensures.0 a.leaves.now _ _ c.from-leaf.ensures (d.ensures.0 y))
          (omega arith) (inside at.After-message5_length) d.auto.out,
    )

pub returns : goal.returns
returns c = let a = c.args in let q = c.loop-e in
    let all : q.e ≡ length a.leaves.now = omega arith in (
      λ y. message5-made a.p _ _ _ _ (key_of a.matrix.now y) _ _ _ _ _ _ (q.invariant.2 y) all (omega (arith, messages5-all a.p a.leaves.now q.e (omega arith), q.invariant.0, c.requires.1.out-is)),
      q.invariant.1.after (omega (arith, c.requires.0.runs)),
    )
