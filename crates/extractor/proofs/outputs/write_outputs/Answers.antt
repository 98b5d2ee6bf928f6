-- The last run's part, then those before it (`part-turn`).
use Rattle.std.proofs.Common.{arith, drop, length, refl, subst, suc, take, ℕ, ◌*◌, ◌++◌, ◌+◌, ◌-◌, ◌<◌, ◌∙◌, ◌≡◌}
use Rattle.extractor.specs.Pairs.{pair_at}
use Rattle.extractor.specs.Recall.{prefix_of}
use Rattle.extractor.specs.Outputs.{Written}
use Rattle.extractor.specs.Outputs.Laws.{held-part, written_none, places-asked, part-small, part-inside, part-length, part-turn}
use Rattle.extractor.proofs.outputs.write_outputs.Goals as goal
use Rattle.extractor.proofs.outputs.write_outputs.Goals.{After-output_length-size, After-write_run}

last : (c : After-output_length-size) → length c.args.first.leaves.now - 1 < length c.args.first.leaves.now
last c = omega (arith, c.requires.asked.some)

begun : (c : After-write_run) → let a = c.args in let n : ℕ = length a.first.leaves.now - 1 in let k : ℕ = c.output_length-size.result in
    Written a.p a.first.message1.now a.first.leaves.now a.first.message5.now a.second.leaves.now a.second.message5.now a.out.now n
    (take (n * k) a.out.now ++ (c.write_run.new.out ++ drop (n * k + k - n * k) (drop (n * k) a.out.now)))
begun c = let a = c.args in let n = length a.first.leaves.now - 1 in
    let last : n < length a.first.leaves.now = omega (arith, c.requires.asked.some) in
    let next : length a.first.leaves.now ≡ suc n = omega (arith, c.requires.asked.some) in
    part-turn _ _ _ _ _ _ _ _ c.requires.asked _ c.output_length-size.ensures _ last a.out.now refl a.out.now
    (subst (λ (m : ℕ). Written a.p a.first.message1.now a.first.leaves.now a.first.message5.now a.second.leaves.now a.second.message5.now a.out.now m a.out.now) next (written_none _ _ _ _ _ _ _ c.requires.asked.room))
    c.write_run.new.out c.write_run.auto.out
    ((rw c.pair_at-last.ensures at c.write_run.ensures)
    ∙ held-part (pair_at a.p a.first.leaves.now a.second.leaves.now n) (prefix_of a.first.message1.now n) a.first.message5.now a.second.message5.now a.openings.now c.requires.holds _)

pub overflow_sub-run : goal.overflow_sub-run
overflow_sub-run c = c.requires.asked.some

pub overflow_mul-at : goal.overflow_mul-at
overflow_mul-at c = omega (arith, part-small _ _ _ _ _ _ _ _ c.requires.asked _ c.output_length-size.ensures _ (last (goal.at.overflow_mul-at c).After-output_length-size))

pub pair_at-last-requires : goal.pair_at-last-requires
pair_at-last-requires c = places-asked _ _ _ _ _ _ _ _ c.requires.asked _ c.output_length-size.ensures _ (last (goal.at.pair_at-last-requires c).After-output_length-size)

pub overflow_add-at : goal.overflow_add-at
overflow_add-at c = omega (arith, part-small _ _ _ _ _ _ _ _ c.requires.asked _ c.output_length-size.ensures _ (last (goal.at.overflow_add-at c).After-output_length-size))

pub slice_bounds-write_run-end : goal.slice_bounds-write_run-end
slice_bounds-write_run-end c =
    part-inside _ _ _ _ _ _ _ _ c.requires.asked _ c.output_length-size.ensures _ (last (goal.at.slice_bounds-write_run-end c).After-output_length-size) c.args.out.now refl

pub write_run-requires : goal.write_run-requires
write_run-requires c = let q = c.requires.asked in let l = last (goal.at.write_run-requires c).After-output_length-size in
    rw c.pair_at-last.ensures
    (record {
      within = q.within;
      first = q.first _ l;
      second = q.second _ l;
      held = q.held;
      room = part-length _ _ _ _ _ _ _ _ q _ c.output_length-size.ensures _ l c.args.out.now refl;
    })

pub write_earlier-requires : goal.write_earlier-requires
write_earlier-requires c = let q = c.requires.asked in
    record {
      within = q.within;
      reaches = q.reaches;
      some = q.some;
      few = q.few;
      same = q.same;
      first = q.first;
      second = q.second;
      held = q.held;
      room = (begun (goal.at.write_earlier-requires c).After-write_run).sized;
    }

pub shape_of-out : goal.shape_of-out
shape_of-out c = omega (arith, c.write_earlier, (begun (goal.at.shape_of-out c).After-write_run).sized, c.requires.asked.room)

pub returns : goal.returns
returns c = c.write_earlier.ensures c.args.out.now (begun (goal.at.returns c).After-write_run)
