-- Each turn lends the part of the run below and writes it (`part-turn`).
use Rattle.std.proofs.Common.{arith, length, subst, suc, ℕ, ◌-◌, ◌<◌, ◌∙◌, ◌≡◌}
use Rattle.extractor.specs.Outputs.{Written}
use Rattle.extractor.specs.Outputs.Laws.{written_all, places-asked, part-small, part-inside, recalled-asked, part-turn}
use Rattle.extractor.proofs.outputs.write_earlier.Goals as goal
use Rattle.extractor.proofs.outputs.write_earlier.Goals.{In-loop-run}

below : (c : In-loop-run) → c.loop-run.run - 1 < length c.args.first.leaves.now
below c = omega (arith, c.loop-run.auto.run, c.loop-run-test.true, c.requires.some)

pub overflow_mul-at : goal.overflow_mul-at
overflow_mul-at c = omega (arith, part-small _ _ _ _ _ _ _ _ c.requires _ c.output_length-size.ensures _ (below (goal.at.overflow_mul-at c).In-loop-run))

pub pair_at-pair-requires : goal.pair_at-pair-requires
pair_at-pair-requires c = places-asked _ _ _ _ _ _ _ _ c.requires _ c.output_length-size.ensures _ (below (goal.at.pair_at-pair-requires c).In-loop-run)

pub overflow_cast-run : goal.overflow_cast-run
overflow_cast-run c = omega (arith, below (goal.at.overflow_cast-run c).In-loop-run, c.requires.few)

pub overflow_add-at : goal.overflow_add-at
overflow_add-at c = omega (arith, part-small _ _ _ _ _ _ _ _ c.requires _ c.output_length-size.ensures _ (below (goal.at.overflow_add-at c).In-loop-run))

pub slice_bounds-write_recalled-end : goal.slice_bounds-write_recalled-end
slice_bounds-write_recalled-end c =
    part-inside _ _ _ _ _ _ _ _ c.requires _ c.output_length-size.ensures _ (below (goal.at.slice_bounds-write_recalled-end c).In-loop-run) c.loop-run.out c.loop-run.auto.out

pub write_recalled-requires : goal.write_recalled-requires
write_recalled-requires c = rw c.pair_at-pair.ensures
    (recalled-asked _ _ _ _ _ _ _ _ c.requires _ c.output_length-size.ensures _ (below (goal.at.write_recalled-requires c).In-loop-run) c.loop-run.out c.loop-run.auto.out
    c.loop-run.openings (c.loop-run.auto.openings ∙ c.requires.held))

pub loop-run-preserved : goal.loop-run-preserved
loop-run-preserved c = λ o w. let a = c.args in
    let more : c.loop-run.run ≡ suc (c.loop-run.run - 1) = omega (arith, c.loop-run-test.true) in
    part-turn _ _ _ _ _ _ _ _ c.requires _ c.output_length-size.ensures _ (below (goal.at.loop-run-preserved c).In-loop-run) c.loop-run.out c.loop-run.auto.out o
    (subst (λ (n : ℕ). Written a.p a.first.message1.now a.first.leaves.now a.first.message5.now a.second.leaves.now a.second.message5.now o n c.loop-run.out) more (c.loop-run.invariant o w))
    c.write_recalled.new.out c.write_recalled.auto.out
    (rw c.pair_at-pair.ensures at c.write_recalled.ensures)

pub returns : goal.returns
returns c = λ o w. let a = c.args in
    let none-left : c.loop-run.run ≡ 0 = omega (arith, c.loop-run-test.false) in
    written_all a.p a.first.message1.now a.first.leaves.now a.first.message5.now a.second.leaves.now a.second.message5.now o c.loop-run.out
    (subst (λ (n : ℕ). Written a.p a.first.message1.now a.first.leaves.now a.first.message5.now a.second.leaves.now a.second.message5.now o n c.loop-run.out) none-left (c.loop-run.invariant o w))
