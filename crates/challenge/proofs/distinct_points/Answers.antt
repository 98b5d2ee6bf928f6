use Rattle.std.proofs.Common.{Bool, List, ap, arith, drop, length, sym, take, ℕ, ◌*◌, ◌+◌, ◌-◌, ◌<◌, ◌∙◌, ◌≡◌, ◌≤◌}
use Rattle.lists.specs.Part.{part}
use Rattle.lists.specs.Part.Laws.{part-fits, lent-part, length-lent}
use Rattle.parameters.specs.declared.Parameters.{Parameters}
use Rattle.layout.specs.Layout.{message2_length}
use Rattle.layout.specs.Maxima.{most_messages2}
use Rattle.layout.specs.Runs.Laws.{messages2-most}
use Rattle.runs.specs.Messages.{message2_at}
use Rattle.runs.specs.Points.{distinct_in, distinct_points}
use Rattle.runs.proofs.Points.Laws.{some-fails, all_none, all_more, all_end}
use Rattle.challenge.proofs.distinct_points.Goals as goal
use Rattle.challenge.proofs.distinct_points.Goals.{In-loop-e}

-- the part of a run lies within message 2
run_inside : (L runs e size n : ℕ) → e < runs → size ≡ L → n ≡ runs * L → e * size + size ≤ n
run_inside L runs e size n h q m = let a : e * size ≡ e * L = ap (e *◌) q in omega (arith, part-fits e runs L h, a)

run-part : (p : Parameters) (m2 : List ℕ) (size e : ℕ) → size ≡ message2_length p
    → take (e * size + size - e * size) (drop (e * size) m2) ≡ message2_at p m2 e
unfolding message2_at
run-part p m2 size e q = lent-part m2 (e * size) size ∙ ap (λ (n : ℕ). part m2 (e * n) n) q

size_is : (c : In-loop-e) → c.message2_length-size.result ≡ message2_length c.args.p
size_is c =
    c.message2_length-size.ensures

inside : (c : In-loop-e) → c.loop-e.e * c.message2_length-size.result + c.message2_length-size.result ≤ length c.args.message2.now
inside c =
    let size_is : c.message2_length-size.result ≡ message2_length c.args.p = c.message2_length-size.ensures in
    run_inside (message2_length c.args.p) c.args.runs c.loop-e.e (c.message2_length-size.result) _ c.loop-e-test.true (size_is) c.requires.2

short : (c : In-loop-e) → length c.args.message2.now ≤ most_messages2
short c =
    let a = messages2-most c.args.p c.requires.0 c.args.runs c.requires.1 in omega (arith, a, c.requires.2)

-- the answer for run e
run-told : (c : In-loop-e) → {r : Bool}
    → r ≡ distinct_in c.args.p.t (take (c.loop-e.e * c.message2_length-size.result + c.message2_length-size.result - c.loop-e.e * c.message2_length-size.result) (drop (c.loop-e.e * c.message2_length-size.result) c.args.message2.now))
    → r ≡ distinct_in c.args.p.t (message2_at c.args.p c.args.message2.now c.loop-e.e)
run-told c e =
    let size_is : c.message2_length-size.result ≡ message2_length c.args.p = c.message2_length-size.ensures in
    e ∙ ap (distinct_in c.args.p.t) (run-part _ _ (c.message2_length-size.result) _ (size_is))

pub loop-e-init : goal.loop-e-init
loop-e-init c = all_none _

pub overflow_mul-at : goal.overflow_mul-at
overflow_mul-at c = omega (arith, inside (goal.at.overflow_mul-at c).In-loop-e, short (goal.at.overflow_mul-at c).In-loop-e)

pub overflow_add-at : goal.overflow_add-at
overflow_add-at c = omega (arith, inside (goal.at.overflow_add-at c).In-loop-e, short (goal.at.overflow_add-at c).In-loop-e)

pub slice_bounds-distinct_in-start : goal.slice_bounds-distinct_in-start
slice_bounds-distinct_in-start c = omega (arith, inside (goal.at.slice_bounds-distinct_in-start c).In-loop-e)

pub slice_bounds-distinct_in-end : goal.slice_bounds-distinct_in-end
slice_bounds-distinct_in-end c = omega (arith, inside (goal.at.slice_bounds-distinct_in-end c).In-loop-e)

pub distinct_in-requires : goal.distinct_in-requires
distinct_in-requires c = omega (arith, length-lent (c.loop-e.e * c.message2_length-size.result) (c.message2_length-size.result) c.args.message2.now (inside (goal.at.distinct_in-requires c).In-loop-e), size_is (goal.at.distinct_in-requires c).In-loop-e)

pub returns-then-not-distinct_in : goal.returns-then-not-distinct_in
unfolding distinct_points
returns-then-not-distinct_in c = sym (some-fails _ _ c.loop-e.e c.loop-e-test.true (sym (run-told (goal.at.returns-then-not-distinct_in c).In-loop-e c.distinct_in.ensures) ∙ c.if-not-distinct_in.true))

pub loop-e-preserved : goal.loop-e-preserved
loop-e-preserved c =
    all_more _ c.loop-e.e c.loop-e.invariant (sym (run-told (goal.at.loop-e-preserved c).In-loop-e c.distinct_in.ensures) ∙ c.if-not-distinct_in.false)

pub returns : goal.returns
unfolding distinct_points
returns c = all_end _ c.args.runs c.loop-e.e (omega arith) (omega arith) c.loop-e.invariant
