-- The parts are written one behind the other (`written_at`).
use Rattle.std.proofs.Common.{List, [], ap, ap₂, arith, drop, length-take-le, sym, take, ℕ, ◌*◌, ◌+◌, ◌-◌, ◌∙◌, ◌∷◌, ◌≡◌}
use Rattle.lists.specs.Part.{put_at}
use Rattle.layout.specs.Runs.Laws.{messages2-most}
use Rattle.layout.specs.Layout.{message2_length}
use Rattle.openings.specs.Statement.Laws.{written_at}
use Rattle.openings.proofs.statement.put_statement.Goals as goal
use Rattle.openings.proofs.statement.put_statement.Goals.{After-prefix_place-at}

-- where message 2 of the run starts
points : (c : After-prefix_place-at) → c.from-e.result * c.message2_length-size.result ≡ c.args.run * message2_length c.args.p
points c =
    ap₂ ◌*◌ c.from-e.ensures c.message2_length-size.ensures

pub overflow_mul-points : goal.overflow_mul-points
overflow_mul-points c = omega (arith, points (goal.at.overflow_mul-points c).After-prefix_place-at, messages2-most c.args.p c.requires.within c.args.run (omega (arith, c.requires.few)))

pub overflow_add-points : goal.overflow_add-points
overflow_add-points c = omega (arith, points (goal.at.overflow_add-points c).After-prefix_place-at, messages2-most c.args.p c.requires.within c.args.run (omega (arith, c.requires.few)), c.message2_length-size.ensures, c.requires.within.t-most)

pub slice_bounds-put_at-end-3 : goal.slice_bounds-put_at-end-3
slice_bounds-put_at-end-3 c = omega (arith, points (goal.at.slice_bounds-put_at-end-3 c).After-prefix_place-at, c.requires.reaches-message2, c.message2_length-size.ensures)

pub slice_bounds-put_at-end-4 : goal.slice_bounds-put_at-end-4
slice_bounds-put_at-end-4 c = sym (length-take-le 32 c.args.message1.now (omega (arith, c.requires.reaches-message1)))

pub put_at-requires-4 : goal.put_at-requires-4
put_at-requires-4 c = let l = length-take-le 32 c.args.message1.now (omega (arith, c.requires.reaches-message1)) in
    omega (arith, c.put_at-3, c.put_at-2, c.put_at, c.prefix_place-at.ensures, c.requires.room, l)

pub returns : goal.returns
returns c = let at = c.prefix_place-at.result in let e = c.from-e.result in let n = c.message2_length-size.result in
    let m2 : List ℕ = take (e * n + n - e * n) (drop (e * n) c.args.message2.now) in
    let m3 : List ℕ = take (e * 32 + 32 - e * 32) (drop (e * 32) c.args.message3.now) in
    c.put_at-5.ensures ∙ ap (λ (d : List ℕ). put_at d (at + 32) (c.args.run ∷ [])) (c.put_at-4.ensures
    ∙ ap (λ (d : List ℕ). put_at d at (take 32 c.args.message1.now)) (c.put_at-3.ensures
    ∙ ap (λ (d : List ℕ). put_at d 64 m2) (c.put_at-2.ensures ∙ ap (λ (d : List ℕ). put_at d 32 m3) c.put_at.ensures)))
    ∙ written_at c.args.p c.args.run c.args.message1.now c.args.message2.now c.args.message3.now c.args.out.now c.requires
    c.from-e.result c.message2_length-size.result at c.from-e.ensures c.message2_length-size.ensures c.prefix_place-at.ensures
