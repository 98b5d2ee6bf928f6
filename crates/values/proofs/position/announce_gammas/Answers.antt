use Rattle.std.proofs.Common.{ap, ap₂, arith, drop, length, refl, take, ℕ, ◌*◌, ◌+◌, ◌-◌, ◌∙◌, ◌≡◌, ◌≤◌}
use Rattle.lists.specs.Part.{part}
use Rattle.layout.specs.Layout.{share_length, row_length}
use Rattle.points.specs.Blocks.{within-blocks, length-block}
use Rattle.values.specs.Position.{gamma_of}
use Rattle.values.specs.Position.Laws.{left-turn, each_turn}
use Rattle.values.specs.Terms.{gamma-made}
use Rattle.values.proofs.position.announce_gammas.Goals as goal
use Rattle.values.proofs.position.announce_gammas.Goals.{In-loop-i}

-- share and part i lie within the slices
inside : (c : In-loop-i) → (c.loop-i.i * c.share_length-size.result + c.share_length-size.result ≤ length c.args.shares.now)
    × (c.loop-i.i * c.row_length-room.result + c.row_length-room.result ≤ length c.loop-i.out)
inside c =
    let f = c.requires.0 in let i = c.loop-i.i in
    let es = ap (λ (k : ℕ). i * k) c.share_length-size.ensures in
    let er = ap (λ (k : ℕ). i * k) c.row_length-room.ensures in
    let a = within-blocks i c.args.n _ _ _ c.loop-i-test.true es f.sized-shares in
    let b = within-blocks i c.args.n _ _ _ c.loop-i-test.true er (c.loop-i.auto.out ∙ f.sized-out) in
    (omega (arith, c.share_length-size.ensures), omega (arith, c.row_length-room.ensures))

pub loop-i-init : goal.loop-i-init
loop-i-init c = ((λ key message2 first leading v t j l. absurd (omega arith)), (λ j a b. refl), omega arith)

pub overflow_mul-share : goal.overflow_mul-share
overflow_mul-share c = omega (arith, (inside (goal.at.overflow_mul-share c).In-loop-i).0)

pub overflow_mul-row : goal.overflow_mul-row
overflow_mul-row c = omega (arith, (inside (goal.at.overflow_mul-row c).In-loop-i).1)

pub slice_bounds-put_gamma-end : goal.slice_bounds-put_gamma-end
slice_bounds-put_gamma-end c = omega (arith, (inside (goal.at.slice_bounds-put_gamma-end c).In-loop-i).0)

pub slice_bounds-put_gamma-end-in-loop-i : goal.slice_bounds-put_gamma-end-in-loop-i
slice_bounds-put_gamma-end-in-loop-i c = omega (arith, (inside (goal.at.slice_bounds-put_gamma-end-in-loop-i c).In-loop-i).1)

pub loop-i-preserved : goal.loop-i-preserved
unfolding part
loop-i-preserved c =
    let a = c.args in let f = c.requires.0 in let g = c.loop-i in let h = inside (goal.at.loop-i-preserved c).In-loop-i in let u = c.put_gamma-made.new.out in
    let n : length g.out ≡ a.n * row_length a.p = g.auto.out ∙ f.sized-out in let size = c.share_length-size.result in
    let room = c.row_length-room.result in let es : size ≡ share_length a.p = c.share_length-size.ensures in
    let er : room ≡ row_length a.p = c.row_length-room.ensures in
    let eu : length u ≡ row_length a.p = c.put_gamma-made.auto.out ∙ length-block (g.i * room) room g.out h.1 ∙ er in
    let share : g.i * size ≡ g.i * share_length a.p = ap (λ (k : ℕ). g.i * k) es in
    let row : g.i * room ≡ g.i * row_length a.p = ap (λ (k : ℕ). g.i * k) er in
    let k : g.i * size + size - g.i * size ≡ share_length a.p = omega arith in (
      λ key message2 first leading v t. each_turn a.p a.out.now g.out u _ a.n g.i (g.i * room) room er c.loop-i-test.true n
          row eu refl (gamma_of a.p message2 a.shares.now a.l)
          (gamma-made a.p key message2 first a.shares.now a.l g.i _ _ _
          (ap₂ (λ (m m' : ℕ). take m (drop m' a.shares.now)) k share)
          (c.put_gamma-made.ensures.0 _ _ t (v.quotients g.i c.loop-i-test.true)))
          g.invariant.1 (g.invariant.0 key message2 first leading v t),
      left-turn a.p a.out.now g.out u _ a.n g.i (g.i * room) room er c.loop-i-test.true n row eu refl g.invariant.1,
      omega (arith, c.put_gamma-made.ensures.1, g.invariant.2),
    )

pub returns : goal.returns
returns c = let e : c.loop-i.i ≡ c.args.n = omega arith in
    (λ key message2 first leading v t j l. c.loop-i.invariant.0 key message2 first leading v t j (omega arith), omega arith)
