use Rattle.std.proofs.Common.{ap, arith, length, ℕ, ◌*◌, ◌+◌, ◌∙◌, ◌≡◌, ◌≤◌}
use Rattle.lists.specs.Part.{part}
use Rattle.exchange.specs.Reading.{bytes_at}
use Rattle.coefficients.specs.Shares.Laws.{share-fits, gathered_none, gathered-more, gathered-all}
use Rattle.coefficients.proofs.sidebyside.gather.Goals as goal
use Rattle.coefficients.proofs.sidebyside.gather.Goals.{After-share_length-size, In-loop-i}

-- the shares have the size that the code has, and what is read of each stands within it
sized : (c : After-share_length-size) → let a = c.args in
    (length a.shares.now ≡ a.n * c.share_length-size.result) × (a.from + length a.words.now ≤ c.share_length-size.result)
sized c =
    rw c.share_length-size.ensures (c.requires.sized-shares, c.requires.room)

inside : (c : In-loop-i) → let a = c.args in
    c.loop-i.i * c.share_length-size.result + a.from + length a.words.now ≤ length a.shares.now
inside c =
    let sized : let a = c.args in
    (length a.shares.now ≡ a.n * c.share_length-size.result) × (a.from + length a.words.now ≤ c.share_length-size.result) = rw c.share_length-size.ensures (c.requires.sized-shares, c.requires.room) in
    share-fits _ c.args.shares.now _ _ _ _ c.loop-i-test.true (sized).0 (sized).1

pub loop-i-init : goal.loop-i-init
loop-i-init c = gathered_none c.share_length-size.result c.args.shares.now c.args.from (length c.args.words.now) _ c.clear.ensures

pub overflow_mul-a : goal.overflow_mul-a
overflow_mul-a c = omega (arith, inside (goal.at.overflow_mul-a c).In-loop-i)

pub overflow_add-a : goal.overflow_add-a
overflow_add-a c = omega (arith, inside (goal.at.overflow_add-a c).In-loop-i)

pub overflow_add-a-in-loop-i : goal.overflow_add-a-in-loop-i
overflow_add-a-in-loop-i c = omega (arith, inside (goal.at.overflow_add-a-in-loop-i c).In-loop-i)

pub slice_bounds-add_share-end : goal.slice_bounds-add_share-end
slice_bounds-add_share-end c = omega (arith, inside (goal.at.slice_bounds-add_share-end c).In-loop-i)

pub loop-i-preserved : goal.loop-i-preserved
loop-i-preserved c = let a = c.args in
    gathered-more _ a.shares.now a.from _ _ _ c.loop-i-test.true (sized (goal.at.loop-i-preserved c).After-share_length-size).0 (sized (goal.at.loop-i-preserved c).After-share_length-size).1 _ _ c.loop-i.invariant
    (λ k. omega (arith, c.type_inv.shares k)) c.add_share.ensures

pub returns : goal.returns
returns c = let a = c.args in
    λ i. gathered-all c.share_length-size.result a.shares.now a.from _ c.loop-i.i a.n _ (omega arith) (sized (goal.at.returns c).After-share_length-size).0 c.loop-i.invariant i
    ∙ ap (λ (n : ℕ). bytes_at (part a.shares.now (i * n) n) a.from (length a.words.now)) c.share_length-size.ensures
