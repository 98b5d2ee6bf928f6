-- The sums with the constants are evaluated first, and then the others, where there are some (`from_front`, `from_back`).
use Rattle.std.proofs.Common.{Bool, List, add-zero, ap, ap₂, arith, cond, drop, eq-eqb, false, length, length-drop, ne_eqb, subst, sym, take, true, ℕ, ◌*◌, ◌++◌, ◌+◌, ◌-◌, ◌<◌, ◌∙◌, ◌≡◌, ◌≤◌}
use Rattle.lists.specs.Part.Laws.{tail-part}
use Rattle.parameters.specs.declared.Parameters.{Parameters}
use Rattle.parameters.specs.Limits.{Within}
use Rattle.layout.specs.Layout.{row_length}
use Rattle.exchange.specs.Values.{key_of}
use Rattle.points.specs.Written.{halves-room, halves-made}
use Rattle.coefficients.specs.Shares.{share_of}
use Rattle.values.specs.Announced.{announced_of}
use Rattle.values.specs.Shares.{block_of, Announcements}
use Rattle.values.specs.Products.{products_of, products-few}
use Rattle.axes.specs.Axes.{Evaluated, rest_count}
use Rattle.axes.proofs.Laws.Evaluated.{few-first, Parted, parted, from_front, from_back}
use Rattle.axes.proofs.total.evaluate.Goals as goal
use Rattle.axes.proofs.total.evaluate.Goals.{After-evaluate_some-made, After-row_length, After-sum_count}

few-products : (p : Parameters) (n : ℕ) → Within p → n ≤ 9 → products_of p n ≤ 8 * 13036
few-products p n w h = products-few p n p.t w (omega arith) w.t-most

rest-is : (c : After-sum_count) → c.sum_count.result - (c.args.p.axes + 1) ≡ rest_count c.args.p
rest-is c = ap (λ (k : ℕ). k - (c.args.p.axes + 1)) c.sum_count.ensures

places : (c : After-row_length) → Parted c.args.p c.args.sums.now c.args.blocks.now c.share_length.result c.row_length.result
places c = let f = c.requires in parted _ _ _ _ _ f.within c.share_length.ensures c.row_length.ensures f.sized-parts f.sized-blocks

pub overflow_sub-rest : goal.overflow_sub-rest
overflow_sub-rest c = omega (arith, few-first c.args.p)

pub slice_bounds-evaluate_some-end : goal.slice_bounds-evaluate_some-end
slice_bounds-evaluate_some-end c = let q = places (goal.at.slice_bounds-evaluate_some-end c).After-row_length in omega arith

pub slice_bounds-evaluate_some-end-2 : goal.slice_bounds-evaluate_some-end-2
slice_bounds-evaluate_some-end-2 c = let q = places (goal.at.slice_bounds-evaluate_some-end-2 c).After-row_length in omega arith

pub slice_bounds-evaluate_some-end-3 : goal.slice_bounds-evaluate_some-end-3
slice_bounds-evaluate_some-end-3 c = let q = places (goal.at.slice_bounds-evaluate_some-end-3 c).After-row_length in omega arith

pub evaluate_some-made-requires : goal.evaluate_some-made-requires
evaluate_some-made-requires c = let f = c.requires in let q = places (goal.at.evaluate_some-made-requires c).After-row_length in
    record {
      within = f.within;
      few = q.few;
      sized-parts = q.front-sums;
      sized-m2 = f.sized-m2;
      sized-matrix = f.sized-matrix;
      sized-y = f.sized-y;
      sized-blocks = q.front-blocks ∙ q.blocks-end;
    }

-- what the first batch left
made-first : (c : After-evaluate_some-made) → (q : Parted c.args.p c.args.sums.now c.args.blocks.now c.share_length.result c.row_length.result)
    → length c.evaluate_some-made.new.blocks ≡ (c.args.p.axes + 1) * c.row_length.result
made-first c q = c.evaluate_some-made.auto.blocks ∙ q.front-blocks

-- what it announces, whatever stands behind it
firsts : (c : After-evaluate_some-made) → (q : Parted c.args.p c.args.sums.now c.args.blocks.now c.share_length.result c.row_length.result) → (v : List ℕ)
    → let a = c.args in (i : ℕ) → i < a.p.axes + 1
    → block_of a.p (c.evaluate_some-made.new.blocks ++ v) i ≡ announced_of a.p (key_of a.matrix.now a.y.now) a.message2.now true (share_of a.p a.sums.now i)
firsts c q v = let a = c.args in let key = key_of a.matrix.now a.y.now in let u = c.evaluate_some-made.new.blocks in let n = a.p.axes + 1 in
    from_front a.p key a.message2.now true a.sums.now n u (made-first c q ∙ q.blocks-end) v
    (subst (λ (z : ℕ). Announcements a.p key a.message2.now true (take z a.sums.now) n u) q.sums-end c.evaluate_some-made.ensures.0)

pub returns-then-rest-eq0 : goal.returns-then-rest-eq0
returns-then-rest-eq0 c = let a = c.args in let at = goal.at.returns-then-rest-eq0 c in
    let z : rest_count a.p ≡ 0 = sym (rest-is at.After-sum_count) ∙ c.if-rest-eq0.true in (
      record { firsts = firsts at.After-evaluate_some-made (places at.After-row_length) _; rest = λ i l h. absurd (omega (arith, few-first a.p)) },
      c.evaluate_some-made.ensures.1
          ∙ sym (ap (λ (b : Bool). products_of a.p (a.p.axes + 1) + cond b 0 (products_of a.p (rest_count a.p))) (eq-eqb (rest_count a.p) 0 z) ∙ add-zero _),
    )

pub evaluate_some-requires : goal.evaluate_some-requires
evaluate_some-requires c = let f = c.requires in let a = c.args in let n = a.p.axes + 1 in
    let at = goal.at.evaluate_some-requires c in let q = places at.After-row_length in
    record {
      within = f.within;
      few = q.rest-few;
      sized-parts = ap length (tail-part a.sums.now (n * c.share_length.result)) ∙ length-drop (n * c.share_length.result) a.sums.now ∙ omega arith;
      sized-m2 = f.sized-m2;
      sized-matrix = f.sized-matrix;
      sized-y = f.sized-y;
      sized-blocks = halves-room a.blocks.now c.evaluate_some-made.new.blocks _ (made-first at.After-evaluate_some-made q) (rest_count a.p * row_length a.p) (omega arith);
    }

pub overflow_add-result : goal.overflow_add-result
overflow_add-result c = let p = c.args.p in let q = places (goal.at.overflow_add-result c).After-row_length in omega (
  arith,
  c.evaluate_some-made.ensures.1,
  c.evaluate_some.ensures.1,
  few-products p (p.axes + 1) c.requires.within q.few,
  few-products p (rest_count p) c.requires.within q.rest-few,
)

pub returns : goal.returns
returns c = let a = c.args in let n = a.p.axes + 1 in let key = key_of a.matrix.now a.y.now in
    let u = c.evaluate_some-made.new.blocks in let v = c.evaluate_some.new.blocks in
    let at = goal.at.returns c in let q = places at.After-row_length in let made = made-first at.After-evaluate_some-made q in
    let some : rest_count a.p ≡ 0 → ⊥ = λ z. c.if-rest-eq0.false (rest-is at.After-sum_count ∙ z) in
    let behind = subst (λ (d : List ℕ). Announcements a.p key a.message2.now false d (rest_count a.p) v)
    (tail-part a.sums.now (n * c.share_length.result) ∙ ap (λ (z : ℕ). drop z a.sums.now) q.sums-end) c.evaluate_some.ensures.0 in (
      subst (Evaluated a.p key a.message2.now a.sums.now)
          (sym (halves-made a.blocks.now u (n * c.row_length.result) made v (omega arith)))
          (record {
            firsts = firsts at.After-evaluate_some-made q v;
            rest = λ i l h. from_back a.p key a.message2.now false a.sums.now n u (made ∙ q.blocks-end) (rest_count a.p) v (omega arith) behind i l (omega arith);
          }),
      ap₂ ◌+◌ c.evaluate_some-made.ensures.1 c.evaluate_some.ensures.1
          ∙ sym (ap (λ (b : Bool). products_of a.p n + cond b 0 (products_of a.p (rest_count a.p))) (ne_eqb (rest_count a.p) 0 some)),
    )
