-- Behind the siblings comes what the leaf gives, and aux behind that.
-- the code's lengths: siblings, and what the leaf gives behind them
use Rattle.std.proofs.Common.{List, [], ap, ap₂, arith, cond, length, sym, take, ℕ, ◌++◌, ◌+◌, ◌∙◌, ◌≤◌}
use Rattle.layout.specs.Layout.{is_last, aux_length}
use Rattle.layout.specs.Layout.Bounds.{levels-most}
use Rattle.messages.specs.Opening.{opening_of}
use Rattle.messages.proofs.Laws.Opening.{opening-length, left-middle, pieces-made}
use Rattle.messages.proofs.opening.put_opening.Goals as goal
use Rattle.messages.proofs.opening.put_opening.Goals.{After-values_length}

fits : (c : After-values_length) → (let a = c.siblings_length-a.result in let v = c.values_length.result in
    a + (32 + v) ≤ length c.args.out.now)
fits c =
    omega (arith, c.siblings_length-a.ensures, c.values_length.ensures, c.requires.out-is, opening-length c.args.p c.args.leaf)

pub overflow_add-e-2 : goal.overflow_add-e-2
overflow_add-e-2 c = omega (arith, c.values_length.ensures, c.siblings_length-a.ensures, levels-most c.args.p c.requires.of.within, c.requires.of.within.t-most)

pub slice_bounds-put_leaf-end : goal.slice_bounds-put_leaf-end
slice_bounds-put_leaf-end c = fits (goal.at.slice_bounds-put_leaf-end c).After-values_length

pub put_aux-requires : goal.put_aux-requires
put_aux-requires c = let p = c.args.p in let tail : ℕ = cond (is_last p c.args.leaf) 0 (aux_length p) in (
  c.requires.of.within,
  left-middle c.siblings_length-a.result (32 + c.values_length.result) c.args.out.now c.put_leaf.new.out
      (fits (goal.at.put_aux-requires c).After-values_length) c.put_leaf.auto.out
      ∙ c.requires.out-is ∙ opening-length p c.args.leaf
      ∙ ap₂ (λ (n m : ℕ). n + (32 + m) + tail) (sym c.siblings_length-a.ensures) (sym c.values_length.ensures)
      ∙ ap (λ (k : ℕ). c.siblings_length-a.result + (32 + c.values_length.result) + cond (is_last p c.args.leaf) 0 k)
      (sym c.requires.aux-is),
)

pub returns : goal.returns
unfolding opening_of
returns c = let a = c.args in let rest : List ℕ = cond (is_last a.p a.leaf) [] a.aux.now in
    pieces-made c.siblings_length-a.result (32 + c.values_length.result) a.out.now c.put_leaf.new.out
    (fits (goal.at.returns c).After-values_length) c.put_leaf.auto.out rest _ c.put_aux.ensures
    ∙ ap₂ (λ (n : ℕ) (z : List ℕ). take n a.out.now ++ (z ++ rest)) c.siblings_length-a.ensures c.put_leaf.ensures
