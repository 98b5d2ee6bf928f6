-- Aux is left out for leaf n−1 alone; the seed tree has at most 8 levels, so the sums fit.
use Rattle.std.proofs.Common.{Bool, arith, cond, false, sym, true, ℕ, ◌+◌, ◌∙◌, ◌≡◌}
use Rattle.layout.specs.Layout.{is_last, aux_length, siblings_length, values_length, message5_length}
use Rattle.layout.specs.Layout.Bounds.{levels-most}
use Rattle.parameters.specs.declared.Parameters.{Parameters}
use Rattle.layout.proofs.message5_length.Goals as goal

whole : (p : Parameters) (i : ℕ) (last : Bool) → is_last p i ≡ last → siblings_length p + 32 + values_length p + cond last 0 (aux_length p) ≡ message5_length p i
unfolding message5_length
whole p i last e = rw e

pub overflow_add-short : goal.overflow_add-short
overflow_add-short c = omega (arith, levels-most _ c.requires, c.siblings_length.ensures)

pub overflow_add-short-2 : goal.overflow_add-short-2
overflow_add-short-2 c =
    omega (arith, levels-most _ c.requires, c.siblings_length.ensures, c.values_length.ensures)

pub returns-then-is_last : goal.returns-then-is_last
returns-then-is_last c =
    let a = c.args in
    let e : is_last a.p a.leaf ≡ true = sym c.is_last.ensures ∙ c.if-is_last.true in
    omega (arith, whole a.p a.leaf true e, c.siblings_length.ensures, c.values_length.ensures)

pub overflow_add-result : goal.overflow_add-result
overflow_add-result c =
    omega (arith, levels-most _ c.requires, c.siblings_length.ensures, c.values_length.ensures, c.aux_length.ensures)

pub returns : goal.returns
returns c =
    let a = c.args in
    let e : is_last a.p a.leaf ≡ false = sym c.is_last.ensures ∙ c.if-is_last.false in
    omega (arith, whole a.p a.leaf false e, c.siblings_length.ensures, c.values_length.ensures, c.aux_length.ensures)
