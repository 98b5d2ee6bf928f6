-- A refusal is printed; where the checks pass, the parts that are lent have the lengths that the parameters say.
use Rattle.std.proofs.Common.{List, ap₂, arith, length, length-take-le, rules, sym, take, ℕ, ◌∙◌, ◌≡◌}
use Rattle.parameters.specs.Limits.{Within}
use Rattle.relation.specs.Key.{vector_of}
use Rattle.keytext.specs.Finish.{weighed}
use Rattle.keytext.specs.Listing.Laws.{written-whole}
use Rattle.keytext.proofs.Laws.Finish.{Read, read_done, read-within, read_held, finish-refused, finish-weighed}
use Rattle.keytext.proofs.listing.finish.Goals as goal
use Rattle.keytext.proofs.listing.finish.Goals.{After-parameters_of-p, After-y_length-rows}

abbrev Lent : List ℕ → ℕ → Type 0
Lent s n = length (take n s) ≡ n

-- the checks pass, and the parameters are within their limits
passed : (c : After-parameters_of-p) → let a = c.args in Read a.scan (length a.matrix.now) (length a.y.now) (length a.x_a.now)
passed c = read_done _ _ _ _ (sym c.read_checks.ensures ∙ c.in_default.is)

within : (c : After-parameters_of-p) → Within c.parameters_of-p.result
within c = read-within c.args.scan c.parameters_of-p.ensures (passed c)

lent : (c : After-y_length-rows) → let a = c.args in
    Lent a.matrix.now c.matrix_length-size.result × Lent a.y.now c.y_length-rows.result × Lent a.x_a.now c.parameters_of-p.result.k
lent c =
    let h = read_held c.args.scan c.parameters_of-p.ensures (read_done _ _ _ _ (sym c.read_checks.ensures ∙ c.in_default.is)) in
    (length-take-le _ _ (omega (arith, h.0, c.matrix_length-size.ensures)), length-take-le _ _ (omega (arith, h.1, c.y_length-rows.ensures)), length-take-le _ _ h.2)

pub returns-in-Err : goal.returns-in-Err
returns-in-Err c = let a = c.args in
    let e = finish-refused a.scan a.matrix.now a.y.now a.x_a.now (sym c.read_checks.ensures ∙ c.in-Err.is) in
    rw e (written-whole _ _ c.refused.ensures)

pub matrix_length-size-requires : goal.matrix_length-size-requires
matrix_length-size-requires c = within (goal.at.matrix_length-size-requires c).After-parameters_of-p

pub y_length-rows-requires : goal.y_length-rows-requires
y_length-rows-requires c = within (goal.at.y_length-rows-requires c).After-parameters_of-p

pub slice_bounds-listed-end : goal.slice_bounds-listed-end
slice_bounds-listed-end c = sym (lent (goal.at.slice_bounds-listed-end c).After-y_length-rows).0

pub slice_bounds-listed-end-2 : goal.slice_bounds-listed-end-2
slice_bounds-listed-end-2 c = sym (lent (goal.at.slice_bounds-listed-end-2 c).After-y_length-rows).1

pub slice_bounds-listed-end-3 : goal.slice_bounds-listed-end-3
slice_bounds-listed-end-3 c = sym (lent (goal.at.slice_bounds-listed-end-3 c).After-y_length-rows).2

pub listed-requires : goal.listed-requires
listed-requires c = let l = lent (goal.at.listed-requires c).After-y_length-rows in
    record { within = within (goal.at.listed-requires c).After-parameters_of-p; matrix_len = (l.0 ∙ c.matrix_length-size.ensures, l.1 ∙ c.y_length-rows.ensures, l.2, search rules) }

pub returns : goal.returns
returns c = let a = c.args in
    let p = c.parameters_of-p.result in
    rw (finish-weighed a.scan a.matrix.now a.y.now a.x_a.now c.parameters_of-p.ensures (passed (goal.at.returns c).After-parameters_of-p)
    ∙ ap₂ (λ (i j : ℕ). weighed p.w (vector_of (take i a.matrix.now) (take j a.y.now) (take p.k a.x_a.now)))
    (sym c.matrix_length-size.ensures) (sym c.y_length-rows.ensures))
    (written-whole _ _ c.listed.ensures)
