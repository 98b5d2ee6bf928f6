-- It is below the number of the sums, of which there are at most 9.
use Rattle.std.proofs.Common.{arith, eq-eqb, ne_eqb, refl, ◌*◌, ◌+◌, ◌<◌, ◌≡◌, ◌≤◌}
use Rattle.layout.specs.Layout.{sum_index}
use Rattle.layout.specs.Layout.Laws.{index-lt}
use Rattle.layout.specs.Layout.Bounds.{sums-most}
use Rattle.layout.proofs.sum_index.Goals as goal
use Rattle.layout.proofs.sum_index.Goals.{Else-party-eq0}

bound : (c : Else-party-eq0) → c.args.party * c.args.p.axes + c.args.axis + 1 ≤ 9
bound c =
    let small : sum_index c.args.p c.args.axis c.args.party < 9 = omega (arith, index-lt c.args.p _ _ c.requires.1 c.requires.2, sums-most _ c.requires.0) in
    let e = small in let f = rw (ne_eqb c.args.party 0 c.if-party-eq0.false) at e in omega (arith, f)

pub returns-then-party-eq0 : goal.returns-then-party-eq0
returns-then-party-eq0 c = let e : c.args.party ≡ 0 = c.if-party-eq0.true in rw (eq-eqb _ _ e, e) (omega arith)

pub overflow_mul-result : goal.overflow_mul-result
overflow_mul-result c = omega (arith, bound (goal.at.overflow_mul-result c).Else-party-eq0)

pub overflow_add-result : goal.overflow_add-result
overflow_add-result c = omega (arith, bound (goal.at.overflow_add-result c).Else-party-eq0)

pub overflow_add-result-2 : goal.overflow_add-result-2
overflow_add-result-2 c = omega (arith, bound (goal.at.overflow_add-result-2 c).Else-party-eq0)

pub returns : goal.returns
returns c = rw (ne_eqb c.args.party 0 c.if-party-eq0.false) refl
