-- A point whose upper bytes are zero needs the first table alone; any other needs all four, and then they are there.
-- where the upper bytes add up to a number, they are not all zero
use Rattle.std.proofs.Common.{arith, ⊎_elim}
use Rattle.points.specs.Multiples.{Lower}
use Rattle.points.specs.Multiples.Laws.{short-product}
use Rattle.points.proofs.by_table.Goals as goal
use Rattle.points.proofs.by_table.Goals.{Then-wide-ne0}

upper : (c : Then-wide-ne0) → Lower c.args.a → ⊥
upper c l =
    let (a, b, d) = l in omega arith

pub whole_product-requires : goal.whole_product-requires
whole_product-requires c = ⊎_elim (λ h. h) (λ l. absurd (upper (goal.at.whole_product-requires c).Then-wide-ne0 l)) c.requires.1

pub returns-then-wide-ne0 : goal.returns-then-wide-ne0
returns-then-wide-ne0 c =
    λ b m. c.whole_product.ensures b (⊎_elim (λ q. absurd (upper (goal.at.returns-then-wide-ne0 c).Then-wide-ne0 q.0)) (λ e. e) m)

pub returns : goal.returns
returns c =
    λ b m. short-product c.args.a b c.args.table.now _ c.read_at.ensures (omega arith, omega arith, omega arith) m
