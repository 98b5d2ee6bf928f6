-- The loop's invariant: the first l positions of every share are written, with as many products as they take (`to-turn`).
use Rattle.std.proofs.Common.{◌*◌, ◌≡◌}
use Rattle.exchange.specs.Values.{Key}
use Rattle.values.specs.Position.{RowsOf}
use Rattle.values.specs.Position.Laws.{EachTo}
use Rattle.values.specs.Products.{products_at}
use Rattle.values.proofs.announce_each.Given as goal

abbrev pub invariant-loop-l : goal.invariant-loop-l
invariant-loop-l l =
    ((key : Key) → RowsOf l.p key l.first l.shares l.rows l.n → EachTo l.p key l.message2 l.first l.n l.shares l.out l.l)
    × (l.made ≡ l.l * products_at l.p l.n)
