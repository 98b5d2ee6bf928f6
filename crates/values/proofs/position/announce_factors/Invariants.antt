-- The loop's invariant: α and β of the first i shares are written, the parts of the others are as they were and one product was made for each
-- share (`factors-made`, `each_turn`, `left-turn`).
use Rattle.std.proofs.Common.{Bool, List, ℕ, ◌≡◌}
use Rattle.exchange.specs.Values.{Key, point_of, multiplier_of}
use Rattle.points.specs.Multiples.{multiples_of}
use Rattle.values.specs.Position.{Valued, Each, factors_of}
use Rattle.values.specs.Position.Laws.{Left}
use Rattle.values.proofs.position.announce_factors.Given as goal

abbrev pub invariant-loop-i : goal.invariant-loop-i
invariant-loop-i l =
    ((key : Key) (message2 : List ℕ) (first : Bool) → Valued l.p key first l.shares l.n (point_of l.p message2 l.l) l.words l.leading
    → l.table ≡ multiples_of (multiplier_of l.p message2 l.l)
    → Each l.p (factors_of l.p key message2 first l.shares l.l) l.initial.out l.out l.i) × Left l.p l.initial.out l.out l.i l.n × (l.made ≡ l.i)
