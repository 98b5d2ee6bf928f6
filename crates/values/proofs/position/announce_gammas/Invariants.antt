-- The loop's invariant: γ of the first i shares is written, the parts of the others are as they were and one product was made for each
-- share (`gamma-made`, `each_turn`, `left-turn`).
use Rattle.std.proofs.Common.{Bool, List, ℕ, ◌≡◌}
use Rattle.exchange.specs.Reading.{value, ◌⊠◌}
use Rattle.exchange.specs.Values.{Key, F, point_of, multiplier_of}
use Rattle.points.specs.Multiples.{multiples_of}
use Rattle.values.specs.Position.{Valued, Each, gamma_of}
use Rattle.values.specs.Position.Laws.{Left}
use Rattle.values.proofs.position.announce_gammas.Given as goal

abbrev pub invariant-loop-i : goal.invariant-loop-i
invariant-loop-i l =
    ((key : Key) (message2 : List ℕ) (first : Bool) (leading : ℕ) → Valued l.p key first l.shares l.n (point_of l.p message2 l.l) l.words leading
    → l.table ≡ multiples_of (multiplier_of l.p message2 l.l ⊠ value (F l.p) (point_of l.p message2 l.l))
    → Each l.p (gamma_of l.p message2 l.shares l.l) l.initial.out l.out l.i) × Left l.p l.initial.out l.out l.i l.n × (l.made ≡ l.i)
