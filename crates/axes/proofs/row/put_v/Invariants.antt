-- The loop's invariant: the first l points of out are v at the first l positions (`write-turn`).
use Rattle.std.proofs.Common.{◌≡◌}
use Rattle.lists.specs.Part.{put_at}
use Rattle.exchange.specs.Reading.{encode}
use Rattle.axes.specs.Row.{v_at}
use Rattle.axes.proofs.row.put_v.Given as goal

abbrev pub invariant-loop-l : goal.invariant-loop-l
invariant-loop-l l = l.out ≡ put_at l.initial.out 0 (encode (v_at l.p l.first l.s l.block l.hats) l.l)
