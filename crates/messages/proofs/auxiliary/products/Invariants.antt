-- The loop's invariant: the first l products are written (`write-turn`).
use Rattle.std.proofs.Common.{◌≡◌}
use Rattle.lists.specs.Part.{put_at}
use Rattle.exchange.specs.Reading.{encode}
use Rattle.messages.specs.Auxiliary.{products_of}
use Rattle.messages.proofs.auxiliary.products.Given as goal

abbrev pub invariant-loop-l : goal.invariant-loop-l
invariant-loop-l l = l.out ≡ put_at l.initial.out 0 (encode (products_of l.fn.p l.drawn) l.l)
