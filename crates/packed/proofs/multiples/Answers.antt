-- The seven doublings are the multiples by 2, 4, .. 128, and their sums the multiples by every half of a byte (`multiples-sums`).
use Rattle.lists.specs.Xor.{◌⊕◌}
use Rattle.packed.specs.Table.Laws.{multiples-sums}
use Rattle.packed.proofs.multiples.Goals as goal

pub returns : goal.returns
unfolding ◌⊕◌
returns c =
    multiples-sums _ _ _ _ _ _ _ _ c.ranges.v.fits c.doubled-v2.ensures c.doubled-v4.ensures c.doubled-v8.ensures
    c.doubled-v16.ensures c.doubled-v32.ensures c.doubled-v64.ensures c.doubled-v128.ensures
