-- Each number is at most 255, so the byte is the number.
use Rattle.std.proofs.Common.{List, [], ap, arith, get_or, ℕ, ◌∷◌}
use Rattle.key_digest.proofs.bytes_of.Goals as goal

pub returns : goal.returns
returns c = ap (λ (l : List ℕ). get_or l 0 0 ∷ get_or l 1 0 ∷ get_or l 2 0 ∷ get_or l 3 0 ∷ get_or l 4 0 ∷ []) c.numbers_of-n.ensures
