-- Each byte is its number.
use Rattle.std.proofs.Common.{List, [], ap, arith, get_or, ℕ, ◌∷◌}
use Rattle.stored.proofs.parts.head.Goals as goal

pub overflow_cast-result : goal.overflow_cast-result
overflow_cast-result c = let (m, small) = c.requires in omega (arith, ap (λ (l : List ℕ). get_or l 0 0) c.numbers_of-n.ensures)

pub overflow_cast-result-2 : goal.overflow_cast-result-2
overflow_cast-result-2 c = let (m, (k, small)) = c.requires in omega (arith, ap (λ (l : List ℕ). get_or l 1 0) c.numbers_of-n.ensures)

pub overflow_cast-result-3 : goal.overflow_cast-result-3
overflow_cast-result-3 c = let (m, (k, (w, small))) = c.requires in omega (arith, ap (λ (l : List ℕ). get_or l 2 0) c.numbers_of-n.ensures)

pub overflow_cast-result-4 : goal.overflow_cast-result-4
overflow_cast-result-4 c = let (m, (k, (w, (d, small)))) = c.requires in omega (arith, ap (λ (l : List ℕ). get_or l 3 0) c.numbers_of-n.ensures)

pub overflow_cast-result-5 : goal.overflow_cast-result-5
overflow_cast-result-5 c = let (m, (k, (w, (d, (t, small))))) = c.requires in omega (arith, ap (λ (l : List ℕ). get_or l 4 0) c.numbers_of-n.ensures)

pub returns : goal.returns
returns c = let phase = c.args.phase in
    ap (λ (l : List ℕ). phase ∷ get_or l 0 0 ∷ get_or l 1 0 ∷ get_or l 2 0 ∷ get_or l 3 0 ∷ get_or l 4 0 ∷ c.args.runs ∷ []) c.numbers_of-n.ensures
