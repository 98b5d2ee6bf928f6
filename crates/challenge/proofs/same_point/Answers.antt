-- Two parts of four bytes are compared: they are the bytes of the points.
use Rattle.std.proofs.Common.{List, ap, ap₂, drop, length, mul_comm, sym, take, ℕ, ◌*◌, ◌+◌, ◌-◌, ◌∙◌, ◌≡◌, ◌≤◌}
use Rattle.lists.specs.Equal.{eq_list}
use Rattle.lists.specs.Part.Laws.{lent-part}
use Rattle.exchange.specs.Reading.{bytes_at}
use Rattle.exchange.proofs.Reading.Laws.{bytes_at-part}
use Rattle.runs.specs.Points.{point_bytes}
use Rattle.challenge.proofs.same_point.Goals as goal

bytes_of : (m2 : List ℕ) (l : ℕ) → l * 4 + 4 ≤ length m2 → take (l * 4 + 4 - l * 4) (drop (l * 4) m2) ≡ point_bytes m2 l
bytes_of m2 l h = lent-part m2 (l * 4) 4 ∙ sym (bytes_at-part m2 (l * 4) 4 h) ∙ ap (λ (i : ℕ). bytes_at m2 i 4) (mul_comm l 4)

pub returns : goal.returns
returns c = c.equal.ensures ∙ ap₂ eq_list (bytes_of c.args.message2.now c.args.i c.requires.0) (bytes_of c.args.message2.now c.args.l c.requires.1)
