-- Two points are written, one after another.
use Rattle.std.proofs.Common.{List, ap, ap₂, arith, ℕ, ◌*◌, ◌+◌, ◌∙◌}
use Rattle.lists.specs.Part.{put_at}
use Rattle.tower.specs.Field.{bytes_of}
use Rattle.exchange.specs.Reading.{point_at, ◌⊞◌}
use Rattle.exchange.specs.Values.{a_of, b_of}
use Rattle.values.specs.Position.{factors_at}
use Rattle.values.proofs.term.put_factors.Goals as goal

pub returns : goal.returns
unfolding a_of b_of factors_at
returns c = let a = c.args in (
  λ ε Q S eε e_q e_s. c.put_sum.ensures S _ e_s
      (c.point_at-b.ensures ∙ ap (λ (n : ℕ). bytes_of (point_at a.s.now (n + 4 * a.l))) c.factor_length.ensures)
      ∙ ap₂ (λ (e : List ℕ) (n : ℕ). put_at e (n + 4 * a.l) (bytes_of (S ⊞ b_of a.p a.s.now a.l)))
      (c.put_term-made.ensures.0 ε Q _ eε e_q c.point_at-a.ensures) c.factor_length.ensures,
  omega (arith, c.put_term-made.ensures.1),
)
