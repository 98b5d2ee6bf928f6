-- One point is written.
use Rattle.std.proofs.Common.{ap, arith, ℕ, ◌*◌, ◌+◌, ◌∙◌}
use Rattle.lists.specs.Part.{put_at}
use Rattle.tower.specs.Field.{bytes_of}
use Rattle.exchange.specs.Reading.{point_at, ◌⊞◌, ◌⊠◌}
use Rattle.exchange.specs.Values.{c_of}
use Rattle.values.proofs.term.put_gamma.Goals as goal

pub returns : goal.returns
unfolding c_of
returns c = let a = c.args in (
  λ φ P eφ e_p. c.put_term.ensures.0 φ P _ eφ e_p
      (c.point_at-c.ensures ∙ ap (λ (n : ℕ). bytes_of (point_at a.s.now (n + 4 * a.l))) c.at_c.ensures)
      ∙ ap (λ (n : ℕ). put_at a.out.now (n + 4 * a.l) (bytes_of (φ ⊠ P ⊞ c_of a.p a.s.now a.l))) c.values_length.ensures,
  omega (arith, c.put_term.ensures.1),
)
