-- The table becomes that of ε, by which α and β are written and ε·F(r) is made, and then that of ε·F(r), by which γ is.
use Rattle.std.proofs.Common.{ap, arith, ◌∙◌}
use Rattle.tower.specs.Field.{point}
use Rattle.tower.proofs.Field.Laws.{point-bytes_of}
use Rattle.points.specs.Multiples.{multiples_of}
use Rattle.values.specs.Position.{gamma_of}
use Rattle.values.specs.Position.Evaluated.{factor-made}
use Rattle.values.proofs.position.announce_valued.Goals as goal

pub announce_factors-factors-requires : goal.announce_factors-factors-requires
announce_factors-factors-requires c = let (f, made, room) = c.requires in
    (f, omega (arith, c.multiples_of, room))

pub announce_gammas-gammas-requires : goal.announce_gammas-gammas-requires
announce_gammas-gammas-requires c =
    let (f, made, room) = c.requires in (
      record {
        within = f.within;
        few = f.few;
        position = f.position;
        sized-shares = f.sized-shares;
        sized-words = f.sized-words;
        sized-out = omega (arith, c.announce_factors-factors, f.sized-out);
      },
      omega (arith, c.multiples_of-2, c.multiples_of, room),
    )

pub overflow_add-result : goal.overflow_add-result
overflow_add-result c = let (f, made, room) = (c).requires in
    omega (arith, c.announce_gammas-gammas.ensures.1, c.announce_factors-factors.ensures.1, c.product_by-product.ensures.1, f.few)

pub returns : goal.returns
returns c = let a = c.args in (
  λ key message2 first valued eε ef i h.
      let own = c.multiples_of.ensures ∙ ap multiples_of (ap point eε ∙ point-bytes_of _) in
      c.announce_gammas-gammas.ensures.0 key message2 first a.at.leading valued
      (c.multiples_of-2.ensures ∙ ap multiples_of
      (ap point (factor-made a.p message2 _ _ a.at.l _ ef (c.product_by-product.ensures.0 _ own)) ∙ point-bytes_of _)) i h
      ∙ ap (gamma_of a.p message2 a.shares.now a.at.l i) (c.announce_factors-factors.ensures.0 key message2 first valued own i h),
  omega (arith, c.announce_gammas-gammas.ensures.1, c.announce_factors-factors.ensures.1, c.product_by-product.ensures.1),
)
