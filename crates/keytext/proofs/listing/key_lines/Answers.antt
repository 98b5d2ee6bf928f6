-- The lines one behind the other (`key-written`); each starts where the one before has ended, and all fit.
use Rattle.std.proofs.Common.{arith, length, ◌-◌, ◌∙◌, ◌≡◌}
use Rattle.keytext.specs.Listing.{vector_word}
use Rattle.keytext.specs.Listing.Laws.{key-written}
use Rattle.keytext.proofs.listing.key_lines.Goals as goal

pub locator_line-b-requires : goal.locator_line-b-requires
locator_line-b-requires c = let p = c.requires in let w = p.weighted in record {
  weighted = w;
  room = (p.q_len.0, omega (arith, c.result_line-a.ensures.value, c.result_line-a.auto.out, w.most, w.short, p.room));
}

pub interpolant_line-c-requires : goal.interpolant_line-c-requires
interpolant_line-c-requires c = let p = c.requires in
    (p.q_len.1, p.weighted.short, omega (arith, c.result_line-a, c.locator_line-b, p.weighted, p.room))

pub quotient_line-d-requires : goal.quotient_line-d-requires
quotient_line-d-requires c = let p = c.requires in let i = c.interpolant_line-c in record {
  weighted = p.weighted;
  room = (i.auto.s ∙ p.q_len.1, p.q_len.2, omega (arith, c.result_line-a, c.locator_line-b, i, p.weighted, p.room));
}

pub vanishing_line-requires : goal.vanishing_line-requires
vanishing_line-requires c = let p = c.requires in let f = p.q_len.3 in (
  omega (arith, f),
  omega (arith, f, p.weighted),
  omega (arith, f, c.result_line-a, c.locator_line-b, c.interpolant_line-c, c.quotient_line-d, p.weighted, p.room),
)

pub returns : goal.returns
unfolding vector_word
returns c = let p = c.requires in let a = c.args in
    let f = p.q_len.3 in let n : length a.f.now - 1 ≡ length a.x.now = omega (arith, f) in
    key-written a.out.now a.w a.x.now
    (omega (arith, f, c.result_line-a, c.locator_line-b, c.interpolant_line-c, c.quotient_line-d, c.vanishing_line, p.weighted, p.room))
    c.result_line-a.ensures.written c.locator_line-b.ensures.written c.interpolant_line-c.ensures.written c.quotient_line-d.ensures.written
    (rw n at c.vanishing_line.ensures.written)
