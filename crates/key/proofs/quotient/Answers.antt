-- P is the polynomial through the values of x at the points of E, each over its distances from the others (`quotient-made`).
use Rattle.std.proofs.Common.{arith, length, refl, sym, ℕ, ◌∙◌}
use Rattle.lists.specs.Zeroed.Laws.{zeroed-all}
use Rattle.polynomial.specs.Bytes.Laws.{bytes-from}
use Rattle.key.specs.Loops.Quotient.{length-entries, split-apart, quotient-made}
use Rattle.key.proofs.quotient.Goals as goal

pub gather-requires : goal.gather-requires
gather-requires c = let f = c.requires.0 in
    (f.light, refl, c.requires.3 ∙ sym (length-entries c.args.w c.args.x.now f.light f.fits))

pub through_ratios-requires : goal.through_ratios-requires
through_ratios-requires c =
    let f = c.requires.0 in (
      c.gather.auto.out ∙ c.requires.3,
      omega (arith, f.fits, c.requires.2, c.split.auto.out),
      omega (arith, f.short, c.requires.2, c.split.auto.out),
      split-apart c.args.w c.args.x.now f.light f.fits c.split.new.out c.split.ensures,
    )

pub returns : goal.returns
returns c = let a = c.args in let f = c.requires.0 in
    let n : ℕ = length a.x.now in (
      quotient-made a.w a.x.now f.light f.fits c.split.new.out c.gather.new.out _ c.requires.1 f.short
          (bytes-from a.x.now (λ j. omega (arith, c.shared_slice_known-1.given j))) c.split.ensures c.gather.ensures c.through_ratios.ensures,
      c.zero_front.ensures ∙ zeroed-all c.split.new.out n (c.split.auto.out ∙ c.requires.2) ∙ sym (zeroed-all a.work.now n c.requires.2),
    )
