-- The three tests are those of the definition.
use Rattle.std.proofs.Common.{arith, sym, ◌∙◌}
use Rattle.parameters.specs.Limits.Laws.{test-within}
use Rattle.bench_c.specs.Counted.Laws.{counted-many, counted-unnamed, counted-outside, counted-within}
use Rattle.bench_c.proofs.products.evaluation_c_products.Goals as goal

pub returns-then-n-gt9 : goal.returns-then-n-gt9
returns-then-n-gt9 c = counted-many _ _ (omega arith)

pub returns-then-set-ne-LENGTH : goal.returns-then-set-ne-LENGTH
returns-then-set-ne-LENGTH c = counted-unnamed _ _ (omega arith) c.if-set-ne-LENGTH.true

pub count-requires : goal.count-requires
count-requires c = (test-within _ (sym c.within_limits.ensures ∙ c.if-within_limits.true), omega arith)

pub returns-then-within_limits : goal.returns-then-within_limits
returns-then-within_limits c =
    counted-within _ _ (omega arith) c.if-set-ne-LENGTH.false _ c.parameters_of-p.ensures _ (sym c.within_limits.ensures ∙ c.if-within_limits.true) c.count.ensures

pub returns : goal.returns
returns c =
    counted-outside _ _ (omega arith) c.if-set-ne-LENGTH.false _ c.parameters_of-p.ensures (sym c.within_limits.ensures ∙ c.if-within_limits.false)
