use Rattle.std.proofs.Common.{arith, get_or, sym, ℕ, ◌≡◌}
use Rattle.lists.specs.Xor.Laws.{⊕-apart}
use Rattle.algebra.specs.Each.Laws.{each_at}
use Rattle.key.specs.Loops.Quotient.{distances-start, distances-turn, distances-end}
use Rattle.key.proofs.log_distances.Goals as goal

pub loop-g-init : goal.loop-g-init
loop-g-init c = (omega arith, distances-start _ _)

pub log_of-s-requires : goal.log_of-s-requires
log_of-s-requires c =
    let i = c.loop-g.g-index in let g : ℕ = get_or c.args.gs.now i 0 in
    let apart : (g ≡ c.args.f → ⊥) = each_at (λ g. g ≡ c.args.f → ⊥) 0 c.args.gs.now c.requires.1 i (omega arith) in
    omega (arith, c.sum.ensures, ⊕-apart c.args.f g (λ e. apart (sym e)))

pub loop-g-preserved : goal.loop-g-preserved
loop-g-preserved c = (
  omega (arith, c.log_of-s.ensures.0),
  distances-turn c.args.f c.args.gs.now c.loop-g.g-index c.loop-g.s _ _ _ (omega arith) c.sum.ensures c.log_of-s.ensures.1 c.loop-g.invariant.1,
)

pub returns : goal.returns
returns c = distances-end c.args.f c.args.gs.now c.loop-g.g-index c.loop-g.s _ (omega arith) c.loop-g.invariant.1
