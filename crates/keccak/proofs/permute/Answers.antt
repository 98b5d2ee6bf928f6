use Rattle.std.proofs.Common.{add-one, ap, arith, get_or, refl, ℕ, ◌∙◌, ◌≡◌}
use Rattle.fips.specs.Tables.{round_constants}
use Rattle.fips.specs.Permutation.{round, rounds, keccak_f}
use Rattle.keccak.proofs.permute.Goals as goal

pub loop-c-init : goal.loop-c-init
unfolding rounds
loop-c-init c = refl

pub loop-c-preserved : goal.loop-c-preserved
unfolding rounds
loop-c-preserved c = let k = c.loop-c.c-index in
    rw add-one (c.round-next.ensures ∙ ap (round (get_or round_constants k 0)) c.loop-c.invariant)

pub returns : goal.returns
unfolding keccak_f
returns c = let k-is : c.loop-c.c-index ≡ 24 = omega arith in c.loop-c.invariant ∙ ap (λ (n : ℕ). rounds n c.args.a) k-is
