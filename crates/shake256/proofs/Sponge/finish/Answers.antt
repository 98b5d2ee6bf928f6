-- The sponge is ready; the two bytes of the padding then go in as `xor_byte` promises.
use Rattle.std.proofs.Common.{List, ap, ℕ, ◌∙◌, ◌-◌}
use Rattle.fips.specs.Parameters.{rate, domain, final}
use Rattle.shake256.specs.Bytes.{xor_at}
use Rattle.shake256.specs.declared.Sponge.{Sponge}
use Rattle.shake256.specs.Stream.{finished}
use Rattle.shake256.proofs.Sponges.{mk}
use Rattle.shake256.proofs.Sponge.finish.Goals as goal

pub returns : goal.returns
unfolding finished
returns c =
    (λ t. mk (c.xor_byte-2.ensures t) rate) ∙ ap (λ (l : List ℕ). mk (xor_at l (rate - 1) final) rate)
    (c.xor_byte.ensures ∙ ap (λ (z : Sponge). xor_at z.lanes z.at domain) c.make_ready.ensures)
