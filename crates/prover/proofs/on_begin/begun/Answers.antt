-- Message 1 is made, and the session holds the new exchange.
use Rattle.std.proofs.Common.{refl, ap₂, take, ◌∙◌}
use Rattle.shake256.specs.Fips.{SHAKE256}
use Rattle.runs.specs.Messages.{message1}
use Rattle.prover.specs.Carried.{begun-made}
use Rattle.prover.specs.Next.{begun_held}
use Rattle.prover.proofs.on_begin.begun.Goals as goal

pub returns : goal.returns
returns c = let a = c.args in
    begun-made a.p a.runs a.x a.salt.now a.root.now a.work.now _ _ _
    (begun_held a.p a.runs a.x c.array-held_salt.ensures c.array-held_root.ensures refl)
    (c.message1.ensures.0
    ∙ ap₂ (message1 SHAKE256 a.p a.runs (take a.p.m a.x)) c.seeds_of-seeds.ensures.0 c.seeds_of-seeds.ensures.1)
    c.message1.ensures.1
