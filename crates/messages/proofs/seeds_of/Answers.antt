-- The salt is written first, the root behind it.
use Rattle.std.proofs.Common.{arith, rules}
use Rattle.messages.specs.Run.{seeds-made}
use Rattle.messages.proofs.seeds_of.Goals as goal

pub returns : goal.returns
returns c = let made = seeds-made _ _ _ c.args.salt.now c.args.root.now c.requires.0 (omega arith) c.put_at.ensures c.put_at-2.ensures in
    (made.0, made.1, search rules)
