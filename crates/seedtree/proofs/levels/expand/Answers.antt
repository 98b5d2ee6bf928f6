-- The seed is read before the children's part is lent to be filled, and that part comes back as a write.
use Rattle.std.proofs.Common.{ap, ap₂, arith, length, ◌++◌, ◌∙◌, ◌≡◌}
use Rattle.lists.specs.Part.{part, put_at}
use Rattle.exchange.specs.Strings.{node_bytes}
use Rattle.strings.specs.Digest.{hashed}
use Rattle.strings.specs.Digest.Laws.{length-hashed}
use Rattle.lists.specs.Part.Laws.{lent-part, length-lent}
use Rattle.seedtree.proofs.Lent.{part-back}
use Rattle.seedtree.proofs.Children.{hashed-children}
use Rattle.seedtree.proofs.levels.expand.Goals as goal

pub array-seed-requires : goal.array-seed-requires
array-seed-requires c = (omega arith, length-lent c.args.from 16 c.args.seeds.now c.requires.seed)

pub returns : goal.returns
returns c =
    λ prefix b. let args = c.args in let w = args.seeds.now in let string = node_bytes args.v ++ part w args.from 16 in
    let is : c.node_hash.new.out ≡ hashed args.nodes string 32 = c.node_hash.ensures
    ∙ ap₂ (λ l. hashed args.nodes (node_bytes args.v ++ l)) (c.array-seed.ensures ∙ lent-part w args.from 16)
    (length-lent args.to 32 w c.requires.room) in
    part-back w _ args.to 32 (ap length is ∙ length-hashed args.nodes string 32)
    ∙ ap (put_at w args.to) (is ∙ hashed-children args.nodes prefix args.v (part w args.from 16) b)
