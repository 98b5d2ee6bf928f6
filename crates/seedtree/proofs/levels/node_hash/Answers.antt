-- The number and the seed are the string's pieces behind its start.
use Rattle.std.proofs.Common.{List, [], ap, length, ℕ, ◌++◌, ◌∙◌}
use Rattle.exchange.specs.Strings.{node_bytes}
use Rattle.strings.specs.Digest.{hashed}
use Rattle.strings.specs.Digest.Laws.{hashed-no-tail}
use Rattle.seedtree.proofs.levels.node_hash.Goals as goal

pub returns : goal.returns
returns c = let seed = c.args.seed.now in let n = length c.args.out.now in
    c.hash.ensures ∙ ap (λ (l : List ℕ). hashed c.args.nodes (l ++ (seed ++ [])) n) c.node_bytes-number.ensures
    ∙ hashed-no-tail c.args.nodes (node_bytes c.args.v) seed n
