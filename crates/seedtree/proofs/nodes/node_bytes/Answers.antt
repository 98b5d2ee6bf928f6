-- The two bytes are those of the definition.
use Rattle.std.proofs.Common.{ap, arith, [], ◌∷◌, ℕ, ◌/◌, ◌%◌, ◌∙◌, ◌≡◌}
use Rattle.exchange.specs.Strings.{node_bytes}
use Rattle.seedtree.proofs.nodes.node_bytes.Goals as goal

pub returns : goal.returns
unfolding node_bytes
returns c = let high : c.args.v / 256 % 256 ≡ c.args.v / 256 = omega arith in
    c.to_le_bytes.ensures ∙ ap (λ (n : ℕ). c.args.v % 256 ∷ n ∷ []) high
