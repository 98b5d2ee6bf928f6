-- A shift of 1 by d places is 2^d, which fits.
use Rattle.std.proofs.Common.{ap, arith, one-mul, shl_exact, ℕ, ◌^◌, ◌∙◌}
use Rattle.seedtree.specs.declared.nodes.Way.{Way}
use Rattle.seedtree.specs.Way.{root_way}
use Rattle.seedtree.proofs.nodes.root_way.Goals as goal

at : ℕ → ℕ → Way
at leaf size = record { node = 1; leaf = leaf; size = size }

pub returns : goal.returns
unfolding root_way at
returns c = ap (at c.args.leaf) (shl_exact 1 c.args.d 64 (omega arith) (omega arith) ∙ one-mul (2 ^ c.args.d))
