-- A refusal leaves the session; past the checks the leaves have room in their place, and the session after it is the definition's.
use Rattle.std.proofs.Common.{arith, length, sym, ◌∙◌, ◌≡◌}
use Rattle.calls.specs.Verifier.{leaf, chosen}
use Rattle.verifier.specs.Laws.{refused-call, done-call, leaf-passed}
use Rattle.verifier.proofs.Verifier.take_leaf.Goals as goal

pub returns-in_err-leaf_checks : goal.returns-in_err-leaf_checks
unfolding leaf
returns-in_err-leaf_checks c = refused-call _ _ _ _ c.leaf_checks.ensures _ c.in_err-leaf_checks.was c.from_residual.ensures.1

pub put_at-requires : goal.put_at-requires
put_at-requires c =
    let room = leaf-passed _ _ (sym c.leaf_checks.ensures ∙ c.in_ok-leaf_checks.was) in
    let l : length c.args.self.now.leaves ≡ 32 = search in omega (arith, room, l)

pub returns : goal.returns
unfolding leaf chosen
returns c = rw c.put_at.ensures (done-call _ _ _ _ c.leaf_checks.ensures c.in_ok-leaf_checks.was)
