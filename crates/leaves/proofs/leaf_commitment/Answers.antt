-- The leaf's string, hashed on from the sponge given, gives the bytes; leaf n−1's ends with aux.
use Rattle.std.proofs.Common.{Bool, [], ap₂, cond, sym, ◌++◌, ◌∙◌}
use Rattle.leaves.specs.After.{bytes_after, commitment_after}
use Rattle.leaves.proofs.leaf_commitment.Goals as goal

pub returns-then-is_last : goal.returns-then-is_last
unfolding commitment_after
returns-then-is_last c = let a = c.args in
    c.leaf_hash.ensures
    ∙ ap₂ (λ (t : Bool). bytes_after a.commitments a.leaf (a.state.now ++ cond t a.aux.now []))
    (sym (sym c.is_last.ensures ∙ c.if-is_last.true)) c.requires.room

pub returns : goal.returns
unfolding commitment_after
returns c = let a = c.args in
    c.leaf_hash-2.ensures
    ∙ ap₂ (λ (t : Bool). bytes_after a.commitments a.leaf (a.state.now ++ cond t a.aux.now []))
    (sym (sym c.is_last.ensures ∙ c.if-is_last.false)) c.requires.room
