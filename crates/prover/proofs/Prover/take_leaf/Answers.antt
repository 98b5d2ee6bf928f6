-- The checks refuse and nothing changes, or they pass and message 5 is made from what the session holds.
use Rattle.std.proofs.Common.{List, ap, ap₂, arith, length, length-take-le, refl, sym, take, ℕ, ◌∙◌, ◌≡◌, ◌≤◌}
use Rattle.shake256.specs.Fips.{SHAKE256}
use Rattle.layout.specs.Runs.{messages2_length}
use Rattle.layout.specs.Runs.Laws.{messages2-most}
use Rattle.exchange.specs.Values.{key_of}
use Rattle.runs.specs.Messages.{message5}
use Rattle.messages.specs.Run.{salt_in, root_in}
use Rattle.calls.specs.Prover.{held_x, held_message2, leaf}
use Rattle.prover.specs.Carried.{held-exchanging, opened-made}
use Rattle.prover.specs.Checks.{refused-call, done-call, leaf-facts}
use Rattle.prover.specs.Facts.{Opening}
use Rattle.prover.specs.Held.{held}
use Rattle.prover.proofs.Prover.take_leaf.Goals as goal
use Rattle.prover.proofs.Prover.take_leaf.Goals.{In_ok-leaf_checks}

facts : (c : In_ok-leaf_checks) → (let a = c.args in
    Opening (held a.self.now) a.leaves.now a.matrix.now a.y.now a.work.now a.out.now)
facts c =
    let a = c.args in
    leaf-facts SHAKE256 (held a.self.now) a.work.now a.out.now (key_of a.matrix.now a.y.now) a.leaves.now _ c.leaf_checks.ensures c.in_ok-leaf_checks.was

pub returns-in_err-leaf_checks : goal.returns-in_err-leaf_checks
unfolding leaf
returns-in_err-leaf_checks c =
    let a = c.args in
    refused-call _ _ (held a.self.now) a.out.now a.work.now _ _ c.leaf_checks.ensures c.in_err-leaf_checks.was c.from_residual.ensures.1

pub messages2_length-n-requires : goal.messages2_length-n-requires
messages2_length-n-requires c = let l = (facts (goal.at.messages2_length-n-requires c).In_ok-leaf_checks).ready.limits in (l.within, l.counted.most)

-- message 2 stands at the front of its place
pub shared_ref_as_front-message2 : goal.shared_ref_as_front-message2
shared_ref_as_front-message2 c =
    let l = (facts (goal.at.shared_ref_as_front-message2 c).In_ok-leaf_checks).ready.limits in
    omega (arith, c.messages2_length-n.ensures, messages2-most c.args.self.now.parameters l.within c.args.self.now.runs l.counted.most)

pub message5-requires : goal.message5-requires
message5-requires c =
    let h = facts (goal.at.message5-requires c).In_ok-leaf_checks in
    let l = h.ready.limits in
    let x-is : length c.args.self.now.x ≡ 255 = search in
    let fits : c.messages2_length-n.result ≤ length c.args.self.now.message2 =
    omega (arith, c.messages2_length-n.ensures, messages2-most c.args.self.now.parameters l.within c.args.self.now.runs l.counted.most) in (
      held-exchanging (held c.args.self.now) x-is _ _ c.args.work.now h.leaves-are c.seeds_of-seeds.ensures.2 h.ready h.lent.work-fits,
      record {
        message2-is = length-take-le _ _ fits ∙ c.messages2_length-n.ensures ∙ ap (messages2_length c.args.self.now.parameters) (sym h.leaves-are);
        below = h.below;
        matrix-is = h.lent.matrix-is;
        out-is = h.out-is;
      },
    )

pub returns : goal.returns
unfolding leaf held_x held_message2
returns c = let a = c.args in let s = a.self.now in let key = key_of a.matrix.now a.y.now in
    let seeds = c.seeds_of-seeds.ensures in
    opened-made (held s) key a.work.now a.out.now a.leaves.now _ _ _ refl
    (c.message5.ensures.0 a.y.now
    ∙ ap₂ (λ (k j : ℕ). message5 SHAKE256 s.parameters k (held_x (held s)) (salt_in c.seeds_of-seeds.result) (root_in c.seeds_of-seeds.result)
    key (take j s.message2) a.leaves.now) (facts (goal.at.returns c).In_ok-leaf_checks).leaves-are
    c.messages2_length-n.ensures
    ∙ ap₂ (λ (b d : List ℕ). message5 SHAKE256 s.parameters s.runs (held_x (held s)) b d key (held_message2 (held s)) a.leaves.now) seeds.0 seeds.1)
    c.message5.ensures.1
    ∙ done-call _ _ (held s) a.out.now a.work.now _ c.leaf_checks.ensures c.in_ok-leaf_checks.was
