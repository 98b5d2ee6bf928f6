use Rattle.std.proofs.Common.{List, ap, arith, refl, ℕ, ◌*◌, ◌+◌, ◌∙◌, ◌≡◌}
use Rattle.shake256.specs.Fips.{SHAKE256}
use Rattle.lists.specs.Part.{put_at}
use Rattle.exchange.specs.Leaf.{state}
use Rattle.leaves.specs.After.Laws.{state-begun}
use Rattle.leaves.specs.States.{seed_at, unless_hidden}
use Rattle.leaves.specs.States.Written.{written, written_none, written-more, written_all}
use Rattle.leaves.proofs.states.leaf_states.Goals as goal

pub loop-i-init : goal.loop-i-init
loop-i-init c = (refl, written_none c.args.prefix.now c.args.states.now c.args.hidden_leaf c.args.n)

pub loop-i-preserved : goal.loop-i-preserved
loop-i-preserved c = let prefix = c.args.prefix.now in
    let n = c.args.n in let hidden = c.args.hidden_leaf in
    let i = c.loop-i.i in (
      omega arith,
      c.put_state.ensures
          ∙ ap (put_at _ (32 * i)) (ap (unless_hidden hidden i) (state-begun _ prefix i _ c.begin-start.ensures))
          ∙ ap (λ (w : List ℕ). put_at w (32 * i) (unless_hidden hidden i (state SHAKE256 prefix i (seed_at w (n + i))))) c.loop-i.invariant.1
          ∙ written-more prefix c.args.states.now hidden n c.requires.room i (omega arith),
    )

pub returns : goal.returns
returns c = let last : c.loop-i.i ≡ c.args.n = omega arith in let states = c.args.states.now in
    let hidden = c.args.hidden_leaf in
    c.loop-i.invariant.1 ∙ ap (written c.args.prefix.now states hidden c.args.n) last
    ∙ written_all c.args.prefix.now states hidden c.args.n c.requires.room
