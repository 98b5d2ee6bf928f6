-- The seeds are made in the second half of `states`, and from them all states.
use Rattle.std.proofs.Common.{List, ap, ap₂, arith, drop, length, length-drop, length-take, length-take-le, rules, take, ℕ, ◌*◌, ◌-◌, ◌^◌, ◌∙◌, ◌≡◌}
use Rattle.lists.specs.Part.Laws.{tail-part}
use Rattle.shake256.specs.Fips.{SHAKE256}
use Rattle.layout.specs.Layout.{leaves}
use Rattle.layout.specs.Layout.Bounds.{levels-most, leaves-most}
use Rattle.exchange.specs.Tree.{leaf_seeds}
use Rattle.seedtree.specs.Laid.{laid}
use Rattle.leaves.specs.States.{states_of}
use Rattle.leaves.specs.States.Seeds.{half_back}
use Rattle.messages.specs.Own.{own_states}
use Rattle.messages.proofs.own_leaves.own_states.Goals as goal

pub leaf_seeds-requires : goal.leaf_seeds-requires
leaf_seeds-requires c = let n : 2 ^ c.levels-d.result ≡ leaves c.args.p = ap (◌^◌ 2) c.levels-d.ensures in
    record {
      levels = omega (arith, c.levels-d.ensures, levels-most c.args.p c.requires.within);
      seed = length-take-le 16 c.args.run.now c.requires.run_fits;
      size = simp (length-take, length-drop) (omega arith);
    }

pub leaf_states-requires : goal.leaf_states-requires
leaf_states-requires c = let most = leaves-most c.args.p c.requires.within in search rules

pub returns : goal.returns
unfolding own_states
returns c = let run = c.args.run.now in
    let n = leaves c.args.p in
    c.leaf_states.ensures
    ∙ ap₂ (λ (seeds : List ℕ) (k : ℕ). states_of (take (length run - 16) (drop 16 run)) seeds k k)
    (half_back c.args.states.now _ (16 * c.leaf_count-n.result) (omega arith) ∙ c.leaf_seeds.ensures) c.leaf_count-n.ensures
    ∙ ap₂ (λ (q : List ℕ) (k : ℕ). states_of q (laid (leaf_seeds SHAKE256 q k 1 (take 16 run))) n n) (tail-part run 16) c.levels-d.ensures
