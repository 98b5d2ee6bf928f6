-- The seeds are made in the second half of `states`, and from them the states.
use Rattle.std.proofs.Common.{List, ap, ap₂, arith, length-drop, length-take, rules, ℕ, ◌*◌, ◌^◌, ◌∙◌, ◌≡◌}
use Rattle.shake256.specs.Fips.{SHAKE256}
use Rattle.layout.specs.Layout.{leaves}
use Rattle.layout.specs.Layout.Bounds.{leaves-most, levels-most}
use Rattle.exchange.specs.Tree.{opened_seeds}
use Rattle.seedtree.specs.Laid.{laid}
use Rattle.leaves.specs.States.{states_of, states_from}
use Rattle.leaves.specs.States.Seeds.{half_back}
use Rattle.leaves.proofs.states.opened_states.Goals as goal

pub opened_seeds-requires : goal.opened_seeds-requires
opened_seeds-requires c = let e = c.levels.ensures in
    let n : 2 ^ c.levels.result ≡ leaves c.args.p = ap (λ (n : ℕ). 2 ^ n) e in let most = levels-most c.args.p c.requires.within in
    record { levels = omega arith; is_leaf = omega arith; siblings = omega arith; size = simp (length-take, length-drop) (omega arith) }

pub leaf_states-requires : goal.leaf_states-requires
leaf_states-requires c = let most = leaves-most c.args.p c.requires.within in search rules

pub returns : goal.returns
unfolding states_from
returns c = let args = c.args in
    c.leaf_states.ensures ∙ ap₂ (λ (seeds : List ℕ). states_of args.prefix.now seeds args.hidden_leaf)
    (half_back args.states.now _ (16 * c.leaf_count-n.result) (omega arith) ∙ c.opened_seeds.ensures ∙ ap
    (λ (d : ℕ). laid (opened_seeds SHAKE256 args.prefix.now d 1 args.hidden_leaf args.siblings.now)) c.levels.ensures)
    c.leaf_count-n.ensures
