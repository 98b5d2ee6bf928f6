-- The leaf's own state is written between those of all other leaves (`way-states`).
use Rattle.std.proofs.Common.{[], ap, arith, length, length-take-le, sym, ℕ, ◌*◌, ◌<◌, ◌^◌, ◌∙◌}
use mathlib.Core.Path.{subst⁻¹}
use Rattle.lists.specs.Part.Laws.{length-lent, tail-part}
use Rattle.layout.specs.Layout.Bounds.{levels-most, leaves-most}
use Rattle.seedtree.proofs.Lent.{part-back}
use Rattle.leaves.specs.After.Laws.{length-bytes_after, state-begun}
use Rattle.messages.proofs.Laws.HiddenLeaf.{way-states}
use Rattle.messages.specs.Run.{run_in, root-length}
use Rattle.messages.proofs.hidden_leaf.way_states.Goals as goal
use Rattle.messages.proofs.hidden_leaf.way_states.Goals.{Start}

-- the leaf's number is one byte
small : (c : Start) → c.args.leaf < 256
small c =
    omega (arith, c.requires.is_leaf, leaves-most c.args.p c.requires.within)

pub sibling_seeds-seed-requires : goal.sibling_seeds-seed-requires
sibling_seeds-seed-requires c = record {
  levels = omega (arith, c.levels-d.ensures, levels-most c.args.p c.requires.within);
  is_leaf = subst⁻¹ (λ (n : ℕ). c.args.leaf < 2 ^ n) c.levels-d.ensures c.requires.is_leaf;
  seed = length-take-le 16 c.args.run.now c.requires.run_fits;
  size = c.requires.siblings-are ∙ ap (λ (n : ℕ). 16 * n) (sym c.levels-d.ensures);
}

pub leaf_state-requires : goal.leaf_state-requires
leaf_state-requires c = record { number = small (goal.at.leaf_state-requires c).Start; room = length-lent (32 * c.args.leaf) 32 _ (omega (arith, c.opened_states, c.requires.is_leaf, c.requires.states-are)) }

pub returns : goal.returns
returns c = let a = c.args in
    way-states a.p [] (run_in a.run.now) a.leaf c.requires.is_leaf (root-length a.run.now c.requires.run_fits) _ _ _ _ _ _ _
    (tail-part a.run.now 16) c.levels-d.ensures c.sibling_seeds-seed.ensures.siblings c.sibling_seeds-seed.ensures.own
    c.opened_states.ensures (c.leaf_state.ensures ∙ state-begun _ _ a.leaf _ c.begin-start.ensures)
    (part-back _ _ (32 * a.leaf) 32 (ap length c.leaf_state.ensures ∙ length-bytes_after _ a.leaf _ 32))
