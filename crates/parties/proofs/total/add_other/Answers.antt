-- The hidden leaf changes nothing; any other's share is added.
use Rattle.std.proofs.Common.{Bool, ap, cond, eq-eqb, ne_eqb, sym, ◌∙◌}
use Rattle.lists.specs.Sum.{xor_list}
use Rattle.parties.specs.Drawn.{drawn_share}
use Rattle.parties.proofs.total.add_other.Goals as goal

pub returns-then-leaf-hidden_leaf : goal.returns-then-leaf-hidden_leaf
returns-then-leaf-hidden_leaf c =
    λ prefix b. let args = c.args in let d = args.sum.now in
    sym (ap (λ (t : Bool). cond t d (xor_list d (drawn_share args.p prefix args.states.now args.leaf)))
    (eq-eqb args.leaf args.hidden_leaf c.if-leaf-hidden_leaf.true))

pub returns : goal.returns
returns c =
    λ prefix b. let args = c.args in let d = args.sum.now in (c.add_drawn.ensures prefix b).1
    ∙ sym (ap (λ (t : Bool). cond t d (xor_list d (drawn_share args.p prefix args.states.now args.leaf)))
    (ne_eqb args.leaf args.hidden_leaf c.if-leaf-hidden_leaf.false))
