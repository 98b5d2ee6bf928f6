-- The states are compared first, then aux where the leaf is leaf n−1.
use Rattle.std.proofs.Common.{ap₂, arith, length, sym, ◌*◌, ◌+◌, ◌∙◌, ◌≡◌, ◌≤◌}
use Rattle.lists.specs.Part.Laws.{lent-part}
use Rattle.lists.specs.Equal.{eq_list}
use Rattle.extractor.specs.Comparison.{state_at}
use Rattle.extractor.specs.Comparison.Leaf.{leaf_apart, leaf_last, leaf-other}
use Rattle.extractor.proofs.opened.same_leaf.Goals as goal
use Rattle.extractor.proofs.opened.same_leaf.Goals.{After-equal, Start}

fits : (c : Start) → 32 * c.args.leaf + 32 ≤ length c.args.first.made.now
fits c =
    omega (arith, c.requires.1, c.requires.0.first)

fits-too : (c : Start) → 32 * c.args.leaf + 32 ≤ length c.args.second.made.now
fits-too c =
    omega (arith, c.requires.1, c.requires.0.second)

compared : (c : After-equal) → c.equal.result ≡ eq_list (state_at c.args.first.made.now c.args.leaf) (state_at c.args.second.made.now c.args.leaf)
compared c =
    c.equal.ensures ∙ ap₂ eq_list (lent-part _ (32 * c.args.leaf) 32) (lent-part _ (32 * c.args.leaf) 32)

pub returns-then-not-equal : goal.returns-then-not-equal
returns-then-not-equal c = leaf_apart _ _ _ _ _ _ (fits (goal.at.returns-then-not-equal c).Start) (fits-too (goal.at.returns-then-not-equal c).Start) (sym (compared (goal.at.returns-then-not-equal c).After-equal) ∙ c.if-not-equal.true)

pub returns-then-is_last : goal.returns-then-is_last
returns-then-is_last c = c.equal-then-is_last.ensures ∙ leaf_last _ _ _ _ _ _ (fits (goal.at.returns-then-is_last c).Start) (fits-too (goal.at.returns-then-is_last c).Start) (sym (compared (goal.at.returns-then-is_last c).After-equal) ∙ c.if-not-equal.false)
    (sym c.is_last.ensures ∙ c.if-is_last.true)

pub returns : goal.returns
returns c = leaf-other _ _ _ _ _ _ (fits (goal.at.returns c).Start) (fits-too (goal.at.returns c).Start) (sym (compared (goal.at.returns c).After-equal) ∙ c.if-not-equal.false)
    (sym c.is_last.ensures ∙ c.if-is_last.false)
