-- The definition's test is that of `is_last`.
use Rattle.std.proofs.Common.{Bool, ap, cond, sym, ◌∙◌}
use Rattle.layout.specs.Layout.{share_length, at_x}
use Rattle.parties.specs.Drawn.{drawn_length}
use Rattle.parties.proofs.drawn.drawn_length.Goals as goal

pub returns-then-is_last : goal.returns-then-is_last
unfolding drawn_length
returns-then-is_last c = let p = c.args.p in c.at_x.ensures
    ∙ sym (ap (λ (t : Bool). cond t (at_x p) (share_length p)) (sym c.is_last.ensures ∙ c.if-is_last.true))

pub returns-else-is_last : goal.returns-else-is_last
unfolding drawn_length
returns-else-is_last c = let p = c.args.p in c.share_length.ensures
    ∙ sym (ap (λ (t : Bool). cond t (at_x p) (share_length p)) (sym c.is_last.ensures ∙ c.if-is_last.false))
