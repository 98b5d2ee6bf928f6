-- For leaf n−1 nothing is left to write; for any other aux fills the rest.
use Rattle.std.proofs.Common.{sym, ◌∙◌}
use Rattle.layout.specs.Layout.{is_last}
use Rattle.messages.proofs.Laws.Opening.{aux-put}
use Rattle.messages.proofs.opening.put_aux.Goals as goal

pub returns : goal.returns
returns c = let a = c.args in
    aux-put (is_last a.p a.leaf) a.at a.aux.now a.out.now c.requires.1 _ (sym c.is_last.ensures ∙ c.if-is_last.false)
    c.put_at.ensures
