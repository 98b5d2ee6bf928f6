-- What is wanted, and then the rest of what was drawn added. The work area has room for the 255 entries of a longest x.
use Rattle.std.proofs.Common.{ap, ap₂, drop, ℕ, ◌∙◌}
use Rattle.lists.specs.Sum.{xor_list}
use Rattle.lists.specs.Part.Laws.{tail-part}
use Rattle.messages.specs.Auxiliary.{aux_for}
use Rattle.messages.proofs.auxiliary.aux.Goals as goal

pub returns : goal.returns
unfolding aux_for
returns c = c.xor_into.ensures ∙ ap₂ xor_list c.wanted.ensures.0
    (tail-part c.args.drawn.now c.at_x-a.result ∙ ap (λ (n : ℕ). drop n c.args.drawn.now) c.at_x-a.ensures)
