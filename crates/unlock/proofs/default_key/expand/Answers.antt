-- Title and label, absorbed one after the other, are absorbed as one (`expanded-pieces`).
use Rattle.std.proofs.Common.{ap, length, ◌∙◌}
use Rattle.shake256.specs.declared.Sponge.{Sponge}
use Rattle.shake256.specs.Stream.{absorbed, finished, squeezed}
use Rattle.unlock.specs.Expanded.{title}
use Rattle.unlock.specs.Expanded.Laws.{expanded-pieces}
use Rattle.unlock.proofs.default_key.expand.Goals as goal

pub returns : goal.returns
unfolding title
returns c =
    let at = c.args in
    let label = at.label.now in let n = length at.out.now in
    c.squeeze.ensures.0 ∙ ap (λ (z : Sponge). squeezed z n) (c.finish.ensures ∙ ap finished (c.absorb-2.ensures ∙ ap
    (λ (z : Sponge). absorbed z label) (c.absorb.ensures ∙ ap (λ (z : Sponge). absorbed z title) c.new.ensures))) ∙
    expanded-pieces label n
