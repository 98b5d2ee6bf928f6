-- Three pieces go in (`absorbed-pieces`), then the padding, and the sponge is squeezed: that is the definition.
use Rattle.std.proofs.Common.{ap, length, ◌∙◌}
use Rattle.shake256.specs.declared.Sponge.{Sponge}
use Rattle.shake256.specs.Stream.{absorbed, finished, squeezed}
use Rattle.strings.specs.Digest.{hashed}
use Rattle.strings.specs.Digest.Laws.{absorbed-pieces}
use Rattle.strings.proofs.hash.Goals as goal

pub returns : goal.returns
unfolding hashed
returns c =
    let n = length c.args.out.now in
    c.squeeze.ensures.0
    ∙ ap (λ (z : Sponge). squeezed z n)
    (c.finish.ensures
    ∙ ap finished
    (c.absorb-3.ensures
    ∙ ap (λ (z : Sponge). absorbed z c.args.tail.now)
    (c.absorb-2.ensures ∙ ap (λ (z : Sponge). absorbed z c.args.body.now) c.absorb.ensures)
    ∙ absorbed-pieces c.args.start c.args.number.now c.args.body.now c.args.tail.now))
