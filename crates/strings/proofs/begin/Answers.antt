-- The layer byte and the prefix, absorbed one after the other, are absorbed as one (`begun-pieces`).
use Rattle.std.proofs.Common.{[], ap, ◌∙◌, ◌∷◌}
use Rattle.shake256.specs.declared.Sponge.{Sponge}
use Rattle.shake256.specs.Stream.{absorbed}
use Rattle.strings.specs.Digest.Laws.{begun-pieces}
use Rattle.strings.proofs.begin.Goals as goal

pub returns : goal.returns
returns c =
    let layer = c.args.layer in
    let prefix = c.args.prefix.now in
    c.absorb-2.ensures
    ∙ ap (λ (z : Sponge). absorbed z prefix) (c.absorb.ensures ∙ ap (λ (z : Sponge). absorbed z (layer ∷ [])) c.new.ensures)
    ∙ begun-pieces layer prefix
