-- The number and the row are the string's pieces behind the start of layer 6.
use Rattle.std.proofs.Common.{[], length, ◌+◌, ◌∙◌, ◌∷◌}
use Rattle.strings.specs.Digest.Laws.{hashed-no-tail, hashed-from}
use Rattle.axes.proofs.digests.row_digest.Goals as goal

pub returns : goal.returns
returns c =
    λ prefix e. let a = c.args in let n = length a.out.now in c.hash.ensures
    ∙ hashed-no-tail a.axes ((a.axis + 1) ∷ []) a.row.now n ∙ hashed-from 6 prefix ((a.axis + 1) ∷ a.row.now) n a.axes e
