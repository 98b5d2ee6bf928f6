-- One string goes through the sponge: the start of layer 9 with no prefix, the numbers of the set, the matrix, y (`hashed-from`).
use Rattle.std.proofs.Common.{List, [], ap, ℕ, ◌++◌, ◌∙◌}
use Rattle.parameters.specs.Set.{numbers_of}
use Rattle.key_digest.specs.KeyDigest.{string9, key_digest}
use Rattle.strings.specs.Digest.{hashed}
use Rattle.strings.specs.Digest.Laws.{hashed-from}
use Rattle.key_digest.proofs.key_digest.Goals as goal

pub returns : goal.returns
unfolding key_digest string9
returns c =
    let a = c.args in let key = a.matrix.now ++ a.y.now in
    c.hash.ensures
    ∙ ap (λ (ns : List ℕ). hashed c.begin-start.result (ns ++ key) 32) c.bytes_of-numbers.ensures
    ∙ hashed-from 9 [] (numbers_of a.p ++ key) 32 c.begin-start.result c.begin-start.ensures
