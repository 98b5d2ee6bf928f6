-- Bytes side by side are the number that they write (`word-front`).
use Rattle.std.proofs.Common.{◌∙◌}
use Rattle.shake256.proofs.Lanes.{word-front}
use Rattle.shake256.proofs.bytes.word.Goals as goal

pub returns : goal.returns
returns c = c.from_le_bytes.ensures ∙ word-front c.args.s.now (λ k. (c.type_inv.s k).fits) c.requires
