-- Each number is its byte (`parameters-read`).
use Rattle.std.proofs.Common.{◌∙◌}
use Rattle.stored.specs.Parameters.{parameters-read}
use Rattle.stored.proofs.parts.read_parameters.Goals as goal

pub returns : goal.returns
returns c = rw (c.from.ensures, c.from-2.ensures, c.from-3.ensures, c.from-4.ensures, c.from-5.ensures) at c.parameters_of.ensures ∙ parameters-read _
