-- A write of as many bytes as out has leaves nothing of out (`put_at-whole`).
use Rattle.std.proofs.Common.{◌∙◌}
use Rattle.lists.specs.Part.Laws.{put_at-whole}
use Rattle.lists.proofs.copy.Goals as goal

pub returns : goal.returns
returns c =
    c.put_at.ensures ∙ put_at-whole c.args.out.now c.args.s.now c.requires
