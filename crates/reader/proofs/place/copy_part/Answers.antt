-- The bytes that are lent are those that are taken (`part-lesser`).
use Rattle.std.proofs.Common.{ap, length, ℕ, ◌+◌, ◌∙◌}
use Rattle.lists.specs.Part.{put_at}
use Rattle.reader.specs.Taken.{taken}
use Rattle.reader.proofs.Laws.Taken.{part-lesser, behind-lesser}
use Rattle.reader.proofs.place.copy_part.Goals as goal

pub returns : goal.returns
unfolding taken
returns c =
    let args = c.args in
    let m = args.message.now in
    let out = args.out.now in
    let e = ap (λ (n : ℕ). args.at + n) c.min.ensures in (
      behind-lesser m args.at out (args.at + c.min.result) e,
      c.put_at.ensures ∙ ap (put_at out 0) (part-lesser m args.at (length out) (args.at + c.min.result) e),
    )
