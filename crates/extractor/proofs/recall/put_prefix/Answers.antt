-- The salt, and the run byte behind it.
use Rattle.std.proofs.Common.{List, [], ap, arith, length, length-append, length-take-le, sym, take, ℕ, ◌++◌, ◌∙◌, ◌∷◌, ◌≡◌}
use Rattle.lists.specs.Part.{put_at}
use Rattle.lists.specs.Part.Laws.{put_at-put_at, put_at-whole}
use Rattle.runs.specs.Run.{run_prefix}
use Rattle.extractor.proofs.recall.put_prefix.Goals as goal
use Rattle.extractor.proofs.recall.put_prefix.Goals.{Start}

salt : (c : Start) → length (take 32 c.args.message1.now) ≡ 32
salt c =
    length-take-le 32 c.args.message1.now c.requires.reaches

pub put_at-requires : goal.put_at-requires
put_at-requires c = omega (arith, salt (goal.at.put_at-requires c).Start, c.requires.room)

pub returns : goal.returns
unfolding run_prefix
returns c = let front : List ℕ = take 32 c.args.message1.now in let byte : List ℕ = c.args.run ∷ [] in let l = length-append front byte in
    c.put_at-2.ensures ∙ ap (λ (d : List ℕ). put_at d 32 byte) c.put_at.ensures
    ∙ ap (λ (n : ℕ). put_at (put_at c.args.out.now 0 front) n byte) (sym (salt (goal.at.returns c).Start))
    ∙ put_at-put_at c.args.out.now front byte (omega (arith, salt (goal.at.returns c).Start, c.requires.room))
    ∙ put_at-whole c.args.out.now (front ++ byte) (omega (arith, salt (goal.at.returns c).Start, c.requires.room))
