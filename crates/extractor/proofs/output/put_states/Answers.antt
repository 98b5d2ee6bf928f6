-- Two writes, each within the output.
use Rattle.std.proofs.Common.{List, ap, ap₂, arith, length, length-take-le, take, ℕ, ◌*◌, ◌∙◌, ◌≡◌}
use Rattle.lists.specs.Part.{put_at}
use Rattle.lists.specs.Part.Laws.{lent-part}
use Rattle.layout.specs.Layout.{states_length}
use Rattle.extractor.proofs.output.put_states.Goals as goal
use Rattle.extractor.proofs.output.put_states.Goals.{Start}

front : (c : Start) → (n : ℕ) → n ≡ states_length c.args.p → length (take n c.args.first.made.now) ≡ n
front c n e =
    length-take-le _ _ (omega (arith, c.requires.both.first))

pub returns : goal.returns
returns c = let a = c.args in
    c.put_at-2.ensures ∙ ap₂ (λ (d t : List ℕ). put_at d (32 * a.first.hidden) t)
    (c.put_at.ensures ∙ ap (λ (n : ℕ). put_at a.out.now 0 (take n a.first.made.now)) c.states_length-all.ensures)
    (lent-part a.second.made.now (32 * a.first.hidden) 32)
