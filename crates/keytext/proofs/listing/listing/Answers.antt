-- What was scanned is the whole input, into slices of the lengths that are asked for (`finish-listing`).
use Rattle.std.proofs.Common.{List, ap, arith, length, refl, replicate, ℕ, ◌∙◌}
use Rattle.lists.specs.Part.{put_at}
use Rattle.layout.specs.Maxima.{most_matrix, longest_y}
use Rattle.text.specs.Fold.{fold}
use Rattle.keytext.specs.declared.KeyScan.{KeyScan}
use Rattle.keytext.specs.Scan.{held, step}
use Rattle.keytext.proofs.Laws.Finish.{finished, finish-listing, room}
use Rattle.keytext.proofs.listing.listing.Goals as goal

pub returns : goal.returns
returns c = let a = c.args in
    let m : List ℕ = replicate most_matrix 0 in
    let v : List ℕ = replicate longest_y 0 in
    let e = ap finished (c.feed-scan.ensures ∙ ap (λ (k : KeyScan). fold step (held k m v v) a.input.now) c.new.ensures)
    ∙ finish-listing a.input.now m v v (room most_matrix refl (omega arith)) (room longest_y refl (omega arith)) (room longest_y refl (omega arith)) in
    (c.finish.ensures.0 ∙ ap length e, c.finish.ensures.1 ∙ ap (put_at a.out.now 0) e)
