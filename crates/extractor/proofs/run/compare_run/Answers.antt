-- Where the hidden leaves agree nothing is compared; otherwise what the openings in the halves gave is.
use Rattle.std.proofs.Common.{eq-eqb, ne_eqb, sym}
use Rattle.lists.specs.Part.Laws.{tail-part}
use Rattle.layout.specs.Maxima.{most_opened}
use Rattle.openings.specs.Statement.Laws.{prefix-lent}
use Rattle.extractor.specs.Opened.Laws.{openings-given}
use Rattle.extractor.specs.Run.{difference_in}
use Rattle.extractor.specs.Run.Laws.{front-long, gives-front, gives-back}
use Rattle.extractor.proofs.run.compare_run.Goals as goal

pub returns-then-first-second : goal.returns-then-first-second
unfolding difference_in
returns-then-first-second c = rw (eq-eqb _ _ c.if-first-second.true)

pub slice_bounds-opened_at-end : goal.slice_bounds-opened_at-end
slice_bounds-opened_at-end c = sym (front-long c.args.openings.now c.requires.room)

pub opened_at-one-requires : goal.opened_at-one-requires
opened_at-one-requires c = gives-front c.args.pair _ _ _ c.requires.within c.requires.first c.requires.room

pub opened_at-two-requires : goal.opened_at-two-requires
opened_at-two-requires c = rw (tail-part c.args.openings.now most_opened) (gives-back c.args.pair _ _ _ c.requires.within c.requires.second c.requires.room)

pub compare-requires : goal.compare-requires
compare-requires c = let a = c.args in
    let e = rw (tail-part a.openings.now most_opened) at c.opened_at-two.ensures in
    openings-given a.pair.p a.pair.first a.pair.second a.first5.now a.second5.now _ _
    (gives-front a.pair _ _ _ c.requires.within c.requires.first c.requires.room) (gives-back a.pair _ _ _ c.requires.within c.requires.second c.requires.room)
    c.opened_at-one.result c.opened_at-two.result c.opened_at-one.ensures e c.if-first-second.false

pub returns : goal.returns
unfolding difference_in
returns c = let a = c.args in
    let e = rw (tail-part a.openings.now most_opened) at c.opened_at-two.ensures in
    rw (ne_eqb _ _ c.if-first-second.false, ← prefix-lent a.pair.p a.statement.now c.prefix_place-at.ensures, ← c.opened_at-one.ensures, ← e) c.compare.ensures
