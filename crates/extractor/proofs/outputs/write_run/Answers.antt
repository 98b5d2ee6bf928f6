-- Where the hidden leaves agree nothing is written; otherwise every state and aux.
use Rattle.std.proofs.Common.{eq-eqb, sym, ◌∙◌}
use Rattle.lists.specs.Part.Laws.{tail-part}
use Rattle.layout.specs.Maxima.{most_opened}
use Rattle.extractor.specs.Opened.Laws.{openings-given}
use Rattle.extractor.specs.Outputs.{part_from}
use Rattle.extractor.specs.Outputs.Laws.{part-written}
use Rattle.extractor.specs.Run.Laws.{front-long, gives-front, gives-back}
use Rattle.extractor.proofs.outputs.write_run.Goals as goal

pub returns-then-first-second : goal.returns-then-first-second
unfolding part_from
returns-then-first-second c = rw (eq-eqb _ _ c.if-first-second.true)

pub slice_bounds-opened_at-end : goal.slice_bounds-opened_at-end
slice_bounds-opened_at-end c = sym (front-long c.args.openings.now c.requires.held)

pub opened_at-one-requires : goal.opened_at-one-requires
opened_at-one-requires c = gives-front c.args.pair _ _ _ c.requires.within c.requires.first c.requires.held

pub opened_at-two-requires : goal.opened_at-two-requires
opened_at-two-requires c = rw (tail-part c.args.openings.now most_opened) (gives-back c.args.pair _ _ _ c.requires.within c.requires.second c.requires.held)

pub write_output-requires : goal.write_output-requires
write_output-requires c = let a = c.args in
    let e = rw (tail-part a.openings.now most_opened) at c.opened_at-two.ensures in
    record {
      openings = openings-given a.pair.p a.pair.first a.pair.second a.first5.now a.second5.now _ _
          (gives-front a.pair _ _ _ c.requires.within c.requires.first c.requires.held) (gives-back a.pair _ _ _ c.requires.within c.requires.second c.requires.held)
          c.opened_at-one.result c.opened_at-two.result c.opened_at-one.ensures e c.if-first-second.false;
      room = c.requires.room;
    }

pub returns : goal.returns
returns c = let a = c.args in
    let e = rw (tail-part a.openings.now most_opened) at c.opened_at-two.ensures in
    c.write_output.ensures
    ∙ part-written a.pair a.first5.now a.second5.now a.openings.now a.out.now c.requires.within c.opened_at-one.result c.opened_at-two.result
    c.opened_at-one.ensures e c.if-first-second.false
