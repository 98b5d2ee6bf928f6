-- The sibling seeds start the run's part of message 5 (`siblings-lent`).
use Rattle.std.proofs.Common.{ap, arith, length, length-take-le, take, ℕ, ◌+◌, ◌∙◌, ◌≡◌, ◌≤◌}
use Rattle.layout.specs.Layout.{siblings_length, states_length}
use Rattle.layout.specs.Layout.Bounds.{message5-most}
use Rattle.leaves.specs.States.{states_from}
use Rattle.openings.specs.Parts.Laws.{put-states}
use Rattle.extractor.specs.Pairs.{aux-before}
use Rattle.extractor.specs.Recall.{recalled}
use Rattle.extractor.specs.Recall.Laws.{siblings-lent}
use Rattle.extractor.proofs.recall.recall_states.Goals as goal
use Rattle.extractor.proofs.recall.recall_states.Goals.{Start}

fits : (c : Start) → (n : ℕ) → n ≡ siblings_length c.args.p → c.args.place.start + n ≤ length c.args.message5.now
fits c n e =
    omega (arith, aux-before c.args.p c.args.place c.args.message5.now c.requires.lies, c.requires.lies.inside)

room : (c : Start) → (n : ℕ) → n ≡ states_length c.args.p → length (take n c.args.opened.now) ≡ n
room c n e =
    length-take-le n c.args.opened.now (omega (arith, c.requires.room))

pub overflow_add-at : goal.overflow_add-at
overflow_add-at c = omega (
  arith,
  c.siblings_length-seeds.ensures,
  c.requires.lies.near,
  c.requires.lies.long,
  message5-most c.args.p c.requires.within c.args.place.leaf,
  aux-before c.args.p c.args.place c.args.message5.now c.requires.lies,
)

pub slice_bounds-opened_states-end : goal.slice_bounds-opened_states-end
slice_bounds-opened_states-end c = fits (goal.at.slice_bounds-opened_states-end c).Start _ c.siblings_length-seeds.ensures

pub returns : goal.returns
unfolding recalled
returns c = let a = c.args in
    put-states a.p a.opened.now c.opened_states.new.states (omega (arith, c.opened_states, room (goal.at.returns c).Start _ c.states_length-states.ensures, c.states_length-states.ensures)) c.states_length-states.result
    ∙ c.opened_states.ensures
    ∙ ap (states_from a.p a.prefix.now a.place.leaf) (siblings-lent a.p a.place a.message5.now c.requires.lies c.siblings_length-seeds.ensures)
