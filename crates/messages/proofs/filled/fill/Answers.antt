-- All states, the sums of all leaves as hashed, and aux in the sum of all (`fill-made`); the arrays have room for 256 states and the longest aux.
use Rattle.std.proofs.Common.{replicate, sym, ◌∙◌}
use Rattle.layout.specs.Maxima.{most_states}
use Rattle.lists.specs.Part.Laws.{tail-part}
use Rattle.points.specs.Written.{front_length}
use Rattle.messages.proofs.Laws.Fronts.{Rooms, rooms, Front, front-back}
use Rattle.messages.proofs.Laws.Response.{fill-made}
use Rattle.messages.specs.Run.{run_in, root-length}
use Rattle.messages.proofs.filled.fill.Goals as goal
use Rattle.messages.proofs.filled.fill.Goals.{After-aux_length-length, After-own_states}

room : (c : After-aux_length-length) → Rooms c.args.p c.states_length-size.result c.aux_length-length.result
room c =
    rooms c.requires.within c.states_length-size.ensures c.aux_length-length.ensures

back : (c : After-own_states) → Front c.states_length-size.result c.own_states.new.states (replicate most_states 0)
back c =
    let room : Rooms c.args.p c.states_length-size.result c.aux_length-length.result = rooms c.requires.within c.states_length-size.ensures c.aux_length-length.ensures in
    front-back _ _ _ c.own_states.auto.states (room).states

pub slice_bounds-states-end : goal.slice_bounds-states-end
slice_bounds-states-end c = (room (goal.at.slice_bounds-states-end c).After-aux_length-length).states

pub slice_bounds-own_states-end : goal.slice_bounds-own_states-end
slice_bounds-own_states-end c = front_length _ _ (room (goal.at.slice_bounds-own_states-end c).After-aux_length-length).states

pub own_states-requires : goal.own_states-requires
own_states-requires c = record {
  within = c.requires.within;
  run_fits = c.requires.run_fits;
  states-are = (room (goal.at.own_states-requires c).After-aux_length-length).states-are;
}

pub slice_bounds-states-end-2 : goal.slice_bounds-states-end-2
slice_bounds-states-end-2 c = (back (goal.at.slice_bounds-states-end-2 c).After-own_states).there

pub slice_bounds-party_sums-end-2 : goal.slice_bounds-party_sums-end-2
slice_bounds-party_sums-end-2 c = (back (goal.at.slice_bounds-party_sums-end-2 c).After-own_states).lent

pub party_sums-requires : goal.party_sums-requires
party_sums-requires c = record { within = c.requires.within; room = c.requires.sums-are; states = sym (back (goal.at.party_sums-requires c).After-own_states).lent ∙ c.states_length-size.ensures }

pub returns : goal.returns
returns c = let h = c.requires in let a = c.args in
    fill-made a.p a.x.now (run_in a.run.now) (root-length a.run.now h.run_fits) _ _ _ _ _ _
    (tail-part a.run.now 16) ((back (goal.at.returns c).After-own_states).again ∙ c.own_states.ensures) c.leaf_count-n.ensures c.party_sums.ensures
    c.add_aux.ensures.0 (c.add_aux.auto.aux ∙ (room (goal.at.returns c).After-aux_length-length).aux-is) c.add_aux.ensures.1
