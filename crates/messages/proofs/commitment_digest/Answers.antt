-- All states and aux, in arrays that have room for 256 states and the longest aux, and from them h.
use Rattle.std.proofs.Common.{replicate, sym, take, ◌∙◌}
use Rattle.layout.specs.Maxima.{most_states, longest_aux}
use Rattle.lists.specs.Part.Laws.{tail-part}
use Rattle.points.specs.Written.{front_length}
use Rattle.messages.proofs.Laws.Commitment.{commitment-made}
use Rattle.messages.proofs.Laws.Fronts.{Rooms, rooms, Front, front-back}
use Rattle.messages.specs.Run.{run_in, root-length}
use Rattle.messages.proofs.commitment_digest.Goals as goal
use Rattle.messages.proofs.commitment_digest.Goals.{After-aux_length-length, After-own_leaves}

room : (c : After-aux_length-length) → Rooms c.args.p c.states_length-size.result c.aux_length-length.result
room c =
    rooms c.requires.0.within c.states_length-size.ensures c.aux_length-length.ensures

states-back : (c : After-own_leaves) → Front c.states_length-size.result c.own_leaves.new.states (replicate most_states 0)
states-back c =
    let room : Rooms c.args.p c.states_length-size.result c.aux_length-length.result = rooms c.requires.0.within c.states_length-size.ensures c.aux_length-length.ensures in
    front-back _ _ _ c.own_leaves.auto.states (room).states

aux-back : (c : After-own_leaves) → Front c.aux_length-length.result c.own_leaves.new.aux (replicate longest_aux 0)
aux-back c =
    let room : Rooms c.args.p c.states_length-size.result c.aux_length-length.result = rooms c.requires.0.within c.states_length-size.ensures c.aux_length-length.ensures in
    front-back _ _ _ c.own_leaves.auto.aux (room).aux

pub slice_bounds-states-end : goal.slice_bounds-states-end
slice_bounds-states-end c = (room (goal.at.slice_bounds-states-end c).After-aux_length-length).states

pub slice_bounds-own_leaves-end : goal.slice_bounds-own_leaves-end
slice_bounds-own_leaves-end c = front_length _ _ (room (goal.at.slice_bounds-own_leaves-end c).After-aux_length-length).states

pub own_leaves-requires : goal.own_leaves-requires
own_leaves-requires c = (c.requires.0, (room (goal.at.own_leaves-requires c).After-aux_length-length).states-are, (room (goal.at.own_leaves-requires c).After-aux_length-length).aux-is)

pub slice_bounds-states-end-2 : goal.slice_bounds-states-end-2
slice_bounds-states-end-2 c = (states-back (goal.at.slice_bounds-states-end-2 c).After-own_leaves).there

pub slice_bounds-digest_commitments-end-2 : goal.slice_bounds-digest_commitments-end-2
slice_bounds-digest_commitments-end-2 c = (states-back (goal.at.slice_bounds-digest_commitments-end-2 c).After-own_leaves).lent

pub digest_commitments-requires : goal.digest_commitments-requires
digest_commitments-requires c = record { within = c.requires.0.within; states = sym (states-back (goal.at.digest_commitments-requires c).After-own_leaves).lent ∙ c.states_length-size.ensures }

pub returns : goal.returns
returns c = let a = c.args in let made = c.own_leaves.ensures in (
  c.digest_commitments.ensures
      ∙ commitment-made a.p (take a.p.m a.x.now) (run_in a.run.now) (root-length a.run.now c.requires.0.run_fits) _ _ _ _ _
      (tail-part a.run.now 16) ((states-back (goal.at.returns c).After-own_leaves).again ∙ made.0) c.leaf_count-n.ensures ((aux-back (goal.at.returns c).After-own_leaves).again ∙ made.1) c.requires.1,
  made.2,
)
