-- All states, then the leaf's own and its share as hashed behind it (`drawn-made`); the array has room for 256 states.
use Rattle.std.proofs.Common.{List, ap, ap₂, arith, drop, length, length-drop, length-take, length-take-le, replicate, sym, take, ℕ, ◌*◌, ◌++◌, ◌+◌, ◌-◌, ◌∙◌, ◌≡◌, ◌≤◌}
use Rattle.lists.specs.Part.Laws.{length_part, lent-part, part-append-left, tail-part}
use Rattle.points.specs.Written.{front_length}
use Rattle.layout.specs.Layout.Bounds.{leaves-most}
use Rattle.layout.specs.Maxima.{most_states}
use Rattle.leaves.specs.States.{state_at}
use Rattle.messages.proofs.Laws.Fronts.{Front, front-back}
use Rattle.messages.proofs.Laws.HiddenLeaf.{drawn-made}
use Rattle.messages.specs.Own.{sum_of}
use Rattle.messages.specs.Run.{run_in}
use Rattle.messages.proofs.hidden_leaf.draw_leaf.Goals as goal
use Rattle.messages.proofs.hidden_leaf.draw_leaf.Goals.{After-states_length-size, After-way_states}

fits : (c : After-states_length-size) → c.states_length-size.result ≤ most_states
fits c =
    omega (arith, c.states_length-size.ensures, leaves-most c.args.p c.requires.within)

back : (c : After-way_states) → Front c.states_length-size.result c.way_states.new.states (replicate most_states 0)
back c =
    let fits : c.states_length-size.result ≤ most_states = omega (arith, c.states_length-size.ensures, leaves-most c.args.p c.requires.within) in
    front-back _ _ _ c.way_states.auto.states (fits)

-- the leaf's state lies within the states
inside : (c : After-way_states) → 32 * c.args.leaf + 32 ≤ length c.way_states.new.states
inside c =
    let fits : c.states_length-size.result ≤ most_states = omega (arith, c.states_length-size.ensures, leaves-most c.args.p c.requires.within) in
    let back : Front c.states_length-size.result c.way_states.new.states (replicate most_states 0) = front-back _ _ _ c.way_states.auto.states (fits) in
    omega (arith, (back).size, c.states_length-size.ensures, c.requires.is_leaf)

-- the leaf's state, as it is lent
state-lent : (c : After-way_states) → let st = c.way_states.new.states in let leaf = c.args.leaf in
    take (32 * leaf + 32 - 32 * leaf) (drop (32 * leaf) (st ++ drop c.states_length-size.result (replicate most_states 0))) ≡ state_at st leaf
state-lent c =
    let fits : c.states_length-size.result ≤ most_states = omega (arith, c.states_length-size.ensures, leaves-most c.args.p c.requires.within) in
    let back : Front c.states_length-size.result c.way_states.new.states (replicate most_states 0) = front-back _ _ _ c.way_states.auto.states (fits) in
    let inside : 32 * c.args.leaf + 32 ≤ length c.way_states.new.states = omega (arith, (back).size, c.states_length-size.ensures, c.requires.is_leaf) in
    let leaf = c.args.leaf in lent-part _ (32 * leaf) 32 ∙ part-append-left _ _ (32 * leaf) 32 (inside)

state-long : (c : After-way_states) → length (state_at c.way_states.new.states c.args.leaf) ≡ 32
state-long c =
    let fits : c.states_length-size.result ≤ most_states = omega (arith, c.states_length-size.ensures, leaves-most c.args.p c.requires.within) in
    let back : Front c.states_length-size.result c.way_states.new.states (replicate most_states 0) = front-back _ _ _ c.way_states.auto.states (fits) in
    let inside : 32 * c.args.leaf + 32 ≤ length c.way_states.new.states = omega (arith, (back).size, c.states_length-size.ensures, c.requires.is_leaf) in
    length_part _ _ 32 (inside)

pub slice_bounds-states-end : goal.slice_bounds-states-end
slice_bounds-states-end c = fits (goal.at.slice_bounds-states-end c).After-states_length-size

pub slice_bounds-way_states-end : goal.slice_bounds-way_states-end
slice_bounds-way_states-end c = front_length _ _ (fits (goal.at.slice_bounds-way_states-end c).After-states_length-size)

pub way_states-requires : goal.way_states-requires
way_states-requires c = record {
  within = c.requires.within;
  run_fits = c.requires.run_fits;
  is_leaf = c.requires.is_leaf;
  siblings-are = c.requires.siblings-are;
  states-are = length-take-le _ (replicate most_states 0) (fits (goal.at.way_states-requires c).After-states_length-size) ∙ c.states_length-size.ensures;
}

pub slice_bounds-put_at-end : goal.slice_bounds-put_at-end
slice_bounds-put_at-end c = omega (arith, inside (goal.at.slice_bounds-put_at-end c).After-way_states, (back (goal.at.slice_bounds-put_at-end c).After-way_states).size, (back (goal.at.slice_bounds-put_at-end c).After-way_states).there)

pub slice_bounds-states-end-2 : goal.slice_bounds-states-end-2
slice_bounds-states-end-2 c = (back (goal.at.slice_bounds-states-end-2 c).After-way_states).there

pub slice_bounds-share_and_sum-end-2 : goal.slice_bounds-share_and_sum-end-2
slice_bounds-share_and_sum-end-2 c = (back (goal.at.slice_bounds-share_and_sum-end-2 c).After-way_states).lent

pub share_and_sum-requires : goal.share_and_sum-requires
share_and_sum-requires c = record {
  draw = record {
    within = c.requires.within;
    states = sym (back (goal.at.share_and_sum-requires c).After-way_states).lent ∙ c.states_length-size.ensures;
    leaf = c.requires.is_leaf;
    room = simp (length-take, length-drop) (omega (arith, c.put_at, c.requires.own_is));
  };
  sum = c.requires.sum_is;
}

pub returns : goal.returns
returns c = let a = c.args in let run = run_in a.run.now in
    let same = tail-part a.run.now 16 in let states = (back (goal.at.returns c).After-way_states).again ∙ c.way_states.ensures.1 in (
      c.way_states.ensures.0,
      drawn-made a.p run a.leaf _ _ _ a.own.now _ _ (ap length (state-lent (goal.at.returns c).After-way_states) ∙ state-long (goal.at.returns c).After-way_states) c.requires.own_is same states
          (state-lent (goal.at.returns c).After-way_states ∙ ap (λ (l : List ℕ). state_at l a.leaf) (sym (back (goal.at.returns c).After-way_states).again)) c.put_at.ensures c.share_and_sum.ensures.0,
      c.share_and_sum.ensures.1 ∙ ap₂ (λ (q l : List ℕ). sum_of a.p q l) same states,
    )
