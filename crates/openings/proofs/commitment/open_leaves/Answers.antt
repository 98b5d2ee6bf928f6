-- The states are made in the front of `opened`, from the front of the work area, and the sums come from the states.
use Rattle.std.proofs.Common.{List, ap, arith, drop, drop_at, length, length-take-le, sym, take, take_at, ℕ, ◌++◌, ◌∙◌, ◌≡◌, ◌≤◌}
use Rattle.layout.specs.Layout.{states_length, opened_length}
use Rattle.layout.specs.Layout.Bounds.{sums-fit, siblings-fit}
use Rattle.leaves.specs.States.{states_from}
use Rattle.parties.specs.Sums.Front.{filled}
use Rattle.openings.specs.Parts.Laws.{put-states, length-put-states, states-commitment, states-lent, length-states-lent}
use Rattle.openings.proofs.commitment.open_leaves.Goals as goal
use Rattle.openings.proofs.commitment.open_leaves.Goals.{After-opened_states, After-siblings_length-seeds, After-states_length-states, After-sum_leaves, After-sums_length-sums}

-- the fronts that are lent, of the work area and of `opened`
seeds-fit : (c : After-siblings_length-seeds) → c.siblings_length-seeds.result ≤ length c.args.work.now
seeds-fit c =
    omega (arith, siblings-fit c.args.p c.requires.within, c.siblings_length-seeds.ensures, c.requires.sized-work)

sums-inside : (c : After-sums_length-sums) → c.sums_length-sums.result ≤ length c.args.work.now
sums-inside c =
    omega (arith, sums-fit c.args.p c.requires.within, c.sums_length-sums.ensures, c.requires.sized-work)

room : (c : After-states_length-states) → length (take c.states_length-states.result c.args.opened.now) ≡ states_length c.args.p
room c =
    length-states-lent c.args.p c.args.opened.now c.requires.sized-opened c.states_length-states.ensures

made : (c : After-opened_states) → length (c.opened_states.new.states) ≡ states_length c.args.p
made c =
    let room : length (take c.states_length-states.result c.args.opened.now) ≡ states_length c.args.p = length-states-lent c.args.p c.args.opened.now c.requires.sized-opened c.states_length-states.ensures in
    c.opened_states.auto.states ∙ room

lent : (c : After-opened_states) → length (take c.states_length-states.result ((c.opened_states.new.states ++ drop c.states_length-states.result c.args.opened.now))) ≡ states_length c.args.p
lent c =
    let room : length (take c.states_length-states.result c.args.opened.now) ≡ states_length c.args.p = length-states-lent c.args.p c.args.opened.now c.requires.sized-opened c.states_length-states.ensures in
    let made : length (c.opened_states.new.states) ≡ states_length c.args.p = c.opened_states.auto.states ∙ room in
    let length_whole : length ((c.opened_states.new.states ++ drop c.states_length-states.result c.args.opened.now)) ≡ opened_length c.args.p = length-put-states c.args.p c.args.opened.now (c.opened_states.new.states) c.requires.sized-opened (made) _ c.states_length-states.ensures in
    length-states-lent c.args.p ((c.opened_states.new.states ++ drop c.states_length-states.result c.args.opened.now)) (length_whole) c.states_length-states.ensures

sized : (c : After-sum_leaves) → length (c.sum_leaves.new.sums) ≡ c.sums_length-sums.result
sized c =
    let sums-inside : c.sums_length-sums.result ≤ length c.args.work.now = omega (arith, sums-fit c.args.p c.requires.within, c.sums_length-sums.ensures, c.requires.sized-work) in
    c.sum_leaves.auto.sums ∙ length-take-le _ _ (sums-inside)

pub slice_bounds-opened_states-end : goal.slice_bounds-opened_states-end
slice_bounds-opened_states-end c = seeds-fit (goal.at.slice_bounds-opened_states-end c).After-siblings_length-seeds

pub slice_bounds-opened_states-end-2 : goal.slice_bounds-opened_states-end-2
slice_bounds-opened_states-end-2 c = sym (length-take-le _ _ (seeds-fit (goal.at.slice_bounds-opened_states-end-2 c).After-siblings_length-seeds))

pub slice_bounds-opened_states-end-4 : goal.slice_bounds-opened_states-end-4
slice_bounds-opened_states-end-4 c = sym (room (goal.at.slice_bounds-opened_states-end-4 c).After-states_length-states ∙ sym c.states_length-states.ensures)

pub opened_states-requires : goal.opened_states-requires
opened_states-requires c =
    let a = length-take-le _ _ (seeds-fit (goal.at.opened_states-requires c).After-siblings_length-seeds) ∙ c.siblings_length-seeds.ensures in
    record { within = c.requires.within; is_leaf = c.requires.below; sized-siblings = a; sized-states = room (goal.at.opened_states-requires c).After-states_length-states }

pub slice_bounds-sum_leaves-end-2 : goal.slice_bounds-sum_leaves-end-2
slice_bounds-sum_leaves-end-2 c = sym (lent (goal.at.slice_bounds-sum_leaves-end-2 c).After-opened_states ∙ sym c.states_length-states.ensures)

pub slice_bounds-sum_leaves-end-3 : goal.slice_bounds-sum_leaves-end-3
slice_bounds-sum_leaves-end-3 c = sums-inside (goal.at.slice_bounds-sum_leaves-end-3 c).After-sums_length-sums

pub slice_bounds-sum_leaves-end-4 : goal.slice_bounds-sum_leaves-end-4
slice_bounds-sum_leaves-end-4 c = sym (length-take-le _ _ (sums-inside (goal.at.slice_bounds-sum_leaves-end-4 c).After-sums_length-sums))

pub sum_leaves-requires : goal.sum_leaves-requires
sum_leaves-requires c = let a = length-take-le _ _ (sums-inside (goal.at.sum_leaves-requires c).After-sums_length-sums) ∙ c.sums_length-sums.ensures in
    record { within = c.requires.within; sized-aux = c.requires.sized-aux; sized-states = lent (goal.at.sum_leaves-requires c).After-opened_states; sized-sums = a }

pub returns : goal.returns
returns c = let args = c.args in
    let p = args.p in let n = c.sums_length-sums.ensures in let a = put-states p args.opened.now (c.opened_states.new.states) (made (goal.at.returns c).After-opened_states) c.states_length-states.result ∙ c.opened_states.ensures ∙
    ap (λ (k : ℕ). states_from p args.prefix.now args.hidden_leaf (take k args.work.now)) c.siblings_length-seeds.ensures in
    let d = states-commitment p args.opened.now (c.opened_states.new.states) (made (goal.at.returns c).After-opened_states) _ c.states_length-states.ensures in
    let b = take_at (c.sum_leaves.new.sums) _ _ (sized (goal.at.returns c).After-sum_leaves ∙ n) ∙ c.sum_leaves.ensures ∙ ap
    (λ (st : List ℕ). filled p args.prefix.now st args.hidden_leaf args.aux.now) (states-lent p ((c.opened_states.new.states ++ drop c.states_length-states.result c.args.opened.now)) c.states_length-states.ensures) in
    let e = drop_at (c.sum_leaves.new.sums) _ _ (sized (goal.at.returns c).After-sum_leaves ∙ n) ∙ ap (λ (k : ℕ). drop k args.work.now) n in
    record { states-are = a; commitment-stays = d; sums-are = b; rest-stays = e }
