-- The states of all leaves from the seeds that the seed tree gives.
--
-- half_back            the seeds, when the second half of the states, `&mut w[a..]`, comes back with them
-- own-states           from all leaf seeds, and no leaf hidden: the prover's states
-- state_at-states_from   from the sibling seeds of a leaf: the state of any other
-- opened-states        from those that an opening gives: the states of the leaves that it discloses
use Rattle.std.specs.Prelude.{◌≡◌, List, [], ◌++◌, ℕ, ◌-◌, ◌≤◌, ◌<◌, length, get_or, take, drop}
use Rattle.std.proofs.Math.Path.{ap}
use Rattle.std.proofs.Common.{◌∙◌, arith, drop_at, length-take-le}
use Rattle.lists.specs.Part.Laws.{tail-back}
use Rattle.shake256.specs.Fips.{SHAKE256}
use Rattle.shake256.proofs.Laws.{length-SHAKE256}
use Rattle.parameters.specs.declared.Parameters.{Parameters}
use Rattle.layout.specs.Layout.{levels, leaves, siblings_length}
use Rattle.exchange.specs.Run.{Run}
use Rattle.exchange.specs.Tree.{leaf_seeds, opened_seeds}
use Rattle.exchange.specs.Leaf.{state}
use Rattle.exchange.specs.Messages.{own_state}
use Rattle.exchange.specs.Opening.{Exchange, path_of, opened_state}
use Rattle.seedtree.specs.Laid.{laid}
use Rattle.seedtree.specs.Levels.Laws.{leaf_seeds-part}
use Rattle.seedtree.specs.Opened.{opened_seeds-part}
use Rattle.leaves.specs.States.{state_at, states_of, states_from}
use Rattle.leaves.specs.States.Laws.{state_at-states_of}

pub half_back : (w seeds : List ℕ) (a : ℕ) → a ≤ length w → drop a (take a w ++ (seeds ++ drop (length w - a) (drop a w))) ≡ seeds
half_back w seeds a h = ap (drop a) (tail-back w seeds a h) ∙ drop_at (take a w) seeds a (length-take-le a w h)

module _ (p : Parameters) (x : List ℕ) (run : Run) (sixteen : length run.root ≡ 16) where
  pub own-states : (i : ℕ) → i < leaves p
      → state_at (states_of run.prefix (laid (leaf_seeds SHAKE256 run.prefix (levels p) 1 run.root)) (leaves p) (leaves p)) i ≡ own_state SHAKE256 p x run i
  unfolding own_state
  own-states i h =
      state_at-states_of run.prefix (laid (leaf_seeds SHAKE256 run.prefix (levels p) 1 run.root)) (leaves p) (leaves p) i h (λ e. omega arith)
      ∙ ap (state SHAKE256 run.prefix i) (leaf_seeds-part SHAKE256 run.prefix length-SHAKE256 (levels p) 1 run.root sixteen i h)

pub state_at-states_from : (p : Parameters) (prefix : List ℕ) (leaf : ℕ) (s : List ℕ) → leaf < leaves p → length s ≡ siblings_length p
    → (i : ℕ) → i < leaves p → (i ≡ leaf → ⊥)
    → state_at (states_from p prefix leaf s) i ≡ state SHAKE256 prefix i (get_or (opened_seeds SHAKE256 prefix (levels p) 1 leaf s) i [])
unfolding states_from
state_at-states_from p prefix leaf s is_IsLeaf long i h other =
    state_at-states_of prefix (laid (opened_seeds SHAKE256 prefix (levels p) 1 leaf s)) leaf (leaves p) i h other
    ∙ ap (state SHAKE256 prefix i) (opened_seeds-part SHAKE256 prefix length-SHAKE256 (levels p) 1 leaf i s long is_IsLeaf h other)

pub opened-states : (p : Parameters) (e : Exchange) → e.leaf < leaves p → siblings_length p ≤ length e.message5
    → (i : ℕ) → i < leaves p → (i ≡ e.leaf → ⊥) → state_at (states_from p e.prefix e.leaf (path_of p e)) i ≡ opened_state SHAKE256 p e i
unfolding opened_state path_of
opened-states p e is_IsLeaf long = state_at-states_from p e.prefix e.leaf (path_of p e) is_IsLeaf (length-take-le (siblings_length p) e.message5 long)
