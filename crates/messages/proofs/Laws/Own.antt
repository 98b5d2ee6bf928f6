-- The laws of what the prover has of its leaves.
--
-- length-own_state    a state has 32 bytes
-- own_states-at       the state of leaf i
-- sum-drawn          from these states: the sum that the exchange's aux is made from
-- aux-made           and aux
use Rattle.std.specs.Prelude.{◌≡◌, true, ℕ, ◌<◌, length}
use Rattle.std.proofs.Common.{sym, ◌∙◌}
use Rattle.std.proofs.Math.Path.{ap}
use mathlib.Core.List.{List, []}
use Rattle.shake256.specs.Fips.{SHAKE256}
use Rattle.shake256.proofs.Laws.{length-SHAKE256}
use Rattle.parameters.specs.declared.Parameters.{Parameters}
use Rattle.layout.specs.Layout.{leaves}
use Rattle.exchange.specs.Run.{Run}
use Rattle.exchange.specs.Leaf.{share}
use Rattle.exchange.proofs.Leaf.Laws.{length-state}
use Rattle.exchange.proofs.Parties.Laws.{total_ext}
use Rattle.exchange.specs.Messages.{own_state, drawn, own_aux}
use Rattle.messages.specs.Auxiliary.{aux_for}
use Rattle.messages.proofs.Laws.Auxiliary.{own_aux-is}
use Rattle.leaves.specs.States.{state_at}
use Rattle.leaves.specs.States.Seeds.{own-states}
use Rattle.parties.specs.Drawn.{drawn_share}
use Rattle.messages.specs.Own.{own_states, sum_of}

pub length-own_state : (p : Parameters) (x : List ℕ) (run : Run) (i : ℕ) → length (own_state SHAKE256 p x run i) ≡ 32
unfolding own_state
length-own_state p x run i = length-state SHAKE256 length-SHAKE256 run.prefix i _

module _ (p : Parameters) (x : List ℕ) (run : Run) (sixteen : length run.root ≡ 16) where
  pub own_states-at : (i : ℕ) → i < leaves p → state_at (own_states p run) i ≡ own_state SHAKE256 p x run i
  unfolding own_states
  own_states-at i h = own-states p x run sixteen i h

  pub sum-drawn : sum_of p run.prefix (own_states p run) ≡ drawn SHAKE256 p x run
  unfolding drawn drawn_share
  sum-drawn =
      total_ext p (λ i. true) (drawn_share p run.prefix (own_states p run)) (λ i. share SHAKE256 p run.prefix i (own_state SHAKE256 p x run i) []) (leaves p)
      (λ i h e. ap (λ (st : List ℕ). share SHAKE256 p run.prefix i st []) (own_states-at i h))

  pub aux-made : aux_for p x (sum_of p run.prefix (own_states p run)) ≡ own_aux SHAKE256 p x run
  aux-made = ap (aux_for p x) sum-drawn ∙ sym (own_aux-is SHAKE256 p x run)
