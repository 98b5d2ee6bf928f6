-- The laws of the states of all leaves.
--
-- unless_hidden-hidden, unless_hidden-other   the hidden leaf's place, and any other's
-- length-unless_hidden   32 bytes
-- length-states_of       32 bytes a leaf
-- state_at-states_of      the state of leaf i that is not hidden
use Rattle.std.specs.Prelude.{◌≡◌, ℕ, ◌*◌, ◌<◌, length, drop, replicate}
use Rattle.std.proofs.Common.{sym, ap, ◌∙◌, eq-eqb, ne_eqb}
use mathlib.Core.List.{List, [], append-nil}
use Rattle.std.proofs.Math.Nat.{mul_comm}
use Rattle.std.proofs.Math.Decide.{ℕ_discrete}
use Rattle.std.proofs.Math.ListN.{take}
use Rattle.shake256.specs.Fips.{SHAKE256}
use Rattle.shake256.proofs.Laws.{length-SHAKE256}
use Rattle.lists.specs.Part.{part}
use Rattle.exchange.specs.Sequences.{joined}
use Rattle.exchange.proofs.Sequences.Laws.{length-joined, joined_at}
use Rattle.exchange.specs.Leaf.{state}
use Rattle.exchange.proofs.Leaf.Laws.{length-state}
use Rattle.leaves.specs.States.{state_at, seed_at, unless_hidden, states_of}

module _ (hidden i : ℕ) (st : List ℕ) where
  pub unless_hidden-hidden : i ≡ hidden → unless_hidden hidden i st ≡ replicate 32 0
  unfolding unless_hidden
  unless_hidden-hidden e = rw (eq-eqb i hidden e)

  pub unless_hidden-other : (i ≡ hidden → ⊥) → unless_hidden hidden i st ≡ st
  unfolding unless_hidden
  unless_hidden-other e = rw (ne_eqb i hidden e)

  pub length-unless_hidden : length st ≡ 32 → length (unless_hidden hidden i st) ≡ 32
  length-unless_hidden size = go (ℕ_discrete i hidden)
    where
      go : Dec (i ≡ hidden) → length (unless_hidden hidden i st) ≡ 32
      go (yes e) = ap length (unless_hidden-hidden e)
      go (no e) = ap length (unless_hidden-other e) ∙ size

module _ (prefix seeds : List ℕ) (hidden n : ℕ) where
  abbrev place : ℕ → List ℕ
  place i = unless_hidden hidden i (state SHAKE256 prefix i (seed_at seeds i))

  sized : (i : ℕ) → i < n → length (place i) ≡ 32
  sized i h = length-unless_hidden hidden i _ (length-state SHAKE256 length-SHAKE256 prefix i (seed_at seeds i))

  pub length-states_of : length (states_of prefix seeds hidden n) ≡ 32 * n
  unfolding states_of
  length-states_of = length-joined place n 32 sized ∙ mul_comm n 32

  pub state_at-states_of : (i : ℕ) → i < n → (i ≡ hidden → ⊥) → state_at (states_of prefix seeds hidden n) i ≡ state SHAKE256 prefix i (seed_at seeds i)
  unfolding states_of part
  state_at-states_of i h other =
      (λ t. take 32 (drop (mul_comm 32 i t) (sym (append-nil (joined place n)) t))) ∙ joined_at place 32 n sized [] i h
      ∙ unless_hidden-other hidden i (state SHAKE256 prefix i (seed_at seeds i)) other
