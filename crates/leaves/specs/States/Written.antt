-- The states of n leaves take the place of their seeds, which are the second half of the list d.
--
-- written prefix d hidden n i  d with the states of the first i leaves written to its front
-- written_none, written-more   before the first leaf, and from a leaf to the next, whose seed still stands
-- written_all                  the states of all leaves
use Rattle.std.specs.Prelude.{◌≡◌, refl, ℕ, ◌+◌, ◌*◌, ◌<◌, length, take}
use Rattle.std.proofs.Math.Path.{sym, ap, ap₂}
use Rattle.std.proofs.Common.{◌∙◌, add-one, drop-drop}
use mathlib.Core.List.{List}
use native.Mathlib.Omega.{arith}
use Rattle.std.proofs.Math.ListN.{drop}
use Rattle.shake256.specs.Fips.{SHAKE256}
use Rattle.shake256.proofs.Laws.{length-SHAKE256}
use Rattle.lists.specs.Part.{part, put_at}
use Rattle.lists.specs.Part.Laws.{put_at-whole, put_at-put_at, part-put_at-behind}
use Rattle.exchange.specs.Sequences.{joined}
use Rattle.exchange.specs.Leaf.{state}
use Rattle.exchange.proofs.Leaf.Laws.{length-state}
use Rattle.leaves.specs.States.{seed_at, unless_hidden, states_of}
use Rattle.leaves.specs.States.Laws.{length-unless_hidden, length-states_of}

abbrev pub written : List ℕ → List ℕ → ℕ → ℕ → ℕ → List ℕ
written prefix d hidden n i = put_at d 0 (states_of prefix (drop (16 * n) d) hidden i)

pub written_none : (prefix d : List ℕ) (hidden n : ℕ) → d ≡ written prefix d hidden n 0
unfolding put_at states_of joined
written_none prefix d hidden n = refl

module _ (prefix d : List ℕ) (hidden n : ℕ) (room : length d ≡ 32 * n) where
  seed-kept : (i : ℕ) → i < n → seed_at (written prefix d hidden n i) (n + i) ≡ seed_at (drop (16 * n) d) i
  unfolding part
  seed-kept i h =
      let front = length-states_of prefix (drop (16 * n) d) hidden i in
      let e : 16 * (n + i) ≡ 16 * n + 16 * i = omega arith in
      part-put_at-behind d 0 _ (omega arith) (16 * (n + i)) 16 (omega arith)
      ∙ ap (take 16) (ap (λ (k : ℕ). drop k d) e ∙ sym (drop-drop (16 * i) (16 * n) d))

  pub written-more : (i : ℕ) → i < n
      → put_at (written prefix d hidden n i) (32 * i) (unless_hidden hidden i (state SHAKE256 prefix i (seed_at (written prefix d hidden n i) (n + i))))
      ≡ written prefix d hidden n (i + 1)
  unfolding states_of joined
  written-more i h =
      let seed = seed_at (drop (16 * n) d) i in
      let front = length-states_of prefix (drop (16 * n) d) hidden i in
      let size = length-unless_hidden hidden i (state SHAKE256 prefix i seed) (length-state SHAKE256 length-SHAKE256 prefix i seed) in
      ap₂ (λ (at : ℕ) (s : List ℕ). put_at (written prefix d hidden n i) at (unless_hidden hidden i (state SHAKE256 prefix i s))) (sym front) (seed-kept i h)
      ∙ put_at-put_at d _ (unless_hidden hidden i (state SHAKE256 prefix i seed)) (omega arith)
      ∙ ap (written prefix d hidden n) (sym (add-one i))

  pub written_all : written prefix d hidden n n ≡ states_of prefix (drop (16 * n) d) hidden n
  written_all = put_at-whole d _ (length-states_of prefix (drop (16 * n) d) hidden n ∙ sym room)
