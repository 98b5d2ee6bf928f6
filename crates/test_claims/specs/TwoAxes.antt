-- A list of six pairs of two runs at two axes, so of four leaves, three points of run 1 with two multipliers each; no two of its pairs hide the same
-- two leaves there. Demand 3's second half speaks of run 1 of it.
--
-- pairs            the list: in run 1 its pairs hide leaves 0 and 3, 1 and 2, 0 and 1, 2 and 3, 0 and 2, 1 and 3
-- tested           unequal strings of layers 7 and 6 have two digests, by computation
-- all_under        every pair is comparable, under one salt and h of run 1
-- meeting          the list is as demand 3 has it
-- one-light-x      so run 1's x is the same in all its pairs, and light
-- two-axes         leaves 0 and 3 differ first on axis 1, leaves 0 and 2 on axis 2
use Rattle.std.specs.Prelude.{◌≡◌, refl, List, [], ◌∷◌, ℕ, ◌<◌}
use Rattle.std.proofs.Common.{arith, lit<}
use Rattle.algebra.specs.Each.{Each}
use Rattle.exchange.specs.Extractor.{axis}
use Rattle.runs.specs.Opening.{exchange_at}
use Rattle.claims.specs.Weight.{Pair, InBytes, In, here, later, Under, Meeting, OneLightX}
use Rattle.claims.proofs.Weight.Theorem.{weight-claim}
use Rattle.test_standin.specs.StandIn.{stand_in}
use Rattle.test_standin.specs.Definitions.{definitions}
use Rattle.test_claims.specs.StandIn.{length-stand_in, bytes-stand_in}
use Rattle.test_claims.specs.Pairs.{p, key, salt, h, opened, pair}
use Rattle.test_claims.specs.Pairs.Laws.{Axes, within, under-pair, bytes_pair, points, different, meets-twice}
use Rattle.test_claims.specs.Pairs.Free.{own_string, axis_columns, columns, choices, Tested, ChosenPair, chosen-pair, free}
use Rattle.test_claims.specs.Rows.{every, apart, separated, string, row, rows_of}

unfoldable pub pairs : List Pair
pairs = pair 2 16 1 0 3 ∷ pair 2 16 2 1 2 ∷ pair 2 17 1 0 1 ∷ pair 2 17 2 2 3 ∷ pair 2 18 1 0 2 ∷ pair 2 18 2 1 3 ∷ []

-- ---- freedom

tested : Tested 2
unfolding every apart separated rows_of row string own_string columns axis_columns choices definitions
tested = refl

all-chosen : Each (ChosenPair 2) pairs
unfolding pairs choices definitions
all-chosen = (
  both-2 16 1 0 3 (lit< tt) (lit< tt) here,
  (
    both-2 16 2 1 2 (lit< tt) (lit< tt) (later here),
    (
      both-2 17 1 0 1 (lit< tt) (lit< tt) (later (later here)),
      (
        both-2 17 2 2 3 (lit< tt) (lit< tt) (later (later (later here))),
        (both-2 18 1 0 2 (lit< tt) (lit< tt) (later (later (later (later here)))), (both-2 18 2 1 3 (lit< tt) (lit< tt) (later (later (later (later (later here))))), tt)),
      ),
    ),
  ),
)
  where
    both-2 : (r ε u u' : ℕ) → u < 4 → u' < 4 → In (r, ε) choices → ChosenPair 2 (pair 2 r ε u u')
    both-2 r ε u u' h h' i = chosen-pair 2 r ε i u u' h h'

-- ---- the pairs

axes : Axes 2
axes = (omega arith, omega arith)

pub all_under : Each (Under stand_in (p 2) 2 key 1 salt (h 2)) pairs
unfolding pairs definitions
all_under = (
  under-2 16 1 0 3 (lit< tt) (lit< tt) (λ e. omega arith),
  (
    under-2 16 2 1 2 (lit< tt) (lit< tt) (λ e. omega arith),
    (
      under-2 17 1 0 1 (lit< tt) (lit< tt) (λ e. omega arith),
      (
        under-2 17 2 2 3 (lit< tt) (lit< tt) (λ e. omega arith),
        (under-2 18 1 0 2 (lit< tt) (lit< tt) (λ e. omega arith), (under-2 18 2 1 3 (lit< tt) (lit< tt) (λ e. omega arith), tt)),
      ),
    ),
  ),
)
  where
    under-2 : (r ε u u' : ℕ) → u < 4 → u' < 4 → (u ≡ u' → ⊥) → Under stand_in (p 2) 2 key 1 salt (h 2) (pair 2 r ε u u')
    under-2 = under-pair 2 axes

-- ---- the list

pub meeting : Meeting stand_in (p 2) 2 key 1 salt (h 2) pairs 0 points
unfolding pairs points
meeting = record {
  run = lit< tt;
  under = all_under;
  free = free 2 axes tested pairs all-chosen;
  position = lit< tt;
  different = different;
  enough = omega arith;
  met = (
    meets-twice 2 16 0 3 1 2 pairs here (later here) (λ e. omega arith) (λ e. omega arith),
    (
      meets-twice 2 17 0 1 2 3 pairs (later (later here)) (later (later (later here))) (λ e. omega arith) (λ e. omega arith),
      (
        meets-twice 2 18 0 2 1 3 pairs (later (later (later (later here)))) (later (later (later (later (later here))))) (λ e. omega arith) (λ e. omega arith),
        tt,
      ),
    ),
  );
}

pub one-light-x : OneLightX stand_in (p 2) 2 key 1 pairs
unfolding pairs
one-light-x =
    weight-claim stand_in length-stand_in (p 2) 2 key 1 salt (h 2) pairs 0 points (within 2 axes) meeting bytes-stand_in (lit< tt, tt)
    (bytes 16 1 0 3, (bytes 16 2 1 2, (bytes 17 1 0 1, (bytes 17 2 2 3, (bytes 18 1 0 2, (bytes 18 2 1 3, tt))))))
  where
    bytes : (r ε u u' : ℕ) → InBytes (pair 2 r ε u u')
    bytes = bytes_pair 2 axes

pub two-axes : (axis (p 2) (exchange_at (p 2) (opened 2 16 1 0 0) 1) (exchange_at (p 2) (opened 2 16 1 0 3) 1) ≡ 1)
    × (axis (p 2) (exchange_at (p 2) (opened 2 18 1 0 0) 1) (exchange_at (p 2) (opened 2 18 1 0 2) 1) ≡ 2)
unfolding opened definitions
two-axes = (refl, refl)
