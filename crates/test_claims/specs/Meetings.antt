-- A list of seven pairs of two runs at one axis, three points of run 1 with two multipliers each: demand 3's second half speaks of run 1 of it.
--
-- pairs            the list; the first pair hides leaf 0 twice in run 1 and counts for nothing, each other one leaves 0 and 1
-- tested           unequal strings of layers 7 and 6 have two digests, by computation
-- all_under        every pair is comparable, under one salt and h of run 1
-- meeting          the list is as demand 3 has it
-- one-light-x      so run 1's x is the same in all pairs that count, and light
use Rattle.std.specs.Prelude.{refl, List, [], ◌∷◌, ℕ}
use Rattle.std.proofs.Common.{arith, lit<}
use Rattle.algebra.specs.Each.{Each}
use Rattle.tower.specs.Point.{lone}
use Rattle.tower.specs.Field.{point}
use Rattle.claims.specs.Weight.{Pair, InBytes, In, here, later, MeetsTwice, Under, Meeting, OneLightX}
use Rattle.claims.proofs.Weight.Theorem.{weight-claim}
use Rattle.test_standin.specs.StandIn.{stand_in}
use Rattle.test_standin.specs.Definitions.{definitions}
use Rattle.test_claims.specs.StandIn.{length-stand_in, bytes-stand_in}
use Rattle.test_claims.specs.Pairs.{p, key, salt, h, pair, idle}
use Rattle.test_claims.specs.Pairs.Laws.{Axes, within, under-pair, under-idle, bytes_pair, bytes-idle, points, different, meets-twice}
use Rattle.test_claims.specs.Pairs.Free.{own_string, axis_columns, columns, choices, Tested, ChosenPair, chosen-pair, chosen-idle, free}
use Rattle.test_claims.specs.Rows.{every, apart, separated, string, row, rows_of}

unfoldable pub pairs : List Pair
pairs = idle 1 16 1 ∷ pair 1 16 1 0 1 ∷ pair 1 16 2 0 1 ∷ pair 1 17 1 0 1 ∷ pair 1 17 2 0 1 ∷ pair 1 18 1 0 1 ∷ pair 1 18 2 0 1 ∷ []

-- ---- freedom

pub tested : Tested 1
unfolding every apart separated rows_of row string own_string columns axis_columns choices definitions
tested = refl

all-chosen : Each (ChosenPair 1) pairs
unfolding pairs choices definitions
all-chosen = (
  chosen-idle 1 16 1 here,
  (
    both-1 16 1 here,
    (
      both-1 16 2 (later here),
      (
        both-1 17 1 (later (later here)),
        (
          both-1 17 2 (later (later (later here))),
          (both-1 18 1 (later (later (later (later here)))), (both-1 18 2 (later (later (later (later (later here))))), tt)),
        ),
      ),
    ),
  ),
)
  where
    both-1 : (r ε : ℕ) → In (r, ε) choices → ChosenPair 1 (pair 1 r ε 0 1)
    both-1 r ε i = chosen-pair 1 r ε i 0 1 (lit< tt) (lit< tt)

-- ---- the pairs

pub axes : Axes 1
axes = (omega arith, omega arith)

pub all_under : Each (Under stand_in (p 1) 2 key 1 salt (h 1)) pairs
unfolding pairs definitions
all_under = (under-idle 1 axes 16 1 (lit< tt), (under-1 16 1, (under-1 16 2, (under-1 17 1, (under-1 17 2, (under-1 18 1, (under-1 18 2, tt)))))))
  where
    under-1 : (r ε : ℕ) → Under stand_in (p 1) 2 key 1 salt (h 1) (pair 1 r ε 0 1)
    under-1 r ε = under-pair 1 axes r ε 0 1 (lit< tt) (lit< tt) (λ e. omega arith)

-- ---- the list

pub meeting : Meeting stand_in (p 1) 2 key 1 salt (h 1) pairs 0 points
unfolding pairs points
meeting = record {
  run = lit< tt;
  under = all_under;
  free = free 1 axes tested pairs all-chosen;
  position = lit< tt;
  different = different;
  enough = omega arith;
  met = (
    met 16 (later here) (later (later here)),
    (
      met 17 (later (later (later here))) (later (later (later (later here)))),
      (met 18 (later (later (later (later (later here))))) (later (later (later (later (later (later here)))))), tt),
    ),
  );
}
  where
    met : (r : ℕ) → In (pair 1 r 1 0 1) pairs → In (pair 1 r 2 0 1) pairs → MeetsTwice (p 1) 1 pairs 0 (point (lone r))
    met r i i' = meets-twice 1 r 0 1 0 1 pairs i i' (λ e. omega arith) (λ e. omega arith)

pub one-light-x : OneLightX stand_in (p 1) 2 key 1 pairs
unfolding pairs
one-light-x =
    weight-claim stand_in length-stand_in (p 1) 2 key 1 salt (h 1) pairs 0 points (within 1 axes) meeting bytes-stand_in (lit< tt, tt)
    (bytes-idle 1 axes 16 1, (bytes 16 1, (bytes 16 2, (bytes 17 1, (bytes 17 2, (bytes 18 1, (bytes 18 2, tt)))))))
  where
    bytes : (r ε : ℕ) → InBytes (pair 1 r ε 0 1)
    bytes r ε = bytes_pair 1 axes r ε 0 1
