-- A list of pairs that have two h of run 0: demand 3's second half asks for one salt and one h of run 1 alone.
--
-- joint u          run 0 started from another root, run 1 as in the other pairs; leaf u is hidden in run 1
-- joint_pair        two of these, hiding leaves 0 and 1
-- two-commitments  message 1 of it is not that of the others
-- pairs            the list: this pair, then the other five of points 16, 17, 18, each with two multipliers
-- meeting          the list is as demand 3 has it
-- one-x            so run 1's x is the same in all its pairs, and light
use Rattle.std.specs.Prelude.{◌≡◌, false, List, [], ◌∷◌, ◌++◌, ℕ, zero, suc, ◌<◌, get_or, take, drop, replicate, Ok}
use Rattle.std.proofs.Math.Path.{refl}
use Rattle.std.proofs.Common.{ap, arith, lit<, lit≤}
use Rattle.algebra.specs.Each.{Each}
use Rattle.lists.specs.Equal.{eq_list}
use Rattle.lists.specs.Equal.Laws.{eq_list-false}
use Rattle.tower.specs.Point.{lone}
use Rattle.tower.specs.Field.{Point, point}
use Rattle.layout.specs.Layout.{leaves}
use Rattle.runs.specs.Messages.{leaf_at}
use Rattle.runs.specs.Opening.{Transcript, verdict}
use Rattle.runs.proofs.Opening.Laws.{accepted-then}
use Rattle.claims.specs.Words.{Sent}
use Rattle.claims.proofs.Completeness.Sample.{one-position}
use Rattle.claims.specs.Weight.{Pair, In, here, later, MeetsTwice, Under, Meeting, OneX}
use Rattle.claims.proofs.Weight.Theorem.{low-claim}
use Rattle.test_standin.specs.StandIn.{stand_in}
use Rattle.test_standin.specs.Definitions.{definitions}
use Rattle.test_claims.specs.StandIn.{length-stand_in}
use Rattle.test_claims.specs.Honest.{sent_by}
use Rattle.test_claims.specs.Pairs.{p, key, x, salt, m1, h, messages2, opened, pair}
use Rattle.test_claims.specs.Pairs.Laws.{within, under-pair, points, different, meets-twice}
use Rattle.test_claims.specs.Pairs.Free.{choices, ChosenPair, chosen-pair, free}
use Rattle.test_claims.specs.Meetings.{tested, axes}

-- run 0 from here
unfoldable pub elsewhere : ℕ → Transcript
elsewhere u = sent_by (p 1) 2 key salt (replicate 16 8) (messages2 16 1) (0 ∷ u ∷ []) x

-- run 0 has h in bytes 32 to 63 of message 1, and 63 bytes of message 5
unfoldable pub joint : ℕ → Transcript
joint u = record {
  message1 = take 64 (elsewhere u).message1 ++ drop 64 (opened 1 16 1 0 u).message1;
  message2 = messages2 16 1;
  message3 = take 32 (elsewhere u).message3 ++ drop 32 (opened 1 16 1 0 u).message3;
  leaves = 0 ∷ u ∷ [];
  message5 = take 63 (elsewhere u).message5 ++ drop 63 (opened 1 16 1 0 u).message5;
}

unfoldable pub joint_pair : Pair
joint_pair = record { one = joint 0; other = joint 1 }

pub two-commitments : (joint 0).message1 ≡ m1 1 → ⊥
two-commitments = eq_list-false (joint 0).message1 (m1 1) differ
  where
    differ : eq_list (joint 0).message1 (m1 1) ≡ false
    differ = unfold joint elsewhere opened m1 definitions in refl

-- ---- the pair

below : (u : ℕ) → u < 2 → (e : ℕ) → e < 2 → leaf_at (0 ∷ u ∷ []) e < leaves (p 1)
unfolding definitions
below u l zero k = lit< tt
below u l (suc zero) k = l
below u l (suc (suc e)) k = absurd (omega arith)

sent : Sent (p 1) 2 (joint 0) × Sent (p 1) 2 (joint 1)
unfolding joint elsewhere opened definitions
sent = (
  record { message1 = refl; message2 = refl; message3 = refl; message4 = refl; below = below 0 (lit< tt); message5 = refl },
  record { message1 = refl; message2 = refl; message3 = refl; message4 = refl; below = below 1 (lit< tt); message5 = refl },
)

judged : (verdict stand_in (p 1) 2 (joint 0) key ≡ Ok tt) × (verdict stand_in (p 1) 2 (joint 1) key ≡ Ok tt)
unfolding joint elsewhere opened definitions
judged = (refl, refl)

same_start : (take 32 (joint 0).message1 ≡ salt) × (take 32 (drop 64 (joint 0).message1) ≡ h 1)
unfolding joint elsewhere opened h m1 definitions
same_start = (refl, refl)

under-joint : Under stand_in (p 1) 2 key 1 salt (h 1) joint_pair
unfolding joint_pair joint elsewhere opened definitions
under-joint = record {
  comparable = record {
    within = within 1 axes;
    counted = record { least = lit≤ tt; most = lit≤ tt };
    lent = record { matrix = refl; y = refl };
    sent = sent.0;
    sent' = sent.1;
    salt-and-h = refl;
    points-and-multipliers = refl;
    distinct = one-position (p 1) refl 2 (messages2 16 1);
    response = refl;
    hidden = λ e. let z : ◌≡◌ {A = ℕ} 0 1 = ap (λ (l : List ℕ). get_or l 1 0) e in omega arith;
    accepted = accepted-then stand_in (p 1) 2 (joint 0) key judged.0;
    accepted' = accepted-then stand_in (p 1) 2 (joint 1) key judged.1;
  };
  same-salt = same_start.0;
  same-h = same_start.1;
}

chosen-joint : ChosenPair 1 joint_pair
unfolding joint_pair joint elsewhere opened choices definitions
chosen-joint = record {
  one = record { choice = (16, 1); first = 0; leaf = 0; in-choices = here; inside = lit< tt; is = refl };
  other = record { choice = (16, 1); first = 0; leaf = 1; in-choices = here; inside = lit< tt; is = refl };
}

-- ---- the list

unfoldable pub pairs : List Pair
pairs = joint_pair ∷ pair 1 16 2 0 1 ∷ pair 1 17 1 0 1 ∷ pair 1 17 2 0 1 ∷ pair 1 18 1 0 1 ∷ pair 1 18 2 0 1 ∷ []

all-chosen : Each (ChosenPair 1) pairs
unfolding pairs choices definitions
all-chosen = (
  chosen-joint,
  (
    chosen 16 2 (later here),
    (
      chosen 17 1 (later (later here)),
      (
        chosen 17 2 (later (later (later here))),
        (chosen 18 1 (later (later (later (later here)))), (chosen 18 2 (later (later (later (later (later here))))), tt)),
      ),
    ),
  ),
)
  where
    chosen : (r ε : ℕ) → In (r, ε) choices → ChosenPair 1 (pair 1 r ε 0 1)
    chosen r ε i = chosen-pair 1 r ε i 0 1 (lit< tt) (lit< tt)

all_under : Each (Under stand_in (p 1) 2 key 1 salt (h 1)) pairs
unfolding pairs definitions
all_under = (under-joint, (under 16 2, (under 17 1, (under 17 2, (under 18 1, (under 18 2, tt))))))
  where
    under : (r ε : ℕ) → Under stand_in (p 1) 2 key 1 salt (h 1) (pair 1 r ε 0 1)
    under r ε = under-pair 1 axes r ε 0 1 (lit< tt) (lit< tt) (λ e. omega arith)

met-16 : MeetsTwice (p 1) 1 pairs 0 (point (lone 16))
unfolding pairs joint_pair joint pair opened definitions
met-16 = record {
  pair = joint_pair;
  pair' = pair 1 16 2 0 1;
  ε = point (lone 1);
  ε' = point (lone 2);
  in_list = here;
  in-list' = later here;
  counts = λ e. omega arith;
  counts' = λ e. omega arith;
  meets = record { point = refl; multiplier = refl };
  meets' = record { point = refl; multiplier = refl };
  unequal = λ e. let z : ◌≡◌ {A = ℕ} 1 2 = ap (λ (r : Point). r.0.0.0) e in omega arith;
}

pub meeting : Meeting stand_in (p 1) 2 key 1 salt (h 1) pairs 0 points
unfolding pairs points
meeting = record {
  run = lit< tt;
  under = all_under;
  free = free 1 axes tested pairs all-chosen;
  position = lit< tt;
  different = different;
  enough = omega arith;
  met = (
    met-16,
    (
      met 17 (later (later here)) (later (later (later here))),
      (met 18 (later (later (later (later here)))) (later (later (later (later (later here))))), tt),
    ),
  );
}
  where
    met : (r : ℕ) → In (pair 1 r 1 0 1) pairs → In (pair 1 r 2 0 1) pairs → MeetsTwice (p 1) 1 pairs 0 (point (lone r))
    met r i i' = meets-twice 1 r 0 1 0 1 pairs i i' (λ e. omega arith) (λ e. omega arith)

pub one-x : OneX stand_in (p 1) 2 key 1 pairs
one-x = low-claim stand_in length-stand_in (p 1) 2 key 1 salt (h 1) pairs 0 points (within 1 axes) meeting
