-- Two openings of two runs by an honest prover under the stand-in hash. Run 0 hides leaf 1 in both; run 1 hides leaves 2 and 3 of four: demand 3's
-- first half speaks of them.
--
-- p, key, x, salt, root, m2   parameters, key, vector, what the exchange starts with, and message 2
-- opened u                    the prover's messages, with leaf u hidden in run 1
-- comparable                  the two openings are comparable
-- right                       so the extractor's outcome is right
-- leads                       the calls that send the first of them, two points a run, lead to acceptance: demand 2's last clause speaks of them
use Rattle.std.specs.Prelude.{◌≡◌, refl, List, [], ◌∷◌, ℕ, zero, suc, ◌≤◌, ◌<◌, length, get_or, replicate}
use Rattle.std.proofs.Common.{sym, ap, subst, arith, lit<, lit≤}
use Rattle.parameters.specs.declared.Parameters.{Parameters}
use Rattle.parameters.specs.Limits.{Within}
use Rattle.relation.specs.Key.{weight_of, vector_of}
use Rattle.layout.specs.Layout.{leaves, work_length}
use Rattle.layout.specs.Runs.{outputs_length}
use Rattle.exchange.specs.Values.{Key}
use Rattle.exchange.proofs.Messages.Laws.{Secret}
use Rattle.runs.specs.Messages.{leaf_at}
use Rattle.runs.proofs.Messages.Laws.{length-message1, length-message3, length-message5}
use Rattle.runs.specs.Points.{DistinctPoints}
use Rattle.runs.proofs.Points.Distinct.{points-distinct}
use Rattle.runs.specs.Opening.{Transcript}
use Rattle.calls.specs.Prover.History.{after, made}
use Rattle.calls.specs.Verifier.{Verifier}
use Rattle.claims.specs.Words.{Sent, Comparable}
use Rattle.claims.specs.Completeness.{ValidKey, LeadsToAcceptance}
use Rattle.claims.proofs.Completeness.Calls.{completeness}
use Rattle.claims.specs.Completeness.Sample.{blank}
use Rattle.claims.proofs.Completeness.Sample.{fresh_start, blank-fits}
use Rattle.claims.specs.Extraction.{Extracts}
use Rattle.claims.proofs.Extraction.Theorem.{extracts}
use Rattle.test_standin.specs.StandIn.{stand_in}
use Rattle.test_standin.specs.Definitions.{definitions}
use Rattle.test_claims.specs.StandIn.{length-stand_in}
use Rattle.test_claims.specs.Honest.{sent_by, honest-accepted}

abbrev pub p : Parameters
p = record { m = 4; k = 2; w = 2; axes = 2; t = 2 }

abbrev pub key : Key
key = record { matrix = 1 ∷ 7 ∷ 9 ∷ 3 ∷ []; y = 5 ∷ 6 ∷ [] }

abbrev pub x : List ℕ
x = 5 ∷ 0 ∷ 0 ∷ 43 ∷ []

abbrev pub salt : List ℕ
salt = replicate 32 7

abbrev pub root : List ℕ
root = replicate 16 9

abbrev pub m2 : List ℕ
m2 =
    9 ∷ 10 ∷ 11 ∷ 12 ∷ 13 ∷ 14 ∷ 15 ∷ 16 ∷ 17 ∷ 18 ∷ 19 ∷ 20 ∷ 21 ∷ 22 ∷ 23 ∷ 24
    ∷ 33 ∷ 34 ∷ 35 ∷ 36 ∷ 37 ∷ 38 ∷ 39 ∷ 40 ∷ 41 ∷ 42 ∷ 43 ∷ 44 ∷ 45 ∷ 46 ∷ 47 ∷ 48 ∷ []

unfoldable pub opened : ℕ → Transcript
opened u = sent_by p 2 key salt root m2 (1 ∷ u ∷ []) x

pub within : Within p
within = record {
  m-least = omega arith;
  m-most = omega arith;
  k-least = omega arith;
  k-most = omega arith;
  w-least = omega arith;
  w-most = omega arith;
  axes-least = omega arith;
  axes-most = omega arith;
  t-least = omega arith;
  t-most = omega arith;
}

x-is : vector_of key.matrix key.y (5 ∷ 0 ∷ []) ≡ x
unfolding definitions
x-is = refl

secret : Secret p x
unfolding definitions
secret = record { within = within; long = refl; light = omega arith; bytes = (lit< tt, (lit< tt, (lit< tt, (lit< tt, tt)))) }

below : (u : ℕ) → u < 4 → (e : ℕ) → e < 2 → leaf_at (1 ∷ u ∷ []) e < leaves p
unfolding definitions
below u h zero l = lit< tt
below u h (suc zero) l = h
below u h (suc (suc e)) l = absurd (omega arith)

sent : (u : ℕ) → u < 4 → Sent p 2 (opened u)
unfolding opened
sent u h = record {
  message1 = length-message1 stand_in p 2 x salt root refl length-stand_in;
  message2 = refl;
  message3 = length-message3 stand_in length-stand_in p 2 x secret salt root key m2;
  message4 = refl;
  below = below u h;
  message5 = length-message5 stand_in length-stand_in p 2 x secret salt root key m2 (1 ∷ u ∷ []) refl;
}

distinct : DistinctPoints p 2 m2
unfolding definitions
distinct = points-distinct p 2 m2 refl

pub comparable : Comparable stand_in p 2 key (opened 2) (opened 3)
unfolding opened
comparable = record {
  within = within;
  counted = record { least = lit≤ tt; most = lit≤ tt };
  lent = record { matrix = refl; y = refl };
  sent = sent 2 (lit< tt);
  sent' = sent 3 (lit< tt);
  salt-and-h = refl;
  points-and-multipliers = refl;
  distinct = distinct;
  response = refl;
  hidden = λ e. let z : ◌≡◌ {A = ℕ} 2 3 = ap (λ (l : List ℕ). get_or l 1 0) e in omega arith;
  accepted = honest-accepted p 2 key salt root m2 (1 ∷ 2 ∷ []) (5 ∷ 0 ∷ []) x refl refl x-is secret refl refl (below 2 (lit< tt));
  accepted' = honest-accepted p 2 key salt root m2 (1 ∷ 3 ∷ []) (5 ∷ 0 ∷ []) x refl refl x-is secret refl refl (below 3 (lit< tt));
}

pub right : (work out : List ℕ) → work_length p ≤ length work → length out ≡ outputs_length p 2
    → Extracts stand_in p 2 key (opened 2) (opened 3) work out
right work out work-length out-length = extracts stand_in length-stand_in p 2 key (opened 2) (opened 3) work out comparable work-length out-length

-- ---- the calls

valid : ValidKey p key (5 ∷ 0 ∷ [])
valid = record {
  within = within;
  lent = record { matrix = refl; y = refl };
  long = refl;
  light = subst (λ (x : List ℕ). weight_of x ≤ 2) (sym x-is) secret.light;
  bytes-y = (lit< tt, (lit< tt, tt));
  bytes-x_a = (lit< tt, (lit< tt, tt));
}

pub leads : (v : Verifier) → LeadsToAcceptance stand_in p 2 key (5 ∷ 0 ∷ []) (after stand_in []) v salt root m2 (1 ∷ 2 ∷ []) (blank p 2 (1 ∷ 2 ∷ []))
unfolding made
leads v =
    completeness stand_in length-stand_in p 2 (record { least = lit≤ tt; most = lit≤ tt }) key (5 ∷ 0 ∷ []) valid [] v salt root
    (fresh_start salt root refl refl) m2 refl distinct (1 ∷ 2 ∷ []) (record { one-a-run = refl; below = below 2 (lit< tt) })
    (blank p 2 (1 ∷ 2 ∷ [])) (blank-fits p 2 (1 ∷ 2 ∷ []))
