-- The laws of the calls: what passed checks say, and what a call gives.
--
-- err-is                            a refusal that `?` returns is the one that it found
-- refused-call, done-call           what a call gives, from what its checks answered
-- state-row                         12 and 11 from the phase that counts
-- state-refused, state-passed       12 or 11 is the answer, or the checks behind them give it
-- rest-done                         where all checks pass, those behind 12 and 11 do
-- intact-then, intact-else          is a session intact, once its numbers are within their limits or not
-- Inner here                        a phase between the first begin and the closing
-- due-intact                        a call that is due in such a phase finds an intact session
-- held-within, held-runs, held-leaves   its parameters and its run count are within their limits, its leaves are below n
-- begin-passed, points-passed, response-passed, leaf-passed   the message taken has room in the session
-- Opened, opening-passed            what is known where the checks of the opening pass
-- refused-opening, judged-opening   what the opening gives, from what its checks answered
use Rattle.std.specs.Prelude.{◌≡◌, ◌&&◌, ◌||◌, not, cond, List, ℕ, ◌≤◌, ◌<◌, length, get_or, Ok, Err, IsErrAnd, ⊤}
use Rattle.std.proofs.Math.Path.{refl, ap}
use Rattle.std.proofs.Common.{sym, ◌∙◌, arith}
use Rattle.std.proofs.Math.Bool.{Bool, true, false}
use Rattle.std.proofs.lemmas.Bool.{false≢true}
use Rattle.std.proofs.Math.Dec.{eqb}
use borrow.Author.Tests.{eqb-true}
use Rattle.lists.specs.Zeroed.{zeroed}
use Rattle.lists.specs.Checks.Laws.{and_left, and_right}
use Rattle.answers.specs.Answer.{Answer}
use Rattle.answers.specs.declared.Refusal.{Refusal}
use Rattle.answers.specs.declared.Refusal.TheVariants.{Parameter, Length, Leaf, NotDue, Closed as ExchangeClosed, SamePoint}
use Rattle.answers.specs.Number.{answer_number}
use Rattle.answers.specs.Checks.{check}
use Rattle.answers.specs.Checks.Laws.{Ok≢Err, check-true, check-rest, check-passed}
use Rattle.parameters.specs.declared.Parameters.{Parameters}
use Rattle.parameters.specs.Limits.{within_limits, Within}
use Rattle.parameters.specs.Limits.Laws.{test-within}
use Rattle.layout.specs.Layout.{leaves, work_length}
use Rattle.layout.specs.Maxima.{most_runs, most_message1, most_messages2, most_messages3}
use Rattle.layout.specs.Runs.{runs_within, message1_length, messages2_length, messages3_length, messages5_length}
use Rattle.layout.specs.Runs.Laws.{RunsWithin, runs-within, messages2-most}
use Rattle.runs.specs.Points.{distinct_points}
use Rattle.runs.specs.Opening.{verdict}
use Rattle.exchange.specs.Values.{Key}
use Rattle.layout.specs.Lent.{lent, Lent}
use Rattle.layout.specs.Lent.Laws.{test-lent}
use denote.Enum.Bare.{sameb}
use Rattle.verifier_phase.specs.contracts.Phase.{the_type}
use Rattle.verifier_phase.proofs.Laws.Same.{same-step}
use Rattle.verifier_phase.specs.declared.Phase.{Phase}
use Rattle.verifier_phase.specs.declared.Phase.TheVariants.{Fresh, Begun, Pointed, Responded, Chosen, Closed}
use Rattle.calls.specs.Lengths.{leaves_below}
use Rattle.calls.proofs.Lengths.Laws.{leaves-below}
use Rattle.calls.specs.Verifier.{Verifier, held_leaves, held_transcript, ended, judge, opening, step, intact, standing, closed, due, settle, begin_checks, points_checks, response_checks, leaf_checks, opening_checks}

-- ---- what a call gives

-- x is what the function returns
pub err-is : (x : Answer) (r : Refusal) → IsErrAnd x (λ y. y ≡ r) → x ≡ Err r
err-is x r h = go x h
  where
    go : (x : Answer) → IsErrAnd x (λ y. y ≡ r) → x ≡ Err r
    go (Ok _) h = absurd h
    go (Err y) h = rw h

module _ (s next : Verifier) (a b : Answer) (e : b ≡ a) where
  pub refused-call : (x : Answer) {r : Refusal} → b ≡ Err r → IsErrAnd x (λ y. y ≡ r) → record { answer = answer_number x; verifier = s } ≡ settle a s next
  refused-call x {r} q g =
      let f : x ≡ Err r = err-is x r g in rw (f, ← e, q)

  pub done-call : {u : ⊤} → b ≡ Ok u → record { answer = 0; verifier = next } ≡ settle a s next
  done-call q = rw (← e, q)

-- ---- 12 and 11

pub record Inner (here : Phase) : Type 0 where
  pub begun : eqb (step here) (step Fresh) ≡ false
  pub still : eqb (step here) (step Closed) ≡ false

both-refused : (a b : Bool) (q r s : Refusal) (rest : Answer) → check a q (check b r (Ok tt)) ≡ Err s → check a q (check b r rest) ≡ Err s
both-refused true true q r s rest e = absurd (Ok≢Err e)
both-refused true false q r s rest e = e
both-refused false b q r s rest e = e

module _ (s : Verifier) (here : Phase) where
  -- the checks of a call, those behind 12 and 11 as one answer
  abbrev first : Answer → Answer
  first rest = check (not (closed s)) ExchangeClosed (check (due s here) NotDue rest)

  pub state-row : (f : Phase) → f ≡ standing s → (still due-here : Bool) → still ≡ not (sameb the_type f Closed) → due-here ≡ sameb the_type f here
      → check still ExchangeClosed (check due-here NotDue (Ok tt)) ≡ first (Ok tt)
  unfolding closed due
  state-row f told still due-here e g = rw (e ∙ ap not (same-step f Closed), g ∙ same-step f here, told)

  pub state-refused : {a x : Answer} {r : Refusal} → a ≡ first (Ok tt) → a ≡ Err r → IsErrAnd x (λ y. y ≡ r) → (rest : Answer) → x ≡ first rest
  state-refused {a} {x} {r} e f g rest = err-is x r g ∙ sym (both-refused (not (closed s)) (due s here) ExchangeClosed NotDue r rest (sym e ∙ f))

  module _ (rest : Answer) (e : first rest ≡ Ok tt) where
    open-still : not (closed s) ≡ true
    open-still = check-true (not (closed s)) ExchangeClosed (check (due s here) NotDue rest) e

    behind : check (due s here) NotDue rest ≡ Ok tt
    behind = check-rest (not (closed s)) ExchangeClosed (check (due s here) NotDue rest) e

    is-due : due s here ≡ true
    is-due = check-true (due s here) NotDue rest behind

    pub rest-done : rest ≡ Ok tt
    rest-done = check-rest (due s here) NotDue rest behind

    pub state-passed : (other : Answer) → first other ≡ other
    state-passed other =
        check-passed (not (closed s)) ExchangeClosed (check (due s here) NotDue other) open-still ∙ check-passed (due s here) NotDue other is-due

    pub due-intact : Inner here → intact s ≡ true
    unfolding due standing
    due-intact inner = go (eqb (step s.phase) (step Fresh)) (intact s) refl refl is-due
      where
        go : (fresh whole : Bool) → eqb (step s.phase) (step Fresh) ≡ fresh → intact s ≡ whole
            → eqb (step (cond (fresh || whole) s.phase Closed)) (step here) ≡ true → intact s ≡ true
        go fresh true e f q = f
        go true false e f q = absurd (false≢true (sym inner.begun ∙ ap (λ (n : ℕ). eqb n (step Fresh)) (sym (eqb-true (step s.phase) (step here) q)) ∙ e))
        go false false e f q = absurd (false≢true (sym inner.still ∙ ap (λ (n : ℕ). eqb n (step Closed)) (sym (eqb-true (step Closed) (step here) q))))

module _ (s : Verifier) where
  abbrev numbers : Bool
  numbers = within_limits s.parameters && runs_within s.runs

  pub intact-then : numbers ≡ true → intact s ≡ leaves_below s.parameters (held_leaves s)
  unfolding intact
  intact-then e = rw (and_left (within_limits s.parameters) (runs_within s.runs) e, and_right (within_limits s.parameters) (runs_within s.runs) e)

  pub intact-else : numbers ≡ false → intact s ≡ false
  unfolding intact
  intact-else e = go (within_limits s.parameters) e
    where
      go : (a : Bool) → (a && runs_within s.runs) ≡ false → (a && (runs_within s.runs && leaves_below s.parameters (held_leaves s))) ≡ false
      go true q = rw q
      go false q = refl

module _ (s : Verifier) (h : intact s ≡ true) where
  abbrev inside : Bool
  inside = within_limits s.parameters

  abbrev counted : Bool
  counted = runs_within s.runs

  abbrev below : Bool
  below = leaves_below s.parameters (held_leaves s)

  limits : (inside && (counted && below)) ≡ true
  unfolding intact
  limits = h

  pub held-within : Within s.parameters
  held-within = test-within s.parameters (and_left inside (counted && below) limits)

  pub held-runs : RunsWithin s.runs
  held-runs = runs-within s.runs (and_left counted below (and_right inside (counted && below) limits))

  pub held-leaves : (e : ℕ) → e < length (held_leaves s) → get_or (held_leaves s) e 0 < leaves s.parameters
  held-leaves = leaves-below s.parameters (held_leaves s) (and_right counted below (and_right inside (counted && below) limits))

-- ---- the checks of each call

length-passed : (n m : ℕ) (behind : Answer) → check (eqb n m) Length behind ≡ Ok tt → n ≡ m
length-passed n m behind e = eqb-true n m (check-true (eqb n m) Length behind e)

pub begin-passed : (p : Parameters) (runs : ℕ) (m1 : List ℕ) → begin_checks p runs m1 ≡ Ok tt → length m1 ≤ most_message1
unfolding begin_checks
begin-passed p runs m1 e =
    let first : Bool = within_limits p && runs_within runs in
    let rest : Answer = check (eqb (length m1) (message1_length runs)) Length (Ok tt) in
    let size = length-passed (length m1) (message1_length runs) (Ok tt) (check-rest first Parameter rest e) in
    let few = runs-within runs (and_right (within_limits p) (runs_within runs) (check-true first Parameter rest e)) in
    omega (arith, size, few.most)

pub points-passed : (s : Verifier) (m2 : List ℕ) → points_checks s m2 ≡ Ok tt → length m2 ≤ most_messages2
unfolding points_checks
points-passed s m2 e =
    let behind : Answer = check (distinct_points s.parameters s.runs m2) SamePoint (Ok tt) in
    let rest : Answer = check (eqb (length m2) (messages2_length s.parameters s.runs)) Length behind in
    let size = length-passed (length m2) (messages2_length s.parameters s.runs) behind (rest-done s Begun rest e) in
    let whole = due-intact s Begun rest e record { begun = refl; still = refl } in
    omega (arith, size, messages2-most s.parameters (held-within s whole) s.runs (held-runs s whole).most)

pub response-passed : (s : Verifier) (m3 : List ℕ) → response_checks s m3 ≡ Ok tt → length m3 ≤ most_messages3
unfolding response_checks
response-passed s m3 e =
    let rest : Answer = check (eqb (length m3) (messages3_length s.runs)) Length (Ok tt) in
    let size = length-passed (length m3) (messages3_length s.runs) (Ok tt) (rest-done s Pointed rest e) in
    let few = (held-runs s (due-intact s Pointed rest e record { begun = refl; still = refl })).most in
    omega (arith, size, few)

pub leaf-passed : (s : Verifier) (is : List ℕ) → leaf_checks s is ≡ Ok tt → length is ≤ most_runs
unfolding leaf_checks
leaf-passed s is e =
    let behind : Answer = check (leaves_below s.parameters is) Leaf (Ok tt) in
    let rest : Answer = check (eqb (length is) s.runs) Length behind in
    let size = length-passed (length is) s.runs behind (rest-done s Responded rest e) in
    let few = (held-runs s (due-intact s Responded rest e record { begun = refl; still = refl })).most in
    omega (arith, size, few)

pub record Opened (s : Verifier) (m5 matrix y work : ℕ) : Type 0 where
  pub within : Within s.parameters
  pub counted : RunsWithin s.runs
  pub below : (e : ℕ) → e < length (held_leaves s) → get_or (held_leaves s) e 0 < leaves s.parameters
  pub size : m5 ≡ messages5_length s.parameters (held_leaves s)
  pub lent : Lent s.parameters matrix y work

module _ (hash : List ℕ → ℕ → List ℕ) (s : Verifier) (m5 : List ℕ) (key : Key) (work : List ℕ) where
  pub opening-passed : opening_checks hash s m5 key work ≡ Ok tt → Opened s (length m5) (length key.matrix) (length key.y) (length work)
  unfolding opening_checks lent
  opening-passed e =
      let five : Bool = eqb (length m5) (messages5_length s.parameters (held_leaves s)) in
      let others : Bool = lent s.parameters (length key.matrix) (length key.y) (length work) in
      let both = check-true (five && others) Length (Ok tt) (rest-done s Chosen (check (five && others) Length (Ok tt)) e) in
      let held = due-intact s Chosen (check (five && others) Length (Ok tt)) e record { begun = refl; still = refl } in
      record {
        within = held-within s held;
        counted = held-runs s held;
        below = held-leaves s held;
        size = eqb-true (length m5) (messages5_length s.parameters (held_leaves s)) (and_left five others both);
        lent = test-lent s.parameters (length key.matrix) (length key.y) (length work) (and_right five others both);
      }

module _ (hash : List ℕ → ℕ → List ℕ) (s : Verifier) (m5 : List ℕ) (key : Key) (work : List ℕ) (b : Answer) (e : b ≡ opening_checks hash s m5 key work) where
  pub refused-opening : (x : Answer) {r : Refusal} → b ≡ Err r → IsErrAnd x (λ y. y ≡ r)
      → record { answer = answer_number x; verifier = s; work = work } ≡ opening hash s m5 key work
  unfolding opening judge
  refused-opening x {r} q g =
      let f : x ≡ Err r = err-is x r g in rw (f, ← e, q)

  pub judged-opening : (a : Answer) (next : Verifier) (w : List ℕ) {u : ⊤} → a ≡ verdict hash s.parameters s.runs (held_transcript s m5) key → next ≡ ended s
      → w ≡ zeroed (work_length s.parameters) work → b ≡ Ok u → record { answer = answer_number a; verifier = next; work = w } ≡ opening hash s m5 key work
  unfolding opening judge
  judged-opening a next w x y z q = rw (← e, q, x, y, z)
