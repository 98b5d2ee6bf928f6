-- Demand 1 at SHAKE256: 'A call that passes document 01's checks is carried out and ends, with at most one response and one opening between
-- two starts of a prover's exchange. Every other call gets the one number that the order of checks sets, and leaves session, output and work
-- area as document 01 lays down.' That each method is its call's function on values, and ends, is the contracts of the methods.
--
-- ByTheOrder    an answer by the order is the first number of the one list (document 01's, 6 left out) whose condition holds, 0 exactly when none does
-- Prover        the prover's calls, after any calls from a fresh session and told by these calls; what is left to them; and of any session
-- Verifier      the verifier's calls likewise
-- Extractor     the extractor's call
-- Demand1       all of it
use Rattle.std.specs.Prelude.{◌≡◌, true, false, List, ◌++◌, ◌∷◌, ◌↔◌, ℕ, ◌≤◌, eqb}
use Rattle.lists.specs.Zeroed.{zeroed}
use Rattle.shake256.specs.Fips.{SHAKE256}
use Rattle.answers.specs.Order.{Conditions, order, holds, answer_of}
use Rattle.answers.specs.Order.Laws.{none_of, First}
use Rattle.parameters.specs.declared.Parameters.{Parameters}
use Rattle.layout.specs.Layout.{work_length}
use Rattle.exchange.specs.Values.{Key}
use Rattle.runs.specs.Opening.{Transcript}
use Rattle.calls.specs.Held.{is_some}
use Rattle.calls.specs.Judging.{judged}
use Rattle.calls.specs.Prover as prover
use Rattle.calls.specs.Prover.History as prover_history
use Rattle.calls.specs.Prover.Checked as prover_checked
use Rattle.calls.specs.Prover.Runs as prover_runs
use Rattle.calls.specs.Prover.AnySession as prover_any
use Rattle.calls.specs.Verifier as verifier
use Rattle.calls.specs.Verifier.History as verifier_history
use Rattle.calls.specs.Verifier.Since.{counted}
use Rattle.calls.specs.Extractor as extractor
use Rattle.calls.specs.Extractor.Expected as extractor_expected

pub record ByTheOrder : Type 0 where
  pub carried-out : (cs : Conditions) → answer_of cs ≡ 0 ↔ none_of order (holds cs) ≡ true
  pub first : (cs : Conditions) → (answer_of cs ≡ 0 → ⊥) → First order (holds cs) (answer_of cs)

pub record Prover (hash : List ℕ → ℕ → List ℕ) : Type 0 where
  -- number, output and work area of every call
  pub told : (cs : List prover_history.Call) (c : prover_history.Call)
      → prover_history.seen (prover_history.outcome hash (prover_history.after hash cs) c) ≡ prover_history.expected hash (prover_history.made hash cs) c
  -- a refused call changes nothing, on any session
  pub refused : (s : prover.Prover) (c : prover_history.Call) → ((prover_history.outcome hash s c).answer ≡ 0 → ⊥)
      → prover_history.outcome hash s c
      ≡ record { answer = (prover_history.outcome hash s c).answer; prover = s; out = prover_history.lent_out c; work = prover_history.lent_work c }
  -- 'at most one response and one opening between two starts': from any session, and for any calls among which no begin is carried out
  pub one-response-and-one-opening : (s : prover.Prover) (cs : List prover_history.Call) → prover_any.carried_in hash prover_any.is_begin s cs ≡ 0
      → (prover_any.carried_in hash prover_any.is_points s cs ≤ 1) × (prover_any.carried_in hash prover_any.is_leaf s cs ≤ 1)
  -- points is carried out only as the first since the last begin, and then it is; leaf only after it and once, and then it is
  pub points : (cs : List prover_history.Call) (m2 : List ℕ) (key : Key) (work out : List ℕ)
      → ((prover_history.outcome hash (prover_history.after hash cs) (prover_history.points_call m2 key work out)).answer ≡ 0)
      ↔ prover_runs.PointsDue (prover_history.made hash cs) m2 key work out
  pub leaf : (cs : List prover_history.Call) (is : List ℕ) (key : Key) (work out : List ℕ)
      → ((prover_history.outcome hash (prover_history.after hash cs) (prover_history.leaf_call is key work out)).answer ≡ 0)
      ↔ prover_runs.LeafDue (prover_history.made hash cs) is key work out
  -- begin is carried out exactly where 1, 2 and 3 pass and salt and root are not both those of the last begin; 13 exactly where they are
  pub begin : (cs : List prover_history.Call) (b : prover_history.Begin) (work out : List ℕ)
      → ((prover_history.outcome hash (prover_history.after hash cs) (prover_history.begin_call b work out)).answer ≡ 0)
      ↔ prover_runs.BeginDue (prover_history.made hash cs) b work out
  pub repeated : (cs : List prover_history.Call) (b : prover_history.Begin) (work out : List ℕ)
      → ((prover_history.outcome hash (prover_history.after hash cs) (prover_history.begin_call b work out)).answer ≡ 13)
      ↔ prover_runs.Repeats (prover_history.made hash cs) b work out
  -- between two openings there is a begin with another salt or root
  pub begin-between : (earlier : List prover_history.Call) (is : List ℕ) (key : Key) (work out : List ℕ)
      → (prover_history.outcome hash (prover_history.after hash earlier) (prover_history.leaf_call is key work out)).answer ≡ 0
      → (later : List prover_history.Call) (is' : List ℕ) (key' : Key) (work' out' : List ℕ)
      → (prover_history.outcome hash (prover_history.after hash (later ++ (prover_history.leaf_call is key work out ∷ earlier)))
      (prover_history.leaf_call is' key' work' out')).answer ≡ 0
      → prover_runs.Between hash earlier (prover_history.leaf_call is key work out) later
  -- 'Begin is due always', on any session
  pub begin-due : (s : prover.Prover) (b : prover_history.Begin) (work out : List ℕ)
      → ((prover_history.outcome hash s (prover_history.begin_call b work out)).answer ≡ 11 → ⊥)
      × ((prover_history.outcome hash s (prover_history.begin_call b work out)).answer ≡ 12 → ⊥)
  -- in a session that calls lead to, the guard changes nothing; a damaged one stays shut
  pub guard-idle : (cs : List prover_history.Call) → prover.standing (prover_history.after hash cs) ≡ (prover_history.after hash cs).phase
  pub damaged-closed : (s : prover.Prover) → prover.is_fresh s.phase ≡ false → prover.intact s ≡ false
      → (c : prover_history.Call) → prover_any.is_begin c ≡ false → (prover_history.outcome hash s c).answer ≡ 12
  pub damaged-repeats : (s : prover.Prover) → prover.is_fresh s.phase ≡ false
      → (b : prover_history.Begin) (work out : List ℕ) → prover_checked.Allowed b work out → b.salt ≡ s.salt → b.root ≡ s.root
      → (prover_history.outcome hash s (prover_history.begin_call b work out)).answer ≡ 13

pub record Verifier (hash : List ℕ → ℕ → List ℕ) : Type 0 where
  -- number and work area of every call
  pub told : (cs : List verifier_history.Call) (c : verifier_history.Call)
      → verifier_history.seen (verifier_history.outcome hash (verifier_history.after hash cs) c) ≡ verifier_history.expected hash (verifier_history.made hash cs) c
  -- a call that is neither carried out nor a judged opening changes nothing, on any session
  pub refused : (s : verifier.Verifier) (c : verifier_history.Call)
      → counted (record { call = c; number = (verifier_history.outcome hash s c).answer }) ≡ false
      → ((verifier_history.outcome hash s c).verifier ≡ s) × ((verifier_history.outcome hash s c).work ≡ verifier_history.lent_work c)
  -- 'opening (closes with accepted, 5, 6 or 7)'; 'Closing changes nothing else that a session holds'
  pub closes : (s : verifier.Verifier) (m5 : List ℕ) (key : Key) (work : List ℕ)
      → judged (verifier_history.outcome hash s (verifier_history.opening_call m5 key work)).answer ≡ true
      → ((verifier_history.outcome hash s (verifier_history.opening_call m5 key work)).verifier ≡ verifier.ended s)
      × ((verifier_history.outcome hash s (verifier_history.opening_call m5 key work)).work ≡ zeroed (work_length s.parameters) work)
  pub begin-due : (s : verifier.Verifier) (b : verifier_history.Begin)
      → ((verifier_history.outcome hash s (verifier_history.begin_call b)).answer ≡ 11 → ⊥)
      × ((verifier_history.outcome hash s (verifier_history.begin_call b)).answer ≡ 12 → ⊥)
  pub guard-idle : (cs : List verifier_history.Call) → verifier.standing (verifier_history.after hash cs) ≡ (verifier_history.after hash cs).phase
  pub damaged-closed : (s : verifier.Verifier) → eqb (verifier.step s.phase) 0 ≡ false → verifier.intact s ≡ false
      → (c : verifier_history.Call) → is_some (verifier_history.begin_in c) ≡ false → (verifier_history.outcome hash s c).answer ≡ 12

pub record Extractor (hash : List ℕ → ℕ → List ℕ) : Type 0 where
  -- answer, output and work area
  pub told : (p : Parameters) (runs : ℕ) (t t' : Transcript) (key : Key) (work out : List ℕ)
      → extractor.extraction hash p runs t t' key work out ≡ extractor_expected.expected hash p runs t t' key work out
  pub number : (p : Parameters) (runs : ℕ) (t t' : Transcript) (key : Key) (work out : List ℕ)
      → extractor.number_of (extractor.extraction hash p runs t t' key work out).answer ≡ extractor_expected.expected_number hash p runs t t' key work out

pub record Demand1 : Type 0 where
  pub by-the-order : ByTheOrder
  pub prover : Prover SHAKE256
  pub verifier : Verifier SHAKE256
  pub extractor : Extractor SHAKE256
