-- Runs of a prover's calls from a fresh session: when a call is due. h are the calls made before.
--
-- Same b b'                      the same salt and root
-- BeginDue, PointsDue, LeafDue   what must hold of h and the call for the call to be carried out
-- Repeats                        all other checks pass, and salt and root are those of the last begin carried out
-- Between                        between two openings there is a begin with another salt or root
use Rattle.std.specs.Prelude.{◌≡◌, true, false, ℕ}
use mathlib.Core.List.{List, ◌∷◌, ◌++◌}
use Rattle.std.proofs.Math.Option.{none, some}
use Rattle.lists.specs.Checks.{all_true}
use Rattle.exchange.specs.Values.{Key}
use Rattle.runs.specs.Points.{distinct_points}
use Rattle.calls.specs.Lengths.{points_lengths, leaf_lengths, leaves_below}
use Rattle.calls.specs.Prover.History.{Begin, Call, begin_call, Made, outcome, after, made, last_begin, points_since, leaf_since}
use Rattle.calls.specs.Prover.Checked.{Allowed}

-- ---- what must hold

abbrev pub Same : Begin → Begin → Type 0
Same b b' = (b.salt ≡ b'.salt) × (b.root ≡ b'.root)

pub record BeginDue (h : List Made) (b : Begin) (work out : List ℕ) : Type 0 where
  pub allowed : Allowed b work out
  pub other : (held : Begin) → last_begin h ≡ some held → Same b held → ⊥

pub record Repeats (h : List Made) (b : Begin) (work out : List ℕ) : Type 0 where
  pub allowed : Allowed b work out
  pub held : Begin
  pub is_held : last_begin h ≡ some held
  pub same : Same b held

pub record PointsDue (h : List Made) (m2 : List ℕ) (key : Key) (work out : List ℕ) : Type 0 where
  pub held : Begin
  pub is_held : last_begin h ≡ some held
  pub first : points_since h ≡ none
  pub unopened : leaf_since h ≡ false
  pub sized : all_true (points_lengths held.parameters held.runs m2 key work out) ≡ true
  pub distinct : distinct_points held.parameters held.runs m2 ≡ true

pub record LeafDue (h : List Made) (is : List ℕ) (key : Key) (work out : List ℕ) : Type 0 where
  pub held : Begin
  pub is_held : last_begin h ≡ some held
  pub message2 : List ℕ
  pub pointed : points_since h ≡ some message2
  pub unopened : leaf_since h ≡ false
  pub sized : all_true (leaf_lengths held.parameters held.runs is key work out) ≡ true
  pub below : leaves_below held.parameters is ≡ true

-- ---- between two openings

-- of the calls `later` that follow the call `opening` one is a begin, carried out when its turn comes, with another salt or root than those
-- of the exchange that was opened; those of `later` that come before it are `older`, those after it `newer`
pub record Between (hash : List ℕ → ℕ → List ℕ) (earlier : List Call) (opening : Call) (later : List Call) : Type 0 where
  pub held : Begin
  pub is_held : last_begin (made hash earlier) ≡ some held
  pub newer : List Call
  pub older : List Call
  pub start : Begin
  pub work : List ℕ
  pub out : List ℕ
  pub among : later ≡ newer ++ (begin_call start work out ∷ older)
  pub carried : (outcome hash (after hash (older ++ (opening ∷ earlier))) (begin_call start work out)).answer ≡ 0
  pub other : Same start held → ⊥
