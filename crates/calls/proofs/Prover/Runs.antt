-- Runs of a prover's calls from a fresh session: which calls are carried out after which. h are the calls made before.
--
-- begin-carried, points-carried, leaf-carried   only then is it: points only as the first since the last begin, leaf only after it and once
-- begin-due-always, points-due-after-begin, leaf-due-after-points   then it is
-- points-after-begin, leaf-after-points   so right after a begin carried out points is carried out, and then leaf
-- repeated-exactly               13 exactly where all other checks pass, and salt and root are those of the last begin carried out
-- begin-between                  between two openings there is a begin with another salt or root
use Rattle.std.specs.Prelude.{◌≡◌, Bool, true, false, ◌&&◌, ◌||◌, cond, ◌↔◌, ◌⊎◌, ℕ, eqb, leb}
use Rattle.std.proofs.Math.Path.{refl, ap}
use Rattle.std.proofs.Common.{sym, ◌∙◌, true≢false, arith}
use Rattle.std.proofs.Math.Bool.{not, or-true}
use Rattle.std.proofs.lemmas.Bool.{false≢true}
use mathlib.Core.List.{List, [], ◌∷◌, ◌++◌}
use Rattle.std.proofs.Math.Option.{Option, none, some}
use Rattle.std.proofs.Math.Logic.{inl, inr}
use Rattle.std.proofs.Math.Decide.{ℕ_discrete}
use borrow.Author.Tests.{not-false, le-leb, eq-eqb, ne_eqb}
use Rattle.lists.specs.Checks.{all_true}
use Rattle.lists.specs.Checks.Laws.{and_left, and_right}
use Rattle.lists.specs.Equal.{eq_list}
use Rattle.lists.specs.Equal.Laws.{eq_list-true, eq_list-of}
use Rattle.answers.specs.Order.{holds, first_of, answer_of}
use Rattle.parameters.specs.Limits.{within_limits}
use Rattle.parameters.specs.Limits.Laws.{within-test}
use Rattle.relation.specs.Key.{weight_of}
use Rattle.layout.specs.Runs.{runs_within}
use Rattle.layout.specs.Runs.Laws.{within-runs}
use Rattle.exchange.specs.Values.{Key}
use Rattle.runs.specs.Points.{distinct_points}
use Rattle.calls.specs.Lengths.{begin_lengths, points_lengths, leaf_lengths, leaves_below}
use Rattle.calls.specs.Held.{is_some, told}
use Rattle.calls.specs.Prover.History.{Begin, Call, begin_call, points_call, leaf_call, Made, outcome, after, made, begin_in, begun, pointed, opened, last_begin, points_since, leaf_since, secret_of, repeats, conditions}
use Rattle.calls.specs.Prover.Checked.{Allowed}
use Rattle.calls.proofs.Prover.Checked.{allowed-by, begin-by, points-by, leaf-by}
use Rattle.calls.proofs.Prover.Told.{number-told}
use Rattle.calls.specs.Prover.Runs.{Same, BeginDue, Repeats, PointsDue, LeafDue, Between}

-- ---- by the order

begin-of : (d : Bool) → answer_of ((1, false) ∷ (2, false) ∷ (3, false) ∷ (13, d) ∷ []) ≡ cond d 13 0
unfolding answer_of first_of holds
begin-of true = refl
begin-of false = refl

points-of : answer_of ((12, false) ∷ (11, false) ∷ (2, false) ∷ (14, false) ∷ []) ≡ 0
unfolding answer_of first_of holds
points-of = refl

leaf-of : answer_of ((12, false) ∷ (11, false) ∷ (2, false) ∷ (4, false) ∷ []) ≡ 0
unfolding answer_of first_of holds
leaf-of = refl

unstarted-not-0 : (a : Bool) → answer_of ((12, a) ∷ (11, true) ∷ []) ≡ 0 → ⊥
unfolding answer_of first_of holds
unstarted-not-0 true q = omega arith
unstarted-not-0 false q = omega arith

-- ---- begin

repeats-true : (o : Option Begin) (b : Begin) → repeats o b.salt b.root ≡ true → (held : Begin) × (o ≡ some held) × Same b held
unfolding repeats
repeats-true none b e = absurd (false≢true e)
repeats-true (some held) b e =
    let salts = eq_list b.salt held.salt in
    let roots = eq_list b.root held.root in
    (held, refl, (eq_list-true b.salt held.salt (and_left salts roots e), eq_list-true b.root held.root (and_right salts roots e)))

repeats-of : (o : Option Begin) (b held : Begin) → o ≡ some held → Same b held → repeats o b.salt b.root ≡ true
unfolding repeats
repeats-of o b held e same = rw (e, eq_list-of b.salt held.salt same.0, eq_list-of b.root held.root same.1)

repeats-not : (o : Option Begin) (b : Begin) → ((held : Begin) → o ≡ some held → Same b held → ⊥) → repeats o b.salt b.root ≡ false
repeats-not o b other = go (repeats o b.salt b.root) refl
  where
    go : (t : Bool) → repeats o b.salt b.root ≡ t → t ≡ false
    go true e = let q = repeats-true o b e in absurd (other q.0 q.1 q.2)
    go false e = refl

module _ (hash : List ℕ → ℕ → List ℕ) (cs : List Call) where
  module _ (b : Begin) (work out : List ℕ) where
    abbrev c : Call
    c = begin_call b work out

    abbrev o : Option Begin
    o = last_begin (made hash cs)

    begin-tests : (e : Bool) → (outcome hash (after hash cs) c).answer ≡ cond e 13 0
        → (not (within_limits b.parameters && runs_within b.runs) ≡ false)
        × (not (all_true (begin_lengths b.parameters b.runs b.x_a b.salt b.root b.key work out)) ≡ false)
        × (not (leb (weight_of (secret_of b)) b.parameters.w) ≡ false)
        × (repeats o b.salt b.root ≡ e)
    unfolding conditions
    begin-tests e q = begin-by _ _ _ _ e (sym (number-told hash cs c) ∙ q)

    allowed : (e : Bool) → (outcome hash (after hash cs) c).answer ≡ cond e 13 0 → Allowed b work out
    allowed e q = let t = begin-tests e q in allowed-by b work out t.0 t.1 t.2

    begin-number : (e : Bool) → Allowed b work out → repeats o b.salt b.root ≡ e → (outcome hash (after hash cs) c).answer ≡ cond e 13 0
    unfolding conditions
    begin-number e ok q =
        number-told hash cs c
        ∙ rw (
          within-test b.parameters ok.within,
          within-runs b.runs ok.counted,
          ok.sized,
          le-leb (weight_of (secret_of b)) b.parameters.w ok.light,
          q,
        ) (begin-of e)

    pub repeated-exactly : ((outcome hash (after hash cs) (begin_call b work out)).answer ≡ 13) ↔ Repeats (made hash cs) b work out
    repeated-exactly = (to, λ r. begin-number true r.allowed (repeats-of o b r.held r.is_held r.same))
      where
        to : (outcome hash (after hash cs) c).answer ≡ 13 → Repeats (made hash cs) b work out
        to e =
            let q = repeats-true o b (begin-tests true e).3 in
            record { allowed = allowed true e; held = q.0; is_held = q.1; same = q.2 }

    pub begin-carried : (outcome hash (after hash cs) (begin_call b work out)).answer ≡ 0 → BeginDue (made hash cs) b work out
    begin-carried e = record {
      allowed = allowed false e;
      other = λ held is_held same. true≢false (sym (repeats-of o b held is_held same) ∙ (begin-tests false e).3);
    }

    pub begin-due-always : BeginDue (made hash cs) b work out → (outcome hash (after hash cs) (begin_call b work out)).answer ≡ 0
    begin-due-always d = begin-number false d.allowed (repeats-not o b d.other)

-- ---- points and leaf

is_none : (q : Option (List ℕ)) → is_some q ≡ false → q ≡ none
is_none none e = refl
is_none (some m2) e = absurd (true≢false e)

is-some : (q : Option (List ℕ)) → not (is_some q) ≡ false → (m2 : List ℕ) × (q ≡ some m2)
is-some none e = absurd (true≢false e)
is-some (some m2) e = (m2, refl)

module _ (hash : List ℕ → ℕ → List ℕ) (cs : List Call) where
  abbrev h : List Made
  h = made hash cs

  module _ (m2 : List ℕ) (key : Key) (work out : List ℕ) where
    pub points-carried : (outcome hash (after hash cs) (points_call m2 key work out)).answer ≡ 0 → PointsDue (made hash cs) m2 key work out
    unfolding conditions
    points-carried e = go (last_begin h) refl (sym (number-told hash cs (points_call m2 key work out)) ∙ e)
      where
        go : (o : Option Begin) → last_begin h ≡ o
            → answer_of ((12, leaf_since h) ∷ (11, not (is_some o) || is_some (points_since h))
            ∷ told o []
            (λ b. (2, not (all_true (points_lengths b.parameters b.runs m2 key work out))) ∷ (14, not (distinct_points b.parameters b.runs m2)) ∷ []))
            ≡ 0 → PointsDue h m2 key work out
        go none same q = absurd (unstarted-not-0 (leaf_since h) q)
        go (some b) same q =
            let t = points-by _ _ _ _ q in
            record { held = b; is_held = same; first = is_none _ t.1; unopened = t.0; sized = not-false _ t.2; distinct = not-false _ t.3 }

    pub points-due-after-begin : PointsDue (made hash cs) m2 key work out → (outcome hash (after hash cs) (points_call m2 key work out)).answer ≡ 0
    unfolding conditions
    points-due-after-begin d =
        number-told hash cs (points_call m2 key work out) ∙ rw (d.unopened, d.is_held, d.first, d.sized, d.distinct) points-of

  module _ (is : List ℕ) (key : Key) (work out : List ℕ) where
    pub leaf-carried : (outcome hash (after hash cs) (leaf_call is key work out)).answer ≡ 0 → LeafDue (made hash cs) is key work out
    unfolding conditions
    leaf-carried e = go (last_begin h) refl (sym (number-told hash cs (leaf_call is key work out)) ∙ e)
      where
        go : (o : Option Begin) → last_begin h ≡ o
            → answer_of ((12, leaf_since h) ∷ (11, not (is_some o) || not (is_some (points_since h)))
            ∷ told o []
            (λ b. (2, not (all_true (leaf_lengths b.parameters b.runs is key work out))) ∷ (4, not (leaves_below b.parameters is)) ∷ [])) ≡ 0
            → LeafDue h is key work out
        go none same q = absurd (unstarted-not-0 (leaf_since h) q)
        go (some b) same q =
            let t = leaf-by _ _ _ _ q in
            let m = is-some (points_since h) t.1 in
            record {
              held = b;
              is_held = same;
              message2 = m.0;
              pointed = m.1;
              unopened = t.0;
              sized = not-false _ t.2;
              below = not-false _ t.3;
            }

    pub leaf-due-after-points : LeafDue (made hash cs) is key work out → (outcome hash (after hash cs) (leaf_call is key work out)).answer ≡ 0
    unfolding conditions
    leaf-due-after-points d =
        number-told hash cs (leaf_call is key work out)
        ∙ rw (d.unopened, d.is_held, d.pointed, d.sized, d.below) leaf-of

-- ---- one after the other

begin-adds : (h : List Made) (b : Begin) (work out : List ℕ) (n : ℕ) → n ≡ 0
    → let h' : List Made = record { call = begin_call b work out; number = n } ∷ h in
    (last_begin h' ≡ some b) × (points_since h' ≡ none) × (leaf_since h' ≡ false)
unfolding begun pointed opened last_begin points_since leaf_since
begin-adds h b work out n e = rw (eq-eqb n 0 e) (refl, refl, refl)

points-adds : (h : List Made) (m2 : List ℕ) (key : Key) (work out : List ℕ) (n : ℕ) → n ≡ 0
    → let h' : List Made = record { call = points_call m2 key work out; number = n } ∷ h in
    (last_begin h' ≡ last_begin h) × (points_since h' ≡ some m2) × (leaf_since h' ≡ leaf_since h)
unfolding begun pointed opened last_begin points_since leaf_since
points-adds h m2 key work out n e = rw (eq-eqb n 0 e) (refl, refl, refl)

leaf-adds : (h : List Made) (is : List ℕ) (key : Key) (work out : List ℕ) (n : ℕ) → n ≡ 0
    → let h' : List Made = record { call = leaf_call is key work out; number = n } ∷ h in (last_begin h' ≡ last_begin h) × (leaf_since h' ≡ true)
unfolding begun pointed opened last_begin leaf_since
leaf-adds h is key work out n e = rw (eq-eqb n 0 e) (refl, refl)

module _ (hash : List ℕ → ℕ → List ℕ) (cs : List Call) where
  pub points-after-begin : (b : Begin) (work out : List ℕ) → (outcome hash (after hash cs) (begin_call b work out)).answer ≡ 0
      → (m2 : List ℕ) (key : Key) (work' out' : List ℕ) → all_true (points_lengths b.parameters b.runs m2 key work' out') ≡ true
      → distinct_points b.parameters b.runs m2 ≡ true
      → (outcome hash (after hash (begin_call b work out ∷ cs)) (points_call m2 key work' out')).answer ≡ 0
  unfolding made
  points-after-begin b work out e m2 key work' out' sized distinct =
      let told = begin-adds (made hash cs) b work out _ e in
      points-due-after-begin hash (begin_call b work out ∷ cs) m2 key work' out'
      (record { held = b; is_held = told.0; first = told.1; unopened = told.2; sized = sized; distinct = distinct })

  pub leaf-after-points : (m2 : List ℕ) (key : Key) (work out : List ℕ) → (outcome hash (after hash cs) (points_call m2 key work out)).answer ≡ 0
      → (b : Begin) → last_begin (made hash cs) ≡ some b
      → (is : List ℕ) (key' : Key) (work' out' : List ℕ) → all_true (leaf_lengths b.parameters b.runs is key' work' out') ≡ true
      → leaves_below b.parameters is ≡ true
      → (outcome hash (after hash (points_call m2 key work out ∷ cs)) (leaf_call is key' work' out')).answer ≡ 0
  unfolding made
  leaf-after-points m2 key work out e b last is key' work' out' sized below =
      let told = points-adds (made hash cs) m2 key work out _ e in
      leaf-due-after-points hash (points_call m2 key work out ∷ cs) is key' work' out'
      (record {
        held = b;
        is_held = told.0 ∙ last;
        message2 = m2;
        pointed = told.1;
        unopened = told.2 ∙ (points-carried hash cs m2 key work out e).unopened;
        sized = sized;
        below = below;
      })

-- ---- between two openings

-- of the calls `later` that follow the call `opening` one is a begin, carried out when its turn comes, with another salt or root than those
-- of the exchange that was opened; those of `later` that come before it are `older`, those after it `newer`
stays : (m : Made) (h : List Made) → begun m ≡ none → leaf_since h ≡ true → (last_begin (m ∷ h) ≡ last_begin h) × (leaf_since (m ∷ h) ≡ true)
unfolding last_begin leaf_since
stays m h e l = (rw e, rw (e, l) (or-true (opened m)))

not-begun : (c : Call) (n : ℕ) → (n ≡ 0 → ⊥) → begun (record { call = c; number = n }) ≡ none
unfolding begun
not-begun c n e = rw (ne_eqb n 0 e)

no-begin : (c : Call) (n : ℕ) → begin_in c ≡ none → begun (record { call = c; number = n }) ≡ none
unfolding begun
no-begin c n e = go (eqb n 0)
  where
    go : (t : Bool) → cond t (begin_in c) none ≡ none
    go true = e
    go false = refl

module _ (hash : List ℕ → ℕ → List ℕ) (earlier : List Call) (is : List ℕ) (key : Key) (work out : List ℕ) where
  abbrev opening : Call
  opening = leaf_call is key work out

  module _ (e : (outcome hash (after hash earlier) opening).answer ≡ 0) where
    -- no begin was carried out since the opening: it is still the last begin's, and it was opened
    abbrev Still : List Call → Type 0
    Still later =
        (last_begin (made hash (later ++ (opening ∷ earlier))) ≡ last_begin (made hash earlier)) × (leaf_since (made hash (later ++ (opening ∷ earlier))) ≡ true)

    keeps : (c : Call) (later : List Call) → Still later
        → begun (record { call = c; number = (outcome hash (after hash (later ++ (opening ∷ earlier))) c).answer }) ≡ none → Still (c ∷ later)
    unfolding made
    keeps c later still z = let t = stays _ (made hash (later ++ (opening ∷ earlier))) z still.1 in (t.0 ∙ still.0, t.1)

    further : (c : Call) (later : List Call) → Still later → Between hash earlier opening (c ∷ later) ⊎ Still (c ∷ later)
    further (begin_call b work' out') later still = go (ℕ_discrete (outcome hash (after hash (later ++ (opening ∷ earlier))) (begin_call b work' out')).answer 0)
      where
        go : Dec ((outcome hash (after hash (later ++ (opening ∷ earlier))) (begin_call b work' out')).answer ≡ 0)
            → Between hash earlier opening (begin_call b work' out' ∷ later) ⊎ Still (begin_call b work' out' ∷ later)
        go (yes z) =
            let was = leaf-carried hash earlier is key work out e in
            inl (record {
              held = was.held;
              is_held = was.is_held;
              newer = [];
              older = later;
              start = b;
              work = work';
              out = out';
              among = refl;
              carried = z;
              other = (begin-carried hash (later ++ (opening ∷ earlier)) b work' out' z).other was.held (still.0 ∙ was.is_held);
            })
        go (no z) = inr (keeps (begin_call b work' out') later still (not-begun (begin_call b work' out') _ z))
    further (points_call m2 key' work' out') later still = inr (keeps (points_call m2 key' work' out') later still (no-begin (points_call m2 key' work' out') _ refl))
    further (leaf_call is' key' work' out') later still = inr (keeps (leaf_call is' key' work' out') later still (no-begin (leaf_call is' key' work' out') _ refl))

    so_far : (later : List Call) → Between hash earlier opening later ⊎ Still later
    unfolding made
    so_far [] = inr (leaf-adds (made hash earlier) is key work out _ e)
    so_far (c ∷ later) = go (so_far later)
      where
        go : Between hash earlier opening later ⊎ Still later → Between hash earlier opening (c ∷ later) ⊎ Still (c ∷ later)
        go (inl b) = inl (record {
          held = b.held;
          is_held = b.is_held;
          newer = c ∷ b.newer;
          older = b.older;
          start = b.start;
          work = b.work;
          out = b.out;
          among = ap (◌∷◌ c) b.among;
          carried = b.carried;
          other = b.other;
        })
        go (inr still) = further c later still

    pub begin-between : (later : List Call) (is' : List ℕ) (key' : Key) (work' out' : List ℕ)
        → (outcome hash (after hash (later ++ (opening ∷ earlier))) (leaf_call is' key' work' out')).answer ≡ 0 → Between hash earlier opening later
    begin-between later is' key' work' out' e' = go (so_far later)
      where
        go : Between hash earlier opening later ⊎ Still later → Between hash earlier opening later
        go (inl b) = b
        go (inr still) =
            absurd (true≢false (sym still.1 ∙ (leaf-carried hash (later ++ (opening ∷ earlier)) is' key' work' out' e').unopened))
