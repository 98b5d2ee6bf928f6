-- The checks before 5.
--
-- all_lengths              all lengths are right
-- sized2                  they are: messages 2 have theirs
-- below p is              all hidden leaves are below n
-- early-is                the call's checks before 5, over these
-- Sent p runs t           the messages of an exchange have their lengths
-- Early                   what is known where the checks before 5 pass
-- early-passed            they pass: it is known
use Rattle.std.specs.Prelude.{◌≡◌, refl, true, false, ◌&&◌, ℕ, zero, suc, ◌<◌, length, Ok}
use Rattle.std.proofs.Math.Path.{sym, ap}
use Rattle.std.proofs.Common.{◌∙◌, arith}
use Rattle.std.proofs.Math.Bool.{Bool, not, and-true}
use mathlib.Core.List.{List, [], ◌∷◌, ◌++◌, map}
use Rattle.std.proofs.Math.Dec.{eqb, ltb}
use borrow.Author.Tests.{eqb-true, ltb-true, not-true}
use Rattle.lists.specs.Checks.{all_true}
use Rattle.lists.specs.Checks.Laws.{all-at, and_left, and_right}
use Rattle.lists.specs.Equal.{eq_list}
use Rattle.lists.specs.Equal.Laws.{eq_list-true, eq_list-false}
use Rattle.answers.specs.declared.Refusal.TheVariants.{Parameter, Length, Leaf, Exchange as Differs, SameLeaf, SamePoint}
use Rattle.answers.specs.Checks.{checks}
use Rattle.answers.specs.Checks.Laws.{check-true, check-rest}
use Rattle.parameters.specs.declared.Parameters.{Parameters}
use Rattle.parameters.specs.Limits.{within_limits, Within}
use Rattle.parameters.specs.Limits.Laws.{test-within}
use Rattle.layout.specs.Layout.{leaves}
use Rattle.layout.specs.Runs.{runs_within, message1_length, messages2_length, messages3_length, messages5_length, outputs_length}
use Rattle.layout.specs.Runs.Laws.{RunsWithin, runs-within}
use Rattle.exchange.specs.Values.{Key}
use Rattle.layout.specs.Lent.{lent_tests, lent}
use Rattle.layout.specs.Lent as layout
use Rattle.layout.specs.Lent.Laws.{test-lent}
use Rattle.runs.specs.Messages.{leaf_at}
use Rattle.runs.specs.Opening.{Transcript}
use Rattle.runs.specs.Points.{distinct_points}
use Rattle.calls.specs.Lengths.{leaves_below}
use Rattle.calls.specs.Extractor.{message_lengths, extract_lengths, both_distinct, same_statement, early_checks}

unfoldable pub all_lengths : Parameters → ℕ → Transcript → Transcript → Key → List ℕ → List ℕ → Bool
all_lengths p runs t t' key work out =
    all_true (message_lengths p runs t)
    && (all_true (message_lengths p runs t')
    && (lent p (length key.matrix) (length key.y) (length work) && eqb (length out) (outputs_length p runs)))

abbrev pub below : Parameters → List ℕ → Bool
below p is = all_true (map (λ i. ltb i (leaves p)) is)

pub sized2 : (p : Parameters) (runs : ℕ) (t t' : Transcript) (key : Key) (work out : List ℕ) → all_lengths p runs t t' key work out ≡ true
    → (length t.message2 ≡ messages2_length p runs) × (length t'.message2 ≡ messages2_length p runs)
unfolding all_lengths
sized2 p runs t t' key work out h =
    let ts : List Bool = message_lengths p runs t in
    let ts' : List Bool = message_lengths p runs t' in
    let both = and_right (all_true ts) _ h in (
      eqb-true (length t.message2) (messages2_length p runs) (all-at ts (and_left (all_true ts) _ h) 1),
      eqb-true (length t'.message2) (messages2_length p runs) (all-at ts' (and_left (all_true ts') _ both) 1),
    )

-- ---- the call's checks

all_append : (xs ys : List Bool) → all_true (xs ++ ys) ≡ (all_true xs && all_true ys)
all_append [] ys = refl
all_append (true ∷ xs) ys = all_append xs ys
all_append (false ∷ xs) ys = refl

below_each : (n : ℕ) (is : List ℕ) → all_true (map (λ i. ltb i n) is) ≡ true → (e : ℕ) → e < length is → leaf_at is e < n
below_each n [] h e l = absurd (omega arith)
below_each n (i ∷ is) h zero l = ltb-true i n (and_left (ltb i n) _ h)
below_each n (i ∷ is) h (suc e) l = below_each n is (and_right (ltb i n) _ h) e (omega arith)

pub record Sent (p : Parameters) (runs : ℕ) (t : Transcript) : Type 0 where
  pub size1 : length t.message1 ≡ message1_length runs
  pub size2 : length t.message2 ≡ messages2_length p runs
  pub size3 : length t.message3 ≡ messages3_length runs
  pub size4 : length t.leaves ≡ runs
  pub size5 : length t.message5 ≡ messages5_length p t.leaves

sent : (p : Parameters) (runs : ℕ) (t : Transcript) → all_true (message_lengths p runs t) ≡ true → Sent p runs t
sent p runs t e =
    let so = all-at (message_lengths p runs t) e in
    record {
      size1 = eqb-true (length t.message1) (message1_length runs) (so 0);
      size2 = eqb-true (length t.message2) (messages2_length p runs) (so 1);
      size3 = eqb-true (length t.message3) (messages3_length runs) (so 2);
      size4 = eqb-true (length t.leaves) runs (so 3);
      size5 = eqb-true (length t.message5) (messages5_length p t.leaves) (so 4);
    }

module _ (hash : List ℕ → ℕ → List ℕ) (p : Parameters) (runs : ℕ) (t t' : Transcript) (key : Key) (work out : List ℕ) where
  lengths-are : all_true (extract_lengths hash p runs t t' key work out) ≡ all_lengths p runs t t' key work out
  unfolding extract_lengths all_lengths lent
  lengths-are =
      let ls : List Bool = lent_tests p (length key.matrix) (length key.y) (length work) in
      let o : Bool = eqb (length out) (outputs_length p runs) in
      all_append (message_lengths p runs t) (message_lengths p runs t' ++ (ls ++ (o ∷ [])))
      ∙ ap (λ (b : Bool). all_true (message_lengths p runs t) && b)
      (all_append (message_lengths p runs t') (ls ++ (o ∷ []))
      ∙ ap (λ (b : Bool). all_true (message_lengths p runs t') && b) (all_append ls (o ∷ []) ∙ ap (λ (b : Bool). all_true ls && b) (and-true o)))

  -- the call's checks, over what the code tests
  pub early-is : early_checks hash p runs t t' key work out
      ≡ checks (
      (within_limits p && runs_within runs, Parameter)
      ∷ (all_lengths p runs t t' key work out, Length)
      ∷ (distinct_points p runs t.message2 && distinct_points p runs t'.message2, SamePoint)
      ∷ (below p t.leaves && below p t'.leaves, Leaf)
      ∷ (eq_list t.message1 t'.message1 && (eq_list t.message2 t'.message2 && eq_list t.message3 t'.message3), Differs)
      ∷ (not (eq_list t.leaves t'.leaves), SameLeaf)
      ∷ []
      )
  unfolding early_checks both_distinct same_statement leaves_below
  early-is = rw lengths-are

  -- ---- what passed checks say

  pub record Early : Type 0 where
    pub passed : early_checks hash p runs t t' key work out ≡ Ok tt
    pub within : Within p
    pub count : RunsWithin runs
    pub first : Sent p runs t
    pub second : Sent p runs t'
    pub lent : layout.Lent p (length key.matrix) (length key.y) (length work)
    pub room : length out ≡ outputs_length p runs
    pub below : (e : ℕ) → e < runs → leaf_at t.leaves e < leaves p
    pub below' : (e : ℕ) → e < runs → leaf_at t'.leaves e < leaves p
    pub message1 : t.message1 ≡ t'.message1
    pub message2 : t.message2 ≡ t'.message2
    pub message3 : t.message3 ≡ t'.message3
    pub other : t.leaves ≡ t'.leaves → ⊥

  pub early-passed : early_checks hash p runs t t' key work out ≡ Ok tt → Early
  unfolding early_checks same_statement all_lengths leaves_below
  early-passed e =
      let limits : Bool = within_limits p && runs_within runs in
      let same1 : Bool = eq_list t.message1 t'.message1 in
      let same2 : Bool = eq_list t.message2 t'.message2 in
      let lengths : Bool = all_true (extract_lengths hash p runs t t' key work out) in
      let distinct : Bool = both_distinct hash p runs t t' key work out in
      let low : Bool = all_true (map (λ i. ltb i (leaves p)) t.leaves) in
      let low' : Bool = all_true (map (λ i. ltb i (leaves p)) t'.leaves) in
      let inside : Bool = low && low' in
      let same : Bool = same1 && (same2 && eq_list t.message3 t'.message3) in
      let apart : Bool = not (eq_list t.leaves t'.leaves) in
      let ts : Bool = all_true (message_lengths p runs t) in
      let ts' : Bool = all_true (message_lengths p runs t') in
      let lents : Bool = lent p (length key.matrix) (length key.y) (length work) in
      let e2 = check-rest limits Parameter _ e in
      let e3 = check-rest lengths Length _ e2 in
      let e4 = check-rest distinct SamePoint _ e3 in
      let e5 = check-rest inside Leaf _ e4 in
      let in-limits = check-true limits Parameter _ e in
      let sizes = sym lengths-are ∙ check-true lengths Length _ e2 in
      let sizes' = and_right ts _ sizes in
      let last = and_right ts' _ sizes' in
      let under = check-true inside Leaf _ e4 in
      let agree = check-true same Differs _ e5 in
      let agree' = and_right same1 _ agree in
      let one = sent p runs t (and_left ts _ sizes) in
      let two = sent p runs t' (and_left ts' _ sizes') in
      record {
        passed = e;
        within = test-within p (and_left (within_limits p) _ in-limits);
        count = runs-within runs (and_right (within_limits p) _ in-limits);
        first = one;
        second = two;
        lent = test-lent p (length key.matrix) (length key.y) (length work) (and_left lents _ last);
        room = eqb-true (length out) (outputs_length p runs) (and_right lents _ last);
        below = λ e l. below_each (leaves p) t.leaves (and_left low _ under) e (let s = one.size4 in omega arith);
        below' = λ e l. below_each (leaves p) t'.leaves (and_right low _ under) e (let s = two.size4 in omega arith);
        message1 = eq_list-true t.message1 t'.message1 (and_left same1 _ agree);
        message2 = eq_list-true t.message2 t'.message2 (and_left same2 _ agree');
        message3 = eq_list-true t.message3 t'.message3 (and_right same2 _ agree');
        other = eq_list-false t.leaves t'.leaves (not-true (eq_list t.leaves t'.leaves) (check-true apart SameLeaf (Ok tt) (check-rest same Differs _ e5)));
      }
