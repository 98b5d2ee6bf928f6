-- Laws about the messages of several runs.
--
-- RunsWithin n             the limits of the run count as facts
-- runs-within, within-runs the test says so
-- messages5-append         lengths of parts one after another
-- messages5-step           the part of run e ends where that of the next one starts
-- messages5-turn, messages5-none, messages5-all   a sum of the lengths, run after run
-- message5-inside          and it lies within message 5
-- messages5-most           message 5 of n runs
-- output-most, outputs-most   the extractor's output of one run, and of n
-- messages2-most           message 2 of n runs
-- all_below n is            all of them are below n
-- below_more, below-stop, below_end   a loop that asks whether all are below n has those from e on still to answer
use Rattle.std.specs.Prelude.{◌≡◌, refl, Bool, true, false, List, [], ◌∷◌, ◌++◌, map, ℕ, zero, suc, ◌+◌, ◌*◌, ◌≤◌, ◌<◌, leb, ltb, length, take, drop, get_or}
use Rattle.std.proofs.Common.{sym, ap, ap₂, ◌∙◌, arith, le-leb, leb-true, lt-ltb, le-ltb, add-one, take_all, drop-cons, take-append-drop, drop_of_length-le, mul-le-mul}
use Rattle.lists.specs.Checks.{all_true}
use Rattle.lists.specs.Checks.Laws.{and_left, and_right}
use Rattle.parameters.specs.declared.Parameters.{Parameters}
use Rattle.parameters.specs.Limits.{Within}
use Rattle.layout.specs.Layout.{message2_length, message5_length, output_length}
use Rattle.layout.specs.Layout.Bounds.{leaves-most, aux-most, message5-most}
use Rattle.layout.specs.Maxima.{most_runs, most_messages2, longest_message2, longest_message5}
use Rattle.layout.specs.Runs.{runs_within, messages5_length, message5_place}

pub record RunsWithin (n : ℕ) : Type 0 where
  pub least : 1 ≤ n
  pub most : n ≤ most_runs

pub within-runs : (n : ℕ) → RunsWithin n → runs_within n ≡ true
unfolding runs_within
within-runs n h = simp (le-leb _ _ h.least, le-leb _ _ h.most)

pub runs-within : (n : ℕ) → runs_within n ≡ true → RunsWithin n
unfolding runs_within
runs-within n h = record {
  least = leb-true 1 n (and_left (leb 1 n) (leb n most_runs) h);
  most = leb-true n most_runs (and_right (leb 1 n) (leb n most_runs) h);
}

pub messages5-append : (p : Parameters) (is js : List ℕ) → messages5_length p (is ++ js) ≡ messages5_length p is + messages5_length p js
unfolding messages5_length
messages5-append p [] js = omega arith
messages5-append p (i ∷ is) js = ap (λ (n : ℕ). message5_length p i + n) (messages5-append p is js) ∙ omega arith

pub messages5-step : (p : Parameters) (is : List ℕ) (e : ℕ) → e < length is
    → message5_place p is (suc e) ≡ message5_place p is e + message5_length p (get_or is e 0)
unfolding messages5_length
messages5-step p [] e h = absurd (omega arith)
messages5-step p (i ∷ is) zero h = omega arith
messages5-step p (i ∷ is) (suc e) h = let t = messages5-step p is e (omega arith) in omega (arith, t)

pub messages5-turn : (p : Parameters) (is : List ℕ) (e sum r : ℕ) → e < length is → sum ≡ message5_place p is e → r ≡ message5_length p (get_or is e 0)
    → sum + r ≡ message5_place p is (e + 1)
messages5-turn p is e sum r h a b = ap₂ ◌+◌ a b ∙ sym (messages5-step p is e h) ∙ ap (message5_place p is) (sym (add-one e))

pub messages5-none : (p : Parameters) (is : List ℕ) → 0 ≡ message5_place p is 0
unfolding messages5_length
messages5-none p is = refl

pub messages5-all : (p : Parameters) (is : List ℕ) (e : ℕ) → length is ≤ e → message5_place p is e ≡ messages5_length p is
messages5-all p is e h = ap (messages5_length p) (take_all e is h)

pub message5-inside : (p : Parameters) (is : List ℕ) (e : ℕ) → e < length is
    → message5_place p is e + message5_length p (get_or is e 0) ≤ messages5_length p is
message5-inside p is e h =
    let a = messages5-append p (take (suc e) is) (drop (suc e) is) in
    let b : take (suc e) is ++ drop (suc e) is ≡ is = take-append-drop (suc e) is in
    let d : messages5_length p (take (suc e) is ++ drop (suc e) is) ≡ messages5_length p is = ap (messages5_length p) b in
    omega (arith, a, d, messages5-step p is e h)

pub messages5-most : (p : Parameters) → Within p → (is : List ℕ) → messages5_length p is ≤ length is * longest_message5
unfolding messages5_length
messages5-most p w [] = omega arith
messages5-most p w (i ∷ is) = let t = messages5-most p w is in omega (arith, t, message5-most p w i)

pub output-most : (p : Parameters) → Within p → output_length p ≤ 8_988
unfolding output_length
output-most p w = omega (arith, leaves-most p w, aux-most p w)

pub outputs-most : (p : Parameters) → Within p → (n : ℕ) → n ≤ most_runs → n * output_length p ≤ most_runs * 8_988
outputs-most p w n h = mul-le-mul h (output-most p w)

message2-most : (p : Parameters) → Within p → message2_length p ≤ longest_message2
message2-most p w = omega (arith, w.t-most)

pub messages2-most : (p : Parameters) → Within p → (n : ℕ) → n ≤ most_runs → n * message2_length p ≤ most_messages2
messages2-most p w n h = mul-le-mul h (message2-most p w)

-- ---- a loop that asks whether all are below n

abbrev pub all_below : ℕ → List ℕ → Bool
all_below n is = all_true (map (λ i. ltb i n) is)

pub below_more : (n : ℕ) (is : List ℕ) (e : ℕ) → e < length is → get_or is e 0 < n → all_below n (drop e is) ≡ all_below n (drop (e + 1) is)
below_more n is e h l = rw (add-one e, drop-cons is e 0 h, lt-ltb (get_or is e 0) n l)

pub below-stop : (n : ℕ) (is : List ℕ) (e : ℕ) → e < length is → n ≤ get_or is e 0 → all_below n (drop e is) ≡ false
below-stop n is e h l = rw (drop-cons is e 0 h, le-ltb (get_or is e 0) n l)

pub below_end : (n : ℕ) (is : List ℕ) (e : ℕ) → length is ≤ e → all_below n (drop e is) ≡ true
below_end n is e h = rw (drop_of_length-le is h)
