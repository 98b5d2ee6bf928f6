-- The laws of the run count.
--
-- digit-more             a loop that takes a decimal digit by digit
-- named-decimal, named_other     a text that is a decimal, and one that is none, by its scanner
-- malformed, ten-alone   `==` with the refusal whose number is 10
-- with-ten, with-other   the check of the run count by its cases
-- with-runs              the order: 10 of the key, then 1 of parameters or run count, then 2
-- runs_done              what is known where nothing is refused
use Rattle.std.specs.Prelude.{◌≡◌, refl, Bool, true, false, cond, ◌&&◌, List, [], ◌∷◌, None, Some, Ok, Err, ℕ, ◌+◌, ◌<◌, eqb, length, drop, get_or}
use Rattle.std.proofs.Common.{sym, ◌∙◌, add-one, arith, drop-cons}
use Rattle.std.proofs.Math.Path.{ap}
use Rattle.std.proofs.lemmas.Bool.{false≢true}
use Rattle.std.specs.Result.{result_and, result_eq}
use denote.Enum.Bare.{sameb}
use Rattle.answers.specs.contracts.Refusal.{the_type}
use Rattle.answers.specs.Answer.{Answer}
use Rattle.answers.specs.declared.Refusal.TheVariants.{Parameter, Length, Weight, Leaf, Commitment, Response, Exchange, SameLeaf, Malformed, NotDue, Closed, Repeated, SamePoint}
use Rattle.answers.specs.Number.{answer_number}
use Rattle.answers.specs.Checks.{check, checks}
use Rattle.answers.specs.Checks.Laws.{Ok≢Err}
use Rattle.parameters.specs.Limits.{within_limits}
use Rattle.parameters.specs.Set.{parameters_of}
use Rattle.layout.specs.Runs.{runs_within}
use Rattle.layout.specs.Runs.Laws.{RunsWithin, runs-within}
use Rattle.text.specs.Fold.{fold}
use Rattle.text.specs.Decimal.{is_decimal, value_of}
use Rattle.text.specs.declared.decimal.DecimalScan.{DecimalScan}
use Rattle.text.specs.Scanner.Decimal.{decimal_start, decimal_step, decimal_accepts}
use Rattle.text.specs.Scanner.Decimal.Laws.{decimal-accepts, decimal-value}
use Rattle.keytext.specs.declared.KeyScan.{KeyScan}
use Rattle.keytext.specs.Scan.{complete}
use Rattle.keytext.specs.Finish.{lengths_read, read_checks}
use Rattle.unlock.specs.Count.{named, with_runs}

pub digit-more : (t : List ℕ) (i : ℕ) (h : DecimalScan) {g : DecimalScan} → i < length t → g ≡ decimal_step 3 h (get_or t i 0)
    → fold (decimal_step 3) g (drop (i + 1) t) ≡ fold (decimal_step 3) h (drop i t)
digit-more t i h l e = ap (λ (k : DecimalScan). fold (decimal_step 3) k (drop (i + 1) t)) e ∙ rw (drop-cons t i 0 l, add-one i)

module _ (t : List ℕ) {s : DecimalScan} (e : s ≡ fold (decimal_step 3) decimal_start t) where
  accepted : {b : Bool} → decimal_accepts s ≡ b → is_decimal 3 t ≡ b
  accepted h = sym (decimal-accepts 3 t (omega arith) (omega arith)) ∙ ap decimal_accepts (sym e) ∙ h

  pub named_other : decimal_accepts s ≡ false → None ≡ named t
  unfolding named
  named_other h = rw (accepted h)

  pub named-decimal : decimal_accepts s ≡ true → Some s.value ≡ named t
  unfolding named
  named-decimal h =
      let v : s.value ≡ value_of t = ap (λ (z : DecimalScan). z.value) e ∙ decimal-value 3 t (omega arith) (omega arith) (accepted h) in
      rw (accepted h, v)

-- what `==` says of an answer and the refusal 10
abbrev pub malformed : Answer → Bool
malformed a = result_eq (λ x y. true) (sameb the_type) a (Err Malformed)

ten-alone : (a : Answer) → malformed a ≡ eqb (answer_number a) 10
ten-alone (Ok _) = refl
ten-alone (Err Parameter) = refl
ten-alone (Err Length) = refl
ten-alone (Err Weight) = refl
ten-alone (Err Leaf) = refl
ten-alone (Err Commitment) = refl
ten-alone (Err Response) = refl
ten-alone (Err Exchange) = refl
ten-alone (Err SameLeaf) = refl
ten-alone (Err Malformed) = refl
ten-alone (Err NotDue) = refl
ten-alone (Err Closed) = refl
ten-alone (Err Repeated) = refl
ten-alone (Err SamePoint) = refl

module _ (a : Answer) (n : ℕ) {b : Bool} (e : b ≡ malformed a) where
  pub with-ten : b ≡ true → a ≡ with_runs a n
  unfolding with_runs
  with-ten h = rw (sym (ten-alone a) ∙ sym e ∙ h)

  pub with-other : b ≡ false → (w : Bool) → w ≡ runs_within n → result_and (check w Parameter (Ok tt)) a ≡ with_runs a n
  unfolding with_runs
  with-other h true f = rw (sym (ten-alone a) ∙ sym e ∙ h, ← f)
  with-other h false f = rw (sym (ten-alone a) ∙ sym e ∙ h, ← f)

pub with-runs : (s : KeyScan) (m y x n : ℕ) → with_runs (read_checks s m y x) n
    ≡ checks ((complete s, Malformed) ∷ ((within_limits (parameters_of s.numbers) && runs_within n), Parameter)
    ∷ (lengths_read (parameters_of s.numbers) s.lengths m y x, Length) ∷ [])
unfolding with_runs read_checks
with-runs s m y x n =
    go (complete s) (within_limits (parameters_of s.numbers)) (lengths_read (parameters_of s.numbers) s.lengths m y x) (runs_within n)
  where
    go : (a b c d : Bool) → (let r = checks ((a, Malformed) ∷ (b, Parameter) ∷ (c, Length) ∷ []) in cond (eqb (answer_number r) 10) r (check d Parameter r))
        ≡ checks ((a, Malformed) ∷ ((b && d), Parameter) ∷ (c, Length) ∷ [])
    go false b c d = refl
    go true false c false = refl
    go true false c true = refl
    go true true false false = refl
    go true true false true = refl
    go true true true false = refl
    go true true true true = refl

pub runs_done : (a : Answer) (n : ℕ) → with_runs a n ≡ Ok tt → (a ≡ Ok tt) × RunsWithin n
unfolding with_runs
runs_done a n h = go (eqb (answer_number a) 10) refl (runs_within n) refl (h)
  where
    go : (s : Bool) → eqb (answer_number a) 10 ≡ s → (t : Bool) → runs_within n ≡ t → cond s a (check t Parameter a) ≡ Ok tt → (a ≡ Ok tt) × RunsWithin n
    go true e t f q = absurd (let k : eqb (answer_number (Ok tt)) 10 ≡ true = ap (λ (z : Answer). eqb (answer_number z) 10) (sym q) ∙ e in false≢true k)
    go false e false f q = absurd (Ok≢Err (sym q))
    go false e true f q = (q, runs-within n f)
