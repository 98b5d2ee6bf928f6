-- A decimal, digit by digit.
--
-- decimal-accepts      it is accepted exactly when it is a decimal of at most `limit` digits (limit 1 to 9)
-- decimal-value        its value is then that of its digits
use Rattle.std.proofs.Math.Path.{◌≡◌, refl, ap}
use Rattle.std.proofs.Common.{sym, ◌∙◌, pow-suc, add-one}
use Prim.Native.Nat.{ℕ, suc, ◌+◌, ◌-◌, ◌*◌, ◌^◌, ◌≤◌, ◌<◌}
use Rattle.std.proofs.Math.Nat.{pow-le-pow_right}
use Rattle.std.proofs.Math.Decide.{dec_lt}
use native.Mathlib.Omega.{arith}
use Rattle.std.specs.Prelude.{Bool, cond, not, ◌&&◌, ◌||◌, ltb}
use Rattle.std.proofs.Math.Bool.{true, false, and-false, and-true, or-true}
use mathlib.Core.List.{List, [], ◌∷◌}
use Rattle.std.proofs.Math.Dec.{leb, eqb}
use Rattle.std.proofs.Math.ListN.{length}
use borrow.Author.Tests.{lt-ltb, le-ltb, le-leb, lt-leb, ne_eqb, leb-true}
use Rattle.lists.specs.Checks.Laws.{and_right}
use Rattle.text.specs.Fold.{fold}
use Rattle.text.specs.Decimal.{is_digit, all_digits, is_decimal, grown, value_of}
use Rattle.text.specs.declared.decimal.DecimalScan.{DecimalScan}
use Rattle.text.specs.Scanner.Decimal.{decimal_start, decimal_broken, decimal_step, decimal_accepts}

abbrev state : ℕ → ℕ → Bool → Bool → DecimalScan
state n v z b = record { digits = n; value = v; zero = z; sound = b }

abbrev empty : List ℕ → Bool
empty [] = true
empty (x ∷ f) = false

digit-small : (x : ℕ) → is_digit x ≡ true → x - 48 ≤ 9
unfolding is_digit
digit-small x h = let e : x ≤ 57 = leb-true x 57 (and_right (leb 48 x) (leb x 57) h) in omega arith

module _ (limit : ℕ) where
  -- a field that is no decimal stays none
  broken : (f : List ℕ) (n v : ℕ) (z : Bool) → decimal_accepts (fold (decimal_step limit) (state n v z false) f) ≡ false
  unfolding decimal_step decimal_accepts
  broken [] n v z = and-false (not (eqb n 0))
  broken (x ∷ f) n v z =
      go (is_digit x && (ltb n limit && (not z && leb v 99_999_999))) (broken f (n + 1) (grown v x) (eqb n 0 && eqb x 48)) (broken f n v z)
    where
      go : (t : Bool) → decimal_accepts (fold (decimal_step limit) (state (n + 1) (grown v x) (eqb n 0 && eqb x 48) false) f) ≡ false
          → decimal_accepts (fold (decimal_step limit) (state n v z false) f) ≡ false
          → decimal_accepts (fold (decimal_step limit) (cond t (state (n + 1) (grown v x) (eqb n 0 && eqb x 48) false) (state n v z false)) f) ≡ false
      go true p q = p
      go false p q = q

  -- what is still asked of the rest f of a field of which n digits stand
  abbrev left : ℕ → Bool → List ℕ → Bool
  left n z f = all_digits f && (leb (n + length f) limit && (empty f || not z))

  small : (n v : ℕ) → limit ≤ 9 → n < limit → v < 10 ^ n → v ≤ 99_999_999
  small n v h p q = let k : n ≤ 8 = omega arith in let e : 10 ^ n ≤ 10 ^ 8 = pow-le-pow_right {n = 10} (omega arith) k in omega arith

  more : (n v x : ℕ) → is_digit x ≡ true → v < 10 ^ n → grown v x < 10 ^ (n + 1)
  more n v x h q = let e = digit-small x h in let k : 10 ^ (n + 1) ≡ 10 ^ n * 10 = ap (λ (m : ℕ). 10 ^ m) (add-one n) ∙ pow-suc 10 n in omega arith

  step : (x : ℕ) (f : List ℕ) (n v : ℕ) (z : Bool) → limit ≤ 9 → 1 ≤ n → v < 10 ^ n
      → (is_digit x ≡ true → n < limit → decimal_accepts (fold (decimal_step limit) (state (n + 1) (grown v x) false true) f) ≡ left (n + 1) false f)
      → (d : Bool) → is_digit x ≡ d → Dec (n < limit)
      → decimal_accepts (fold (decimal_step limit) (decimal_step limit (state n v z true) x) f) ≡ left n z (x ∷ f)
  unfolding decimal_step all_digits
  step x f n v z h p q ih false e d = rw (e) (broken f n v z)
  step x f n v z h p q ih true e (no r) =
      rw (e, le-ltb n limit (omega arith), lt-leb (n + suc (length f)) limit (omega arith), and-false (all_digits f)) (broken f n v z)
  step x f n v true h p q ih true e (yes r) =
      rw (e, lt-ltb n limit r, and-false (leb (n + suc (length f)) limit), and-false (all_digits f)) (broken f n v true)
  step x f n v false h p q ih true e (yes r) =
      let k : n + suc (length f) ≡ n + 1 + length f = omega arith in
      rw (e, lt-ltb n limit r, le-leb v 99_999_999 (small n v h r q), ne_eqb n 0 (omega arith), k)
      (ih e r ∙ ap (λ (b : Bool). all_digits f && (leb (n + 1 + length f) limit && b)) (or-true (empty f)))

  decimal-from : (f : List ℕ) (n v : ℕ) (z : Bool) → limit ≤ 9 → 1 ≤ n → n ≤ limit → v < 10 ^ n
      → decimal_accepts (fold (decimal_step limit) (state n v z true) f) ≡ left n z f
  unfolding decimal_accepts all_digits
  decimal-from [] n v z h p l q = rw (ne_eqb n 0 (omega arith), le-leb (n + 0) limit (omega arith))
  decimal-from (x ∷ f) n v z h p l q =
      step x f n v z h p q (λ e r. decimal-from f (n + 1) (grown v x) false h (omega arith) (omega arith) (more n v x e q)) (is_digit x) refl (dec_lt n limit)

  and-move : (a b c : Bool) → (a && (b && c)) ≡ (b && (a && (c && true)))
  and-move true b c = ap (λ (t : Bool). b && t) (sym (and-true c))
  and-move false b c = sym (and-false b)

  first : (x : ℕ) (f : List ℕ) → limit ≤ 9 → 1 ≤ limit → (d : Bool) → is_digit x ≡ d
      → decimal_accepts (fold (decimal_step limit) (decimal_step limit decimal_start x) f) ≡ is_decimal limit (x ∷ f)
  unfolding decimal_step all_digits
  first x f h l false e = rw (e, le-leb 1 (suc (length f)) (omega arith), and-false (leb (suc (length f)) limit)) (broken f 0 0 false)
  first x [] h l true e =
      rw (e, lt-ltb 0 limit l)
      (decimal-from [] 1 (grown 0 x) (eqb x 48) h (omega arith) l (omega (arith, digit-small x e)) ∙ ap (λ (b : Bool). b && true) (le-leb 1 limit l))
  first x (y ∷ f) h l true e =
      rw (e, lt-ltb 0 limit l, le-leb 1 (suc (suc (length f))) (omega arith))
      (decimal-from (y ∷ f) 1 (grown 0 x) (eqb x 48) h (omega arith) l (omega (arith, digit-small x e))
      ∙ and-move (all_digits (y ∷ f)) (leb (1 + suc (length f)) limit) (not (eqb x 48))
      ∙ ap (λ (m : ℕ). leb m limit && (all_digits (y ∷ f) && (not (eqb x 48) && true))) (omega arith))

  pub decimal-accepts : (f : List ℕ) → 1 ≤ limit → limit ≤ 9 → decimal_accepts (fold (decimal_step limit) decimal_start f) ≡ is_decimal limit f
  unfolding decimal_accepts
  decimal-accepts [] l h = refl
  decimal-accepts (x ∷ f) l h = first x f h l (is_digit x) refl

  -- ---- the value

  value-step : (x : ℕ) (f : List ℕ) (s : DecimalScan)
      → (decimal_accepts (fold (decimal_step limit) (state (s.digits + 1) (grown s.value x) (eqb s.digits 0 && eqb x 48) s.sound) f) ≡ true
      → (fold (decimal_step limit) (state (s.digits + 1) (grown s.value x) (eqb s.digits 0 && eqb x 48) s.sound) f).value ≡ fold grown (grown s.value x) f)
      → (t : Bool) → (is_digit x && (ltb s.digits limit && (not s.zero && leb s.value 99_999_999))) ≡ t
      → decimal_accepts (fold (decimal_step limit) (decimal_step limit s x) f) ≡ true
      → (fold (decimal_step limit) (decimal_step limit s x) f).value ≡ fold grown (grown s.value x) f
  unfolding decimal_step
  value-step x f s ih true e a = rw e (ih (rw e at a))
  value-step x f s ih false e a =
      absurd (let b : decimal_accepts (fold (decimal_step limit) (decimal_broken s) f) ≡ false = broken f s.digits s.value s.zero in
      let k : decimal_accepts (fold (decimal_step limit) (decimal_broken s) f) ≡ true = rw e at a in
      let z : ◌≡◌ {A = ℕ} 0 1 = cc in omega arith)

  value-from : (f : List ℕ) (s : DecimalScan) → decimal_accepts (fold (decimal_step limit) s f) ≡ true
      → (fold (decimal_step limit) s f).value ≡ fold grown s.value f
  value-from [] s a = refl
  value-from (x ∷ f) s a =
      value-step x f s (value-from f (state (s.digits + 1) (grown s.value x) (eqb s.digits 0 && eqb x 48) s.sound))
      (is_digit x && (ltb s.digits limit && (not s.zero && leb s.value 99_999_999))) refl a

  pub decimal-value : (f : List ℕ) → 1 ≤ limit → limit ≤ 9 → is_decimal limit f ≡ true → (fold (decimal_step limit) decimal_start f).value ≡ value_of f
  decimal-value f l h e = value-from f decimal_start (decimal-accepts f l h ∙ e)
