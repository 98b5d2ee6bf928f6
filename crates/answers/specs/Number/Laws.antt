-- The numbers tell the answers apart.
--
-- refusal_from n, answer_from n   the refusal and the answer of a number
-- refusal-back, answer_back     the number of an answer gives the answer again
-- refusals-apart, answers-apart different answers have different numbers
-- number-from                   the number of a refusal is that of the refusal of the number
-- refused-not-0                 a refusal's number is not 0
-- six-unused                    no answer has the number 6
use Rattle.std.specs.Prelude.{◌≡◌, refl, cond, ℕ, eqb, Ok, Err}
use Rattle.std.proofs.Common.{sym, ap, ◌∙◌, arith, ne_eqb}
use Rattle.answers.specs.declared.Refusal.{Refusal}
use Rattle.answers.specs.declared.Refusal.TheVariants.{Parameter, Length, Weight, Leaf, Commitment, Response, Exchange, SameLeaf, Malformed, NotDue, Closed, Repeated, SamePoint}
use Rattle.answers.specs.Answer.{Answer}
use Rattle.answers.specs.Number.{refusal_number, answer_number}

abbrev refusal_from : ℕ → Refusal
refusal_from n =
    cond (eqb n 1) Parameter
    (cond (eqb n 2) Length
    (cond (eqb n 3) Weight
    (cond (eqb n 4) Leaf
    (cond (eqb n 5) Commitment
    (cond (eqb n 7) Response
    (cond (eqb n 8) Exchange
    (cond (eqb n 9) SameLeaf
    (cond (eqb n 10) Malformed
    (cond (eqb n 11) NotDue
    (cond (eqb n 12) Closed
    (cond (eqb n 13) Repeated SamePoint)))))))))))

abbrev answer_from : ℕ → Answer
answer_from n = cond (eqb n 0) (Ok tt) (Err (refusal_from n))

refusal-back : (r : Refusal) → refusal_from (refusal_number r) ≡ r
refusal-back Parameter = refl
refusal-back Length = refl
refusal-back Weight = refl
refusal-back Leaf = refl
refusal-back Commitment = refl
refusal-back Response = refl
refusal-back Exchange = refl
refusal-back SameLeaf = refl
refusal-back Malformed = refl
refusal-back NotDue = refl
refusal-back Closed = refl
refusal-back Repeated = refl
refusal-back SamePoint = refl

pub refusals-apart : (r r' : Refusal) → refusal_number r ≡ refusal_number r' → r ≡ r'
refusals-apart r r' e = sym (refusal-back r) ∙ ap refusal_from e ∙ refusal-back r'

number-from : (r : Refusal) (n : ℕ) → refusal_number r ≡ n → refusal_number (refusal_from n) ≡ n
number-from r n e = ap (λ (m : ℕ). refusal_number (refusal_from m)) (sym e) ∙ ap refusal_number (refusal-back r) ∙ e

pub refused-not-0 : (r : Refusal) → refusal_number r ≡ 0 → ⊥
refused-not-0 r e = let z : ◌≡◌ {A = ℕ} 14 0 = number-from r 0 e in omega arith

pub six-unused : (a : Answer) → answer_number a ≡ 6 → ⊥
six-unused (Ok _) e = omega arith
six-unused (Err r) e = let z : ◌≡◌ {A = ℕ} 14 6 = number-from r 6 e in omega arith

answer_back : (a : Answer) → answer_from (answer_number a) ≡ a
answer_back (Ok _) = refl
answer_back (Err r) = rw (ne_eqb (refusal_number r) 0 (refused-not-0 r), refusal-back r)

pub answers-apart : (a a' : Answer) → answer_number a ≡ answer_number a' → a ≡ a'
answers-apart a a' e = sym (answer_back a) ∙ ap answer_from e ∙ answer_back a'
