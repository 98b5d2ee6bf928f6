-- The laws of checks in a row.
--
-- Ok≢Err                    a call is not both carried out and refused
-- check-true, check-rest    where a row of checks passes, its first check does, and the rest does
-- check-passed              a check that holds leaves what the rest says
-- check-refused             a check that refuses alone refuses whatever the rest says
-- require-passed            behind `require(b, r)?` the check holds
-- require-refused           where `require(b, r)?` returns, the check refuses, whatever the rest says
use Rattle.std.specs.Prelude.{◌≡◌, refl, Bool, true, false, ℕ, Ok, Err, IsErrAnd, ⊤}
use Rattle.std.proofs.Common.{sym, ◌∙◌, arith}
use Rattle.answers.specs.declared.Refusal.{Refusal}
use Rattle.answers.specs.Answer.{Answer}
use Rattle.answers.specs.Checks.{check}

pub Ok≢Err : {r : Refusal} → ◌≡◌ {A = Answer} (Ok tt) (Err r) → ⊥
Ok≢Err e = let z : ◌≡◌ {A = ℕ} 0 1 = cc in omega arith

pub check-true : (b : Bool) (r : Refusal) (rest : Answer) → check b r rest ≡ Ok tt → b ≡ true
check-true true r rest e = refl
check-true false r rest e = absurd (Ok≢Err (sym e))

pub check-rest : (b : Bool) (r : Refusal) (rest : Answer) → check b r rest ≡ Ok tt → rest ≡ Ok tt
check-rest true r rest e = e
check-rest false r rest e = absurd (Ok≢Err (sym e))

pub check-passed : (b : Bool) (r : Refusal) (rest : Answer) → b ≡ true → check b r rest ≡ rest
check-passed b r rest e = rw e

pub check-refused : (b : Bool) (r s : Refusal) (rest : Answer) → check b r (Ok tt) ≡ Err s → check b r rest ≡ Err s
check-refused true r s rest e = absurd (Ok≢Err e)
check-refused false r s rest e = e

-- a is what `require` answered; x is what the function returns
pub require-passed : (b : Bool) (r : Refusal) {a : Answer} {u : ⊤} → a ≡ check b r (Ok tt) → a ≡ Ok u → b ≡ true
require-passed b r e f = check-true b r (Ok tt) (sym e ∙ f)

pub require-refused : (b : Bool) (r : Refusal) (rest : Answer) {a x : Answer} {s : Refusal} → a ≡ check b r (Ok tt) → a ≡ Err s → IsErrAnd x (λ y. y ≡ s)
    → x ≡ check b r rest
require-refused b r rest {a} {x} {s} e f g = go x g
  where
    go : (x : Answer) → IsErrAnd x (λ y. y ≡ s) → x ≡ check b r rest
    go (Ok _) h = absurd h
    go (Err y) h = rw h (sym (check-refused b r s rest (sym e ∙ f)))
