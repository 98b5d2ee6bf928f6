-- The laws of the weight and of the positions E.
--
--   weight-le            the weight is at most the length
--   length-positions     a mark for each entry
--   marked-positions     E has w positions, if x has at most w nonzero entries
--   zero-outside         outside E x is zero: a polynomial whose values are x vanishes at the points outside E
use Rattle.std.specs.Prelude.{◌≡◌, refl, List, [], ◌∷◌, ℕ, zero, suc, ◌+◌, ◌-◌, ◌≤◌, length}
use Rattle.std.proofs.Common.{ap, ◌∙◌, arith}
use Rattle.algebra.specs.Ring.{ops}
use Rattle.algebra.specs.Each.{Each}
use Rattle.algebra.specs.Marks.{leave, marked}
use Rattle.algebra.specs.Polynomial.{eval, first, behind, values}
use Rattle.bytefield.specs.Byte.{Byte, byte_ring}
use Rattle.bytefield.specs.Byte.Laws.{byte-zero}
use Rattle.polynomial.specs.Bytes.{in_field}
use Rattle.relation.specs.Key.{weight_of, filled, positions}

pub weight-le : (x : List ℕ) → weight_of x ≤ length x
unfolding weight_of
weight-le [] = omega arith
weight-le (zero ∷ x) = omega (arith, weight-le x)
weight-le (suc a ∷ x) = omega (arith, weight-le x)

length-filled : (k : ℕ) (x : List ℕ) → length (filled k x) ≡ length x
unfolding filled
length-filled k [] = refl
length-filled k (suc a ∷ x) = ap suc (length-filled k x)
length-filled zero (zero ∷ x) = ap suc (length-filled zero x)
length-filled (suc k) (zero ∷ x) = ap suc (length-filled k x)

pub length-positions : (w : ℕ) (x : List ℕ) → length (positions w x) ≡ length x
unfolding positions
length-positions w x = length-filled (w - weight_of x) x

marked-filled : (k : ℕ) (x : List ℕ) → k + weight_of x ≤ length x → marked (filled k x) ≡ k + weight_of x
unfolding marked filled weight_of
marked-filled k [] h = omega arith
marked-filled k (suc a ∷ x) h = ap suc (marked-filled k x (omega arith)) ∙ omega arith
marked-filled zero (zero ∷ x) h = marked-filled 0 x (omega (arith, weight-le x))
marked-filled (suc k) (zero ∷ x) h = ap suc (marked-filled k x (omega arith)) ∙ omega arith

pub marked-positions : (w : ℕ) (x : List ℕ) → weight_of x ≤ w → w ≤ length x → marked (positions w x) ≡ w
unfolding positions
marked-positions w x h k = marked-filled (w - weight_of x) x (omega arith) ∙ omega arith

zero-unfilled : (k : ℕ) (x : List ℕ) (p fs : List Byte) → values (ops byte_ring) p fs ≡ in_field x
    → Each (λ f. eval (ops byte_ring) p f ≡ byte_ring.zero) (leave (filled k x) fs)
unfolding leave filled
zero-unfilled k [] p [] e = tt
zero-unfilled k [] p (f ∷ fs) e = absurd (let n : ◌≡◌ {A = ℕ} (suc (length (values (ops byte_ring) p fs))) 0 = ap length e in omega arith)
zero-unfilled k (a ∷ x) p [] e = absurd (let n : ◌≡◌ {A = ℕ} 0 (suc (length (in_field x))) = ap length e in omega arith)
zero-unfilled k (suc a ∷ x) p (f ∷ fs) e = zero-unfilled k x p fs (ap (behind (ops byte_ring)) e)
zero-unfilled zero (zero ∷ x) p (f ∷ fs) e =
    (ap (first (ops byte_ring)) e ∙ byte-zero, zero-unfilled 0 x p fs (ap (behind (ops byte_ring)) e))
zero-unfilled (suc k) (zero ∷ x) p (f ∷ fs) e = zero-unfilled k x p fs (ap (behind (ops byte_ring)) e)

pub zero-outside : (w : ℕ) (x : List ℕ) (p fs : List Byte) → values (ops byte_ring) p fs ≡ in_field x
    → Each (λ f. eval (ops byte_ring) p f ≡ byte_ring.zero) (leave (positions w x) fs)
unfolding positions
zero-outside w x p fs e = zero-unfilled (w - weight_of x) x p fs e
