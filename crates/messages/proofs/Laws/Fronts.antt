-- Fronts of arrays: of x and of the work area, and a front that is lent twice.
--
-- x_fits, x-length, x-light   the front of x is there, has m entries, and is not too heavy
-- front-zeroed        the front of the work area, lent in between, zeroed as far or further
-- zeros-front         a front of zeros
-- Rooms p n k         n entries of an array for 256 states and k of one for the longest aux are there and hold all states, and aux
-- rooms               so they are
-- Front n s d         s came back for the first n entries of d: its length, the same lent again, the length of the whole, and that the front is there
-- front-back          it did
use Rattle.std.specs.Prelude.{◌≡◌, refl, List, ◌∷◌, ◌++◌, ℕ, zero, suc, ◌+◌, ◌-◌, ◌≤◌, length, replicate, take, drop}
use Rattle.std.proofs.Common.{sym, ap, ◌∙◌, arith, take_at, length-take-le, drop-drop}
use Rattle.std.proofs.Math.Seq.{drop-append-add}
use Rattle.lists.specs.Zeroed.{zeroed}
use Rattle.parameters.specs.declared.Parameters.{Parameters}
use Rattle.parameters.specs.Limits.{Within}
use Rattle.layout.specs.Layout.{aux_length, states_length}
use Rattle.layout.specs.Layout.Bounds.{leaves-most, aux-most}
use Rattle.layout.specs.Maxima.{most_states, longest_aux}
use Rattle.relation.specs.Light.{Light}
use Rattle.points.specs.Written.{front_kept}
use Rattle.messages.specs.Asked.{Arrays}

module _ (p : Parameters) (x run work : List ℕ) (h : Arrays p x run work) where
  pub x_fits : p.m ≤ length x
  x_fits = let a = h.within in omega arith

  pub x-length : length (take p.m x) ≡ p.m
  x-length = length-take-le p.m x x_fits

  pub x-light : Light p.w (take p.m x)
  x-light = let a = h.within in let l = x-length in record { light = h.light; fits = omega arith; short = omega arith }

pub front-zeroed : (n k : ℕ) (s w : List ℕ) → length s ≡ n → n ≤ k → zeroed k (s ++ drop n w) ≡ zeroed k w
unfolding zeroed
front-zeroed n k s w e l =
    let j : ℕ = k - n in
    let f : k ≡ length s + j = omega arith in
    let g : n + j ≡ k = omega arith in
    let a : drop k (s ++ drop n w) ≡ drop k w
    = ap (λ (m : ℕ). drop m (s ++ drop n w)) f ∙ drop-append-add s (drop n w) j ∙ drop-drop j n w ∙ ap (λ (m : ℕ). drop m w) g in
    ap (◌++◌ (replicate k 0)) a

pub zeros-front : (n k : ℕ) → n ≤ k → take n (replicate {A = ℕ} k 0) ≡ replicate n 0
zeros-front zero k h = refl
zeros-front (suc n) zero h = absurd (omega arith)
zeros-front (suc n) (suc k) h = ap (◌∷◌ 0) (zeros-front n k (omega arith))

pub record Rooms (p : Parameters) (n k : ℕ) : Type 0 where
  pub states : n ≤ most_states
  pub aux : k ≤ longest_aux
  pub states-are : length (take n (replicate {A = ℕ} most_states 0)) ≡ states_length p
  pub aux-is : length (take k (replicate {A = ℕ} longest_aux 0)) ≡ aux_length p

pub rooms : {p : Parameters} {n k : ℕ} → Within p → n ≡ states_length p → k ≡ aux_length p → Rooms p n k
rooms {p} {n} {k} h e f =
    let s : n ≤ most_states = omega (arith, leaves-most p h) in
    let a : k ≤ longest_aux = omega (arith, aux-most p h) in
    record { states = s; aux = a; states-are = length-take-le n (replicate most_states 0) s ∙ e; aux-is = length-take-le k (replicate longest_aux 0) a ∙ f }

pub record Front (n : ℕ) (s d : List ℕ) : Type 0 where
  pub size : length s ≡ n
  pub again : take n (s ++ drop n d) ≡ s
  pub rest : length (s ++ drop n d) ≡ length d
  pub there : n ≤ length (s ++ drop n d)
  pub lent : n ≡ length (take n (s ++ drop n d))

pub front-back : (n : ℕ) (s d : List ℕ) → length s ≡ length (take n d) → n ≤ length d → Front n s d
front-back n s d same fits =
    let size : length s ≡ n = same ∙ length-take-le n d fits in
    let rest : length (s ++ drop n d) ≡ length d = front_kept n s d size fits in
    let there : n ≤ length (s ++ drop n d) = omega arith in
    record { size = size; again = take_at s (drop n d) n size; rest = rest; there = there; lent = sym (length-take-le n (s ++ drop n d) there) }
