-- The laws of `part` and `put_at`.
--
-- length_part, length-put_at           lengths, where the part lies within the list
-- get_d_part                           an element of a part
-- part-whole, part-part               all of a list; a part of a part
-- part-append-left, part-append-right a part of a joined list that lies in its first, or in its second list
-- put_at-none, put_at-more, put_at-all   a loop that copies has come to `paste d at s i` (lib.Seq)
-- put_at-whole                         a write of all of d leaves nothing of d
-- put_at-put_at                         two writes one after the other are one
-- lent-part, length-lent              what is lent as `&w[a..a + n]`, and its length
-- lent_back                           what a lent middle part `&mut w[a..e]` leaves in w when it comes back
-- tail-part, tail-back                what is lent as `&mut w[a..]`, and what it leaves in w when it comes back
-- tail-put                            a write at the front of `&mut w[a..]` is one at a
-- part-put_at-same, -before, -behind   what is read after a write: what was written, or what stood there
-- part-fits                           block p of n blocks of one size ends within them
use Rattle.std.specs.Prelude.{◌≡◌, get_or, set}
use Rattle.std.proofs.Math.Path.{refl, sym, ap}
use Rattle.std.proofs.Common.{◌∙◌, zero-add, le_of_eq, suc-mul, mul-le-mul_right, add-one, length-append, length-take, length-drop, take-append-drop, drop_of_length-le, take_all, drop_at, take-take, get_or-take, get_or-drop, length-take-le}
use Prim.Native.Nat.{ℕ, zero, suc, ◌+◌, ◌*◌, ◌-◌, ◌≤◌, ◌<◌}
use native.Mathlib.Omega.{arith}
use mathlib.Core.List.{List, [], ◌∷◌, ◌++◌, append_assoc, append-nil}
use Rattle.std.proofs.Math.ListN.{length, take, drop}
use Rattle.std.proofs.Math.Seq.{take-length, take-append_seam, drop-append-add, drop-length, take_at, take-nil, paste, paste-zero, paste-suc, drop-drop}
use Rattle.std.proofs.lemmas.List.{take-append-le, drop-append-le}
use Rattle.lists.specs.Part.{part, put_at}

-- ---- part

pub length_part : (d : List ℕ) (at n : ℕ) → at + n ≤ length d → length (part d at n) ≡ n
unfolding part
length_part d at n h = simp (length-take, length-drop) (omega arith)

pub get_d_part : (d : List ℕ) (at n i : ℕ) → i < n → get_or (part d at n) i 0 ≡ get_or d (at + i) 0
unfolding part
get_d_part d at n i h = get_or-take n (drop at d) i 0 h ∙ get_or-drop at d i 0

pub part-whole : (d : List ℕ) (n : ℕ) → length d ≤ n → part d 0 n ≡ d
unfolding part
part-whole d n h = take_all n d h

drop-take : (i n : ℕ) (d : List ℕ) → drop i (take n d) ≡ take (n - i) (drop i d)
drop-take zero n d = let e : n ≡ n - 0 = omega arith in ap (λ (k : ℕ). take k d) e
drop-take (suc i) zero d = let e : 0 ≡ 0 - suc i = omega arith in ap (λ (k : ℕ). take k (drop (suc i) d)) e
drop-take (suc i) (suc n) [] = sym (take-nil (suc n - suc i))
drop-take (suc i) (suc n) (x ∷ d) = let e : n - i ≡ suc n - suc i = omega arith in drop-take i n d ∙ ap (λ (k : ℕ). take k (drop i d)) e

pub part-part : (d : List ℕ) (at n at' n' : ℕ) → at' + n' ≤ n → part (part d at n) at' n' ≡ part d (at + at') n'
unfolding part
part-part d at n at' n' h =
    ap (take n') (drop-take at' n (drop at d)) ∙ take-take n' (n - at') (drop at' (drop at d)) (omega arith)
    ∙ ap (take n') (drop-drop at' at d)

pub part-append-left : (a b : List ℕ) (at n : ℕ) → at + n ≤ length a → part (a ++ b) at n ≡ part a at n
unfolding part
part-append-left a b at n h =
    let e : n ≤ length (drop at a) = simp length-drop (omega arith) in
    ap (take n) (drop-append-le at a b (omega arith)) ∙ take-append-le n (drop at a) b e

pub part-append-right : (a b : List ℕ) (at n : ℕ) → part (a ++ b) (length a + at) n ≡ part b at n
unfolding part
part-append-right a b at n = ap (take n) (drop-append-add a b at)

-- block p of n blocks
pub part-fits : (p n size : ℕ) → p < n → p * size + size ≤ n * size
part-fits p n size h =
    let e : suc p * size ≡ p * size + size = suc-mul p size in
    let k : suc p * size ≤ n * size = mul-le-mul_right size h in
    omega arith

-- ---- put_at

pub length-put_at : (d : List ℕ) (at : ℕ) (s : List ℕ) → at + length s ≤ length d → length (put_at d at s) ≡ length d
unfolding put_at
length-put_at d at s h = simp (length-append, length-take, length-drop) (omega arith)

pub put_at-none : (d : List ℕ) (at : ℕ) (s : List ℕ) → d ≡ paste d at s 0
put_at-none d at s = paste-zero d at s

pub put_at-more : (d : List ℕ) (at : ℕ) (s : List ℕ) (i : ℕ) → at + i < length d → i < length s
    → set (paste d at s i) (at + i) (get_or s i 0) ≡ paste d at s (i + 1)
put_at-more d at s i h k = rw (add-one i) (paste-suc d at s i 0 h k)

pub put_at-all : (d : List ℕ) (at : ℕ) (s : List ℕ) → paste d at s (length s) ≡ put_at d at s
unfolding put_at
put_at-all d at s = rw (take-length) (append_assoc (take at d) s (drop (at + length s) d))

pub put_at-whole : (d s : List ℕ) → length s ≡ length d → put_at d 0 s ≡ s
unfolding put_at
put_at-whole d s e = rw (zero-add, e, drop-length, append-nil)

pub put_at-put_at : (d a b : List ℕ) → length a + length b ≤ length d → put_at (put_at d 0 a) (length a) b ≡ put_at d 0 (a ++ b)
unfolding put_at
put_at-put_at d a b h =
    rw (zero-add (length a), zero-add (length (a ++ b)), length-append, take-append_seam, drop-append-add, drop-drop) (sym (append_assoc a b (drop (length a + length b) d)))

-- the left sides are what the borrow checker has
pub lent-part : (w : List ℕ) (a n : ℕ) → take (a + n - a) (drop a w) ≡ part w a n
unfolding part
lent-part w a n = let e : a + n - a ≡ n = omega arith in ap (λ (m : ℕ). take m (drop a w)) e

pub length-lent : (a n : ℕ) (w : List ℕ) → a + n ≤ length w → length (take (a + n - a) (drop a w)) ≡ n
length-lent a n w h = ap length (lent-part w a n) ∙ length_part w a n h

pub lent_back : (w ys : List ℕ) (a e : ℕ) → a ≤ e → length ys ≡ e - a → take a w ++ (ys ++ drop (e - a) (drop a w)) ≡ put_at w a ys
unfolding put_at
lent_back w ys a e h k = rw (drop-drop, ← k)

pub tail-part : (w : List ℕ) (a : ℕ) → take (length w - a) (drop a w) ≡ drop a w
tail-part w a = take_all (length w - a) (drop a w) (le_of_eq (length-drop a w))

pub tail-back : (w ys : List ℕ) (a : ℕ) → a ≤ length w → take a w ++ (ys ++ drop (length w - a) (drop a w)) ≡ take a w ++ ys
tail-back w ys a h =
    ap (λ (l : List ℕ). take a w ++ (ys ++ l)) (drop_of_length-le (drop a w) (le_of_eq (length-drop a w)))
    ∙ ap (◌++◌ (take a w)) (append-nil ys)

pub tail-put : (d : List ℕ) (a : ℕ) (s : List ℕ) → take a d ++ put_at (drop a d) 0 s ≡ put_at d a s
unfolding put_at
tail-put d a s = ap (λ (l : List ℕ). take a d ++ (s ++ l)) (ap (λ (n : ℕ). drop n (drop a d)) (zero-add (length s)) ∙ drop-drop (length s) a d)

-- ---- a part after a write

module _ (d : List ℕ) (at : ℕ) (s : List ℕ) (fits : at + length s ≤ length d) where
  front : length (take at d) ≡ at
  front = length-take-le at d (omega arith)

  pub part-put_at-same : part (put_at d at s) at (length s) ≡ s
  unfolding part put_at
  part-put_at-same = ap (take (length s)) (drop_at (take at d) (s ++ drop (at + length s) d) at front) ∙ take_at s (drop (at + length s) d) (length s) refl

  pub part-put_at-before : (k n : ℕ) → k + n ≤ at → part (put_at d at s) k n ≡ part d k n
  unfolding put_at
  part-put_at-before k n h =
      let f = front in
      part-append-left (take at d) (s ++ drop (at + length s) d) k n (omega arith)
      ∙ sym (part-append-left (take at d) (drop at d) k n (omega arith))
      ∙ ap (λ (z : List ℕ). part z k n) (take-append-drop at d)

  pub part-put_at-behind : (k n : ℕ) → at + length s ≤ k → part (put_at d at s) k n ≡ part d k n
  unfolding part put_at
  part-put_at-behind k n h =
      let f = front in
      let j : ℕ = k - (at + length s) in
      let q : k ≡ length (take at d) + (length s + j) = omega arith in
      let z : at + length s + j ≡ k = omega arith in
      ap (λ (m : ℕ). take n (drop m (take at d ++ (s ++ drop (at + length s) d)))) q
      ∙ ap (take n)
      (drop-append-add (take at d) (s ++ drop (at + length s) d) (length s + j) ∙ drop-append-add s (drop (at + length s) d) j
      ∙ drop-drop j (at + length s) d ∙ ap (λ (m : ℕ). drop m d) z)
