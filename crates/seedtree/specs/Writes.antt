-- A list after a write (`put_at`): what stands before it and behind it.
--
-- take-put_at, drop-put_at                 up to the write, and from it on
-- take-put_at-end, drop-put_at-end         up to its end, and from its end on
-- take-put_at-before, drop-put_at-behind   up to a place before it, and from a place behind it on
-- put_at-front, put_at-behind              a write just before, or just behind another one: the two are one
use Rattle.std.specs.Prelude.{◌≡◌, List, ◌++◌, ℕ, ◌+◌, ◌-◌, ◌≤◌, take}
use Rattle.std.proofs.Common.{sym, ap₂, ◌∙◌, append_assoc, arith, length-append, take-take, drop-drop, length-take-le}
use Rattle.std.proofs.Math.Path.{ap}
use Rattle.std.proofs.Math.ListN.{length, drop}
use Rattle.std.proofs.Math.Seq.{take_at, drop_at}
use Rattle.lists.specs.Part.{put_at}

module _ (d : List ℕ) (x : ℕ) (s : List ℕ) (fits : x + length s ≤ length d) where
  front : length (take x d) ≡ x
  front = length-take-le x d (omega arith)

  whole : length (take x d ++ s) ≡ x + length s
  whole = length-append (take x d) s ∙ ap (λ (n : ℕ). n + length s) front

  pub take-put_at : take x (put_at d x s) ≡ take x d
  unfolding put_at
  take-put_at = take_at (take x d) (s ++ drop (x + length s) d) x front

  pub drop-put_at : drop x (put_at d x s) ≡ s ++ drop (x + length s) d
  unfolding put_at
  drop-put_at = drop_at (take x d) (s ++ drop (x + length s) d) x front

  pub take-put_at-end : take (x + length s) (put_at d x s) ≡ take x d ++ s
  unfolding put_at
  take-put_at-end =
      ap (take (x + length s)) (sym (append_assoc (take x d) s (drop (x + length s) d)))
      ∙ take_at (take x d ++ s) (drop (x + length s) d) (x + length s) whole

  pub drop-put_at-end : drop (x + length s) (put_at d x s) ≡ drop (x + length s) d
  unfolding put_at
  drop-put_at-end =
      ap (drop (x + length s)) (sym (append_assoc (take x d) s (drop (x + length s) d)))
      ∙ drop_at (take x d ++ s) (drop (x + length s) d) (x + length s) whole

  pub take-put_at-before : (y : ℕ) → y ≤ x → take y (put_at d x s) ≡ take y d
  take-put_at-before y h = sym (take-take y x (put_at d x s) h) ∙ ap (take y) take-put_at ∙ take-take y x d h

  pub drop-put_at-behind : (y : ℕ) → x + length s ≤ y → drop y (put_at d x s) ≡ drop y d
  drop-put_at-behind y h =
      let m : ℕ = y - (x + length s) in
      let e : x + length s + m ≡ y = omega arith in
      ap (λ (n : ℕ). drop n (put_at d x s)) (sym e) ∙ sym (drop-drop m (x + length s) (put_at d x s))
      ∙ ap (drop m) drop-put_at-end ∙ drop-drop m (x + length s) d ∙ ap (λ (n : ℕ). drop n d) e

pub put_at-front : (d : List ℕ) (x : ℕ) (a b : List ℕ) → x + length a + length b ≤ length d
    → put_at (put_at d (x + length a) b) x a ≡ put_at d x (a ++ b)
unfolding put_at
put_at-front d x a b fits =
    let e : x + length a + length b ≡ x + length (a ++ b) = omega (arith, length-append a b) in
    ap₂ (λ (p q : List ℕ). p ++ (a ++ q)) (take-put_at-before d (x + length a) b fits x (omega arith)) (drop-put_at d (x + length a) b fits)
    ∙ ap (◌++◌ (take x d)) (sym (append_assoc a b (drop (x + length a + length b) d)) ∙ ap (λ (n : ℕ). (a ++ b) ++ drop n d) e)

pub put_at-behind : (d : List ℕ) (x : ℕ) (a b : List ℕ) → x + length a + length b ≤ length d
    → put_at (put_at d x a) (x + length a) b ≡ put_at d x (a ++ b)
unfolding put_at
put_at-behind d x a b fits =
    let e : x + length a + length b ≡ x + length (a ++ b) = omega (arith, length-append a b) in
    let inside : x + length a ≤ length d = omega arith in
    ap₂ (λ (p q : List ℕ). p ++ (b ++ q)) (take-put_at-end d x a inside) (drop-put_at-behind d x a inside (x + length a + length b) (omega arith))
    ∙ append_assoc (take x d) a (b ++ drop (x + length a + length b) d)
    ∙ ap (◌++◌ (take x d)) (sym (append_assoc a b (drop (x + length a + length b) d)) ∙ ap (λ (n : ℕ). (a ++ b) ++ drop n d) e)
