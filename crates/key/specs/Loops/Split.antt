-- The interpolation points of E, and behind them the others, in one slice; l holds all interpolation points.
--
--   sized-points                    there is a point for each entry
--   sized_inside, -outside          what is lent has room for the points that are gathered
--   split-made                      the two parts, written one after the other
use Rattle.std.specs.Prelude.{◌≡◌, true, false, List, ◌++◌, ℕ, ◌-◌, ◌≤◌, ◌<◌, length, take, drop}
use Rattle.std.proofs.Common.{sym, ap₂, ◌∙◌, arith, length-drop, take_at, length-take-le}
use Rattle.std.proofs.Math.Path.{ap}
use Rattle.lists.specs.Part.Laws.{tail-part, tail-back}
use Rattle.algebra.specs.Marks.{pick, leave}
use Rattle.polynomial.specs.Interpolant.{interpolation_points}
use Rattle.polynomial.specs.Loops.Points.{points-front, length_front}
use Rattle.relation.specs.Key.{weight_of, positions}
use Rattle.relation.specs.Key.Polynomials.{inside, outside}
use Rattle.relation.proofs.Laws.Key.Polynomials.{length-inside, length-outside}
use Rattle.key.specs.Loops.Gather.{selected}

module _ (w : ℕ) (x l : List ℕ) (light : weight_of x ≤ w) (fits : w ≤ length x) (short : length x < 256) (e : l ≡ interpolation_points 255) where
  pub sized-points : length (take (length x) l) ≡ length x
  sized-points = length_front 255 (length x) l (omega arith) e

  made_inside : selected true (positions w x) (take (length x) l) ≡ inside w x
  unfolding selected
  made_inside = ap (pick (positions w x)) (points-front 255 (length x) l (omega arith) e)

  made-outside : selected false (positions w x) (take (length x) l) ≡ outside w x
  unfolding selected
  made-outside = ap (leave (positions w x)) (points-front 255 (length x) l (omega arith) e)

  pub sized_inside : (out : List ℕ) → length out ≡ length x → length (take w out) ≡ length (selected true (positions w x) (take (length x) l))
  sized_inside out k = length-take-le w out (omega arith) ∙ sym (ap length made_inside ∙ length-inside w x light fits)

  pub sized-outside : (out : List ℕ) → length out ≡ length x
      → length (take (length out - w) (drop w out)) ≡ length (selected false (positions w x) (take (length x) l))
  sized-outside out k =
      let a = ap length (tail-part out w) in
      let b = length-drop w out in
      let c = ap length made-outside in
      let d = length-outside w x light fits in
      omega arith

  pub split-made : (out a b : List ℕ) → length (a ++ drop w out) ≡ length x → a ≡ selected true (positions w x) (take (length x) l)
      → b ≡ selected false (positions w x) (take (length x) l)
      → take w (a ++ drop w out) ++ (b ++ drop (length (a ++ drop w out) - w) (drop w (a ++ drop w out))) ≡ inside w x ++ outside w x
  split-made out a b k ea eb =
      let n : length a ≡ w = ap length (ea ∙ made_inside) ∙ length-inside w x light fits in
      tail-back (a ++ drop w out) b w (omega arith)
      ∙ ap₂ ◌++◌ (take_at a (drop w out) w n ∙ ea ∙ made_inside) (eb ∙ made-outside)
