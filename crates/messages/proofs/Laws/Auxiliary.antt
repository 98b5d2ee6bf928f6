-- The laws of aux.
--
-- own_aux-is          the exchange's aux is that of what its leaves drew
-- product-made       c at a position from the steps of the code
-- length-q, length-u, left-q, left-u   the lengths while Q and P are written: theirs, and that of the slice
-- wanted-made        x_A is written, Q with its leading 1 behind it, P over that 1 and on, and c at the end
use Rattle.std.specs.Prelude.{◌≡◌, refl, List, ◌++◌, ℕ, ◌+◌, ◌-◌, ◌*◌, ◌≤◌, length, take, drop}
use Rattle.std.proofs.Common.{sym, ap, ap₂, ◌∙◌, append_assoc, le_of_eq, arith, length-append, length-take, length-drop, take_at, take_all, length-take-le}
use Rattle.std.proofs.Math.Seq.{take-append-add}
use Rattle.std.proofs.lemmas.List.{take-append-le}
use Rattle.lists.specs.Part.{put_at}
use Rattle.tower.specs.Field.{Point, point, bytes_of}
use Rattle.tower.proofs.Field.Laws.{point-bytes_of}
use Rattle.parameters.specs.declared.Parameters.{Parameters}
use Rattle.layout.specs.Layout.{at_b}
use Rattle.exchange.specs.Run.{Run}
use Rattle.exchange.specs.Reading.{point_at, ◌⊠◌}
use Rattle.exchange.specs.Values.{a_of, b_of}
use Rattle.exchange.specs.Messages.{drawn, wanted, own_aux}
use Rattle.points.specs.Written.{middle-kept}
use Rattle.messages.specs.Auxiliary.{products_of, wanted_for, aux_for}

pub own_aux-is : (hash : List ℕ → ℕ → List ℕ) (p : Parameters) (x : List ℕ) (run : Run) → own_aux hash p x run ≡ aux_for p x (drawn hash p x run)
unfolding own_aux wanted aux_for wanted_for products_of
own_aux-is hash p x run = refl

pub product-made : (p : Parameters) (s : List ℕ) (l : ℕ) (a b c : List ℕ) → a ≡ bytes_of (point_at s (4 * l)) → b ≡ bytes_of (point_at s (at_b p + 4 * l))
    → c ≡ bytes_of (point a ⊠ point b) → c ≡ bytes_of (products_of p s l)
unfolding products_of a_of b_of
product-made p s l a b c ea eb ec =
    ec ∙ ap₂ (λ (x y : Point). bytes_of (x ⊠ y)) (ap point ea ∙ point-bytes_of _) (ap point eb ∙ point-bytes_of _)

-- ---- four parts, each written over what the one before it left

-- q is lent the w + 1 places from k on, u the w places from k + w on, and n are left behind them
module _ (k w n : ℕ) (d q u : List ℕ) (sized : length d ≡ k + 2 * w + n) (some : 1 ≤ w)
    (eq : length q ≡ length (take (k + w + 1 - k) (drop k d))) where
  abbrev with_q : List ℕ
  with_q = take k d ++ (q ++ drop (k + w + 1 - k) (drop k d))

  pub length-q : length q ≡ w + 1
  length-q = eq ∙ simp (length-take, length-drop) (omega arith)

  pub left-q : length with_q ≡ length d
  left-q = let e = length-q in middle-kept k (k + w + 1 - k) q d (omega arith) (omega arith)

  module _ (eu : length u ≡ length (take (k + w + w - (k + w)) (drop (k + w) with_q))) where
    pub length-u : length u ≡ w
    length-u = let e = left-q in eu ∙ simp (length-take, length-drop) (omega arith)

    pub left-u : length (take (k + w) with_q ++ (u ++ drop (k + w + w - (k + w)) (drop (k + w) with_q))) ≡ length d
    left-u =
        let e = left-q in
        let f = length-u in
        middle-kept (k + w) (k + w + w - (k + w)) u with_q (omega arith) (omega arith) ∙ e

take-front : (k n : ℕ) (a b rest : List ℕ) → length a ≡ k → n ≤ length b → take (k + n) (a ++ (b ++ rest)) ≡ a ++ take n b
take-front k n a b rest e l =
    ap (λ (m : ℕ). take (m + n) (a ++ (b ++ rest))) (sym e) ∙ take-append-add a (b ++ rest) n ∙ ap (◌++◌ a) (take-append-le n b rest l)

pub wanted-made : (k w : ℕ) (d d₁ d₂ d₃ d₄ r₁ r₂ a q u v : List ℕ) → length a ≡ k → length q ≡ w + 1 → length u ≡ w → d₁ ≡ put_at d 0 a
    → d₂ ≡ take k d₁ ++ (q ++ r₁) → d₃ ≡ take (k + w) d₂ ++ (u ++ r₂) → d₄ ≡ take (k + w + w) d₃ ++ v → d₄ ≡ a ++ (take w q ++ (u ++ v))
unfolding put_at
wanted-made k w d d₁ d₂ d₃ d₄ r₁ r₂ a q u v la lq lu e₁ e₂ e₃ e₄ =
    let lt : length (take w q) ≡ w = length-take-le w q (omega arith) in
    let one : take k d₁ ≡ a = ap (take k) e₁ ∙ take_at a _ k la in
    let two : take (k + w) d₂ ≡ a ++ take w q
    = ap (take (k + w)) (e₂ ∙ ap (λ (z : List ℕ). z ++ (q ++ r₁)) one) ∙ take-front k w a q r₁ la (omega arith) in
    let three : take (k + w + w) d₃ ≡ (a ++ take w q) ++ u
    = ap (take (k + w + w)) (e₃ ∙ ap (λ (z : List ℕ). z ++ (u ++ r₂)) two)
    ∙ take-front (k + w) w (a ++ take w q) u r₂ (length-append a (take w q) ∙ ap₂ ◌+◌ la lt) (le_of_eq (sym lu))
    ∙ ap (◌++◌ (a ++ take w q)) (take_all w u (le_of_eq lu)) in
    e₄ ∙ ap (λ (z : List ℕ). z ++ v) three ∙ append_assoc (a ++ take w q) u v ∙ append_assoc a (take w q) (u ++ v)
