-- Division of a multiple of b: (p·b) / b is p.
--
--   over-times     with zeros above it, since the quotient has as many coefficients as p·b
use Rattle.std.specs.Prelude.{◌≡◌}
use Rattle.std.proofs.Math.Path.{refl, sym, ap, ap₂}
use Rattle.std.proofs.Common.{◌∙◌, not-suc-le-zero, take_all}
use mathlib.Core.List.{List, [], ◌∷◌, ◌++◌, append-nil}
use Prim.Native.Nat.{ℕ, zero, suc, ◌+◌ as ◌+ℕ◌, ◌≤◌}
use Rattle.std.proofs.Math.Nat.{le_of_eq}
use native.Mathlib.Omega.{arith}
use Rattle.std.proofs.Math.ListN.{length, take, get_or, replicate, length-append, get_or-replicate, get_or-eq_default}
use Rattle.std.proofs.lemmas.List.{length-replicate}
use Rattle.std.proofs.Math.Seq.{take_at, get_or_at, take-append-add, get_or-append-add}
use Rattle.algebra.specs.Operations.{Operations}
use Rattle.algebra.specs.Ring.{Ring2, ops}
use Rattle.algebra.specs.Ring.Laws.{ring}
use Rattle.algebra.specs.Polynomial.{plus, scale, times}
use Rattle.algebra.specs.Polynomial.Lengths.{length-plus, length-scale}
use Rattle.polynomial.specs.Division.{degree, remainder, over}
use Rattle.polynomial.specs.Sums.{plus_comm, plus-move, get_d-plus, take-plus, scale-append, plus-twice, plus_none, plus-zeros, length-plus-ge}
use Rattle.polynomial.specs.Division.Step.{monic, degree-monic, remainder-step, over-step}

module _ {K : Type 0} (R : Ring2 K) where
  infixl 60 ◌+◌
  infixl 70 ◌*◌
  open R use {zero as 𝟘, one as 𝟙, add as ◌+◌, mul as ◌*◌}

  abbrev O : Operations K
  O = ops R

  module _ (b₀ : K) (low : List K) where
    abbrev b : List K
    b = monic R b₀ low

    -- ---- a polynomial of lower degree than b is its own remainder

    take-replicate : (k : ℕ) → take k (replicate (suc k) 𝟘) ≡ replicate k 𝟘
    take-replicate zero = refl
    take-replicate (suc k) = ap (◌∷◌ 𝟘) (take-replicate k)

    remainder-short : (r : List K) (k : ℕ) → length r +ℕ k ≡ suc (length low) → remainder O r b ≡ r ++ replicate k 𝟘
    unfolding remainder
    remainder-short [] k e = let d = degree-monic R b₀ low in let q : degree b ≡ k = omega arith in ap (λ (n : ℕ). replicate n 𝟘) q
    remainder-short (a ∷ r) k e =
        let at : length r +ℕ k ≡ length low = omega arith in
        let rest : List K = r ++ replicate (suc k) 𝟘 in
        let front : take (length low) rest ≡ r ++ replicate k 𝟘
        = ap (λ (n : ℕ). take n rest) (sym at) ∙ take-append-add r (replicate (suc k) 𝟘) k ∙ ap (◌++◌ r) (take-replicate k) in
        let last : get_or rest (length low) 𝟘 ≡ 𝟘
        = ap (λ (n : ℕ). get_or rest n 𝟘) (sym at) ∙ get_or-append-add r (replicate (suc k) 𝟘) k 𝟘 ∙ get_or-replicate (suc k) k 𝟘 𝟘 (omega arith) in
        let long : length (b₀ ∷ low) ≤ length (a ∷ r ++ replicate k 𝟘) = simp (length-append, length-replicate) (omega arith) in
        remainder-step R b₀ low a r rest (remainder-short r (suc k) (omega arith))
        ∙ ap₂ (λ (l : List K) (c : K). plus O (a ∷ l) (scale O c (b₀ ∷ low))) front last
        ∙ plus_none R (a ∷ r ++ replicate k 𝟘) (b₀ ∷ low) long

    over-short : (r : List K) (k : ℕ) → length r +ℕ k ≡ suc (length low) → over O r b ≡ replicate (length r) 𝟘
    unfolding over
    over-short [] k e = refl
    over-short (a ∷ r) k e =
        let at : length r +ℕ k ≡ length low = omega arith in
        let rest : List K = r ++ replicate (suc k) 𝟘 in
        let last : get_or rest (length low) 𝟘 ≡ 𝟘
        = ap (λ (n : ℕ). get_or rest n 𝟘) (sym at) ∙ get_or-append-add r (replicate (suc k) 𝟘) k 𝟘 ∙ get_or-replicate (suc k) k 𝟘 𝟘 (omega arith) in
        over-step R b₀ low a r rest (remainder-short r (suc k) (omega arith)) ∙ ap₂ ◌∷◌ last (over-short r (suc k) (omega arith))

    -- ---- a multiple of b plus a polynomial of lower degree

    high : List K
    high = low ++ (𝟙 ∷ [])

    -- what p·b + (r₀ ∷ r) has above its lowest coefficient, where p is c ∷ p'
    carried : K → List K → List K
    carried c r = plus O (scale O c high) r

    module _ (c : K) (r : List K) (short : length r ≡ length low) where
      length-carried : length (carried c r) ≡ suc (length low)
      unfolding carried high
      length-carried =
          let s : length (scale O c (low ++ (𝟙 ∷ []))) ≡ suc (length low) = length-scale O c (low ++ (𝟙 ∷ [])) ∙ length-append low (𝟙 ∷ []) ∙ omega arith in
          ap length (plus_comm R (scale O c (low ++ (𝟙 ∷ []))) r) ∙ length-plus O r (scale O c (low ++ (𝟙 ∷ []))) (omega arith) ∙ s

      carried-last : get_or (carried c r) (length low) 𝟘 ≡ c
      unfolding carried high scale
      carried-last =
          get_d-plus R (scale O c (low ++ (𝟙 ∷ []))) r (length low)
          ∙ ap₂ ◌+◌
          (ap (λ (l : List K). get_or l (length low) 𝟘) (scale-append R c low (𝟙 ∷ []))
          ∙ get_or_at (scale O c low) (c * 𝟙) [] 𝟘 (length low) (length-scale O c low))
          (get_or-eq_default r 𝟘 (le_of_eq short))
          ∙ only c
        where
          only : (c : K) → c * 𝟙 + 𝟘 ≡ c
          only c = simp (ring, R)

      carried-front : take (length low) (carried c r) ≡ plus O (scale O c low) r
      unfolding carried high
      carried-front =
          take-plus R (length low) (scale O c (low ++ (𝟙 ∷ []))) r
          ∙ ap₂ (plus O)
          (ap (take (length low)) (scale-append R c low (𝟙 ∷ [])) ∙ take_at (scale O c low) (scale O c (𝟙 ∷ [])) (length low) (length-scale O c low))
          (take_all (length low) r (le_of_eq short))

    times-step : (c : K) (p : List K) (r₀ : K) (r : List K)
        → plus O (times O (c ∷ p) b) (r₀ ∷ r) ≡ (c * b₀ + 𝟘 + r₀) ∷ plus O (times O p b) (carried c r)
    unfolding times plus scale carried high
    times-step c p r₀ r = ap (◌∷◌ (c * b₀ + 𝟘 + r₀)) (plus-move R (scale O c (low ++ (𝟙 ∷ []))) (times O p b) r)

    drop-twice : (c b₀ r₀ : K) → c * b₀ + 𝟘 + r₀ + c * b₀ ≡ r₀
    drop-twice c b₀ r₀ = simp (ring, R)

    divided : (p r : List K) → length r ≡ suc (length low)
        → (remainder O (plus O (times O p b) r) b ≡ r) × (over O (plus O (times O p b) r) b ≡ p ++ replicate (length r) 𝟘)
    unfolding times plus scale
    divided [] r e = (remainder-short r 0 (omega arith) ∙ append-nil r, over-short r 0 (omega arith))
    divided (c ∷ p) [] e = absurd (omega (arith, e))
    divided (c ∷ p) (r₀ ∷ r) e =
        let short : length r ≡ length low = omega arith in
        let s : length (scale O c low) ≤ length r = le_of_eq (length-scale O c low ∙ sym short) in
        let rest : List K = plus O (times O p b) (carried c r) in
        let ih = divided p (carried c r) (length-carried c r short) in (
          ap (λ (l : List K). remainder O l b) (times-step c p r₀ r)
              ∙ remainder-step R b₀ low (c * b₀ + 𝟘 + r₀) rest (carried c r) ih.0
              ∙ ap₂ (λ (l : List K) (k : K). plus O ((c * b₀ + 𝟘 + r₀) ∷ l) (scale O k (b₀ ∷ low))) (carried-front c r short) (carried-last c r short)
              ∙ ap₂ ◌∷◌ (drop-twice c b₀ r₀) (plus-twice R (scale O c low) r s),
          ap (λ (l : List K). over O l b) (times-step c p r₀ r)
              ∙ over-step R b₀ low (c * b₀ + 𝟘 + r₀) rest (carried c r) ih.0
              ∙ ap₂ ◌∷◌ (carried-last c r short) (ih.1 ∙ ap (λ (n : ℕ). p ++ replicate n 𝟘) (length-carried c r short ∙ sym e)),
        )

  pub over-times : (p low : List K) → 1 ≤ length p → 1 ≤ length low
      → over O (times O p (low ++ (𝟙 ∷ []))) (low ++ (𝟙 ∷ [])) ≡ p ++ replicate (length low) 𝟘
  unfolding times
  over-times [] low h k = absurd (not-suc-le-zero h)
  over-times (c ∷ p) [] h k = absurd (not-suc-le-zero k)
  over-times (c ∷ p) (b₀ ∷ low) h k =
      let d : List K = b₀ ∷ low ++ (𝟙 ∷ []) in
      let s : length (scale O c d) ≡ suc (suc (length low)) = length-scale O c d ∙ ap suc (length-append low (𝟙 ∷ [])) ∙ omega arith in
      let g = length-plus-ge R (scale O c d) (𝟘 ∷ times O p d) in
      ap (λ (l : List K). over O l d) (sym (plus-zeros R (times O (c ∷ p) d) (suc (length low)) (omega arith)))
      ∙ (divided b₀ low (c ∷ p) (replicate (suc (length low)) 𝟘) (length-replicate (suc (length low)) 𝟘)).1
      ∙ ap (λ (n : ℕ). (c ∷ p) ++ replicate n 𝟘) (length-replicate (suc (length low)) 𝟘)
