-- One step of long division by b = X^n + .. + b₀, n at least 1, over any ring of characteristic 2.
--
--   monic b₀ low       b, by its lower coefficients b₀ ∷ low
--   degree-monic       its degree
--   remainder-step, over-step
--                      what the step makes of a ∷ p, where division of p leaves r
use Rattle.std.specs.Prelude.{◌≡◌, refl, ℕ, suc, length}
use Rattle.std.proofs.Math.Path.{ap, ap₂}
use Rattle.std.proofs.Common.{◌∙◌, arith, length-append, take_at}
use mathlib.Core.List.{List, [], ◌∷◌, ◌++◌}
use Rattle.std.proofs.Math.ListN.{take, get_or}
use Rattle.algebra.specs.Operations.{Operations}
use Rattle.algebra.specs.Ring.{Ring2, ops}
use Rattle.algebra.specs.Polynomial.{plus, scale}
use Rattle.polynomial.specs.Division.{degree, remainder, over}

module _ {K : Type 0} (R : Ring2 K) where
  infixl 60 ◌+◌
  infixl 70 ◌*◌
  open R use {zero as 𝟘, one as 𝟙, add as ◌+◌, mul as ◌*◌}

  abbrev O : Operations K
  O = ops R

  abbrev pub monic : K → List K → List K
  monic b₀ low = b₀ ∷ low ++ (𝟙 ∷ [])

  module _ (b₀ : K) (low : List K) where
    abbrev b : List K
    b = monic b₀ low

    pub degree-monic : degree b ≡ suc (length low)
    degree-monic = let l = length-append low (𝟙 ∷ []) in omega arith

    lower : take (suc (length low)) b ≡ b₀ ∷ low
    lower = ap (◌∷◌ b₀) (take_at low (𝟙 ∷ []) (length low) refl)

    pub remainder-step : (a : K) (p r : List K) → remainder O p b ≡ r
        → remainder O (a ∷ p) b ≡ plus O (a ∷ take (length low) r) (scale O (get_or r (length low) 𝟘) (b₀ ∷ low))
    unfolding remainder
    remainder-step a p r e =
        ap₂ (λ (n : ℕ) (s : List K). plus O (take n (a ∷ s)) (scale O (get_or (a ∷ s) n 𝟘) (take n b))) degree-monic e
        ∙ ap (λ (l : List K). plus O (a ∷ take (length low) r) (scale O (get_or r (length low) 𝟘) l)) lower

    pub over-step : (a : K) (p r : List K) → remainder O p b ≡ r → over O (a ∷ p) b ≡ get_or r (length low) 𝟘 ∷ over O p b
    unfolding over
    over-step a p r e = ap₂ (λ (n : ℕ) (s : List K). get_or (a ∷ s) n 𝟘 ∷ over O p b) degree-monic e
