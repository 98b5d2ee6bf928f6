-- Seeds in a buffer, one place of sixteen bytes each.
--
-- slot s       the place of the seed s: the seed, or sixteen zeros where there is none (the hidden leaf's)
-- laid ss      the places of the seeds ss one after another
-- Full ss      each seed has sixteen bytes
-- Slotted ss   each seed has sixteen bytes or is not there
use Rattle.std.specs.Prelude.{◌≡◌, List, [], ◌∷◌, ◌++◌, ℕ, length, replicate}
use Rattle.algebra.specs.Each.{Each}
pub mod Laws

unfoldable pub slot : List ℕ → List ℕ
slot [] = replicate 16 0
slot (b ∷ s) = b ∷ s

unfoldable pub laid : List (List ℕ) → List ℕ
laid [] = []
laid (s ∷ ss) = slot s ++ laid ss

abbrev pub Full : List (List ℕ) → Type 0
Full ss = Each (λ s. length s ≡ 16) ss

abbrev pub Slotted : List (List ℕ) → Type 0
Slotted ss = Each (λ s. length (slot s) ≡ 16) ss
