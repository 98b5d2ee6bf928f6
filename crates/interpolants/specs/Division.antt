-- Division of each share of a list of words by a monic polynomial, X^d + g, where g has d coefficients.
--
--   monic_at g z          the value of X^d + g at z
--   with_quotient g n f b z
--                        the value at z of f + X^n·(X^d + g)·b
--   Reduced g k t t₀     division of t₀ has come down to place k and left t: the places of t from k on are what there is of the quotient
--   Divided g t₀ t       t has the remainder of t₀ in its first d places, and the quotient behind it
use Rattle.std.specs.Prelude.{◌≡◌, List, ℕ, ◌-◌, ◌<◌, length, take, drop}
use Rattle.algebra.specs.Polynomial.{eval, pow}
use Rattle.lists.specs.Xor.{◌⊕◌}
use Rattle.bytefield.specs.Product.{◌⊗◌, byte_ops}
use Rattle.packed.specs.Share.{share}

abbrev pub monic_at : List ℕ → ℕ → ℕ
monic_at g z = eval byte_ops g z ⊕ pow byte_ops z (length g)

abbrev pub with_quotient : List ℕ → ℕ → List ℕ → List ℕ → ℕ → ℕ
with_quotient g n f b z = eval byte_ops f z ⊕ pow byte_ops z n ⊗ monic_at g z ⊗ eval byte_ops b z

abbrev pub Reduced : List ℕ → ℕ → List ℕ → List ℕ → Type 0
Reduced g k t t₀ =
    (i : ℕ) → i < 8 → (z : ℕ)
    → with_quotient g (k - length g) (take k (share i t)) (drop k (share i t)) z ≡ eval byte_ops (share i t₀) z

abbrev pub Divided : List ℕ → List ℕ → List ℕ → Type 0
Divided g t₀ t =
    (i : ℕ) → i < 8 → (z : ℕ)
    → eval byte_ops (take (length g) (share i t)) z ⊕ monic_at g z ⊗ eval byte_ops (drop (length g) (share i t)) z ≡ eval byte_ops (share i t₀) z
