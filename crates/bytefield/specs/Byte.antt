-- Bytes as a field of characteristic 2, and the way from numbers to it.
--
--   Byte                        a number below 256
--   byte n                      the low byte of a number
--   byte_ring                   the ring of bytes, with ⊕ and ⊗; byte_inverse: the inverse
use Rattle.std.specs.Prelude.{◌≡◌, ℕ, ◌%◌, ◌<◌}
use Rattle.std.proofs.Common.{ap, ◌∙◌, mod-lt, arith, lit<}
use mathlib.Core.HLevel.{Σ_prop_path}
use Rattle.std.proofs.Math.Bridge.{le_prop}
use Rattle.std.proofs.Math.Decide.{ℕ_discrete}
use Rattle.algebra.specs.Ring.{Ring2}
use Rattle.algebra.specs.Field.{Field2}
use Rattle.lists.specs.Xor.{◌⊕◌}
use Rattle.lists.specs.Xor.Laws.{⊕-assoc, ⊕-comm, ⊕-zero, ⊕-self, ⊕-lt, positive}
use Rattle.bytefield.specs.Product.{◌⊗◌}
use Rattle.bytefield.specs.Product.Laws.{⊗-comm, ⊗-assoc, ⊗-lt, ⊗-add, one-⊗}
use Rattle.bytefield.specs.Inverse.{inverse}
use Rattle.bytefield.specs.Inverse.Laws.{inverse-lt}
pub mod Laws

abbrev pub Byte : Type 0
Byte = (n : ℕ) × (n < 256)

unfoldable pub byte : ℕ → Byte
byte n = (n % 256, mod-lt n (lit< tt))

pub byte-path : {x y : Byte} → x.0 ≡ y.0 → x ≡ y
byte-path p = Σ_prop_path (λ n. le_prop) p

-- ---- the ring
unfoldable pub byte_ring : Ring2 Byte
byte_ring = record {
  zero = (0, lit< tt);
  one = (1, lit< tt);
  add = λ x y. (x.0 ⊕ y.0, ⊕-lt 8 x.1 y.1);
  mul = λ x y. (x.0 ⊗ y.0, ⊗-lt x.0 y.0);
  add_assoc = λ x y z. byte-path (⊕-assoc x.0 y.0 z.0);
  add_comm = λ x y. byte-path (⊕-comm x.0 y.0);
  add-zero = λ x. byte-path (⊕-zero x.0);
  add-self = λ x. byte-path (⊕-self x.0);
  mul_assoc = λ x y z. byte-path (⊗-assoc x.0 y.0 z.0);
  mul_comm = λ x y. byte-path (⊗-comm x.0 y.0);
  mul-one = λ x. byte-path (⊗-comm x.0 1 ∙ one-⊗ x.0 x.1);
  mul-add = λ x y z. byte-path (⊗-add x.0 y.0 z.0);
}

-- ---- the inverse
unfoldable pub byte_inverse : Byte → Byte
byte_inverse a = (inverse a.0, inverse-lt a.0)

pub byte-one≢zero : byte_ring.one ≡ byte_ring.zero → ⊥
unfolding byte_ring
byte-one≢zero e = let z : ◌≡◌ {A = ℕ} 1 0 = ap (λ (x : Byte). x.0) e in omega arith

pub byte-zero? : (a : Byte) → Dec (a ≡ byte_ring.zero)
unfolding byte_ring
byte-zero? a = go (ℕ_discrete a.0 0)
  where
    go : Dec (a.0 ≡ 0) → Dec (a ≡ byte_ring.zero)
    go (yes p) = yes (byte-path p)
    go (no p) = no (λ e. p (ap (λ (x : Byte). x.0) e))
