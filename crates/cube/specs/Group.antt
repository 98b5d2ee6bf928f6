-- Commutative groups in which every element is its own negative.
--
--   Group2 A          zero and sum on A, with the laws of a commutative group in which a + a = 0
--   additive R        the sum of a ring of characteristic 2
--   pairs G H         pairs, added part by part
--   pair_path         pairs with equal parts are equal
use Rattle.std.specs.Prelude.{◌≡◌}
use Rattle.algebra.specs.Ring.{Ring2}
pub mod Laws

pub record Group2 (A : Type 0) : Type 0 where
  pub zero : A
  pub add : A → A → A
  pub add_assoc : (a b c : A) → add (add a b) c ≡ add a (add b c)
  pub add_comm : (a b : A) → add a b ≡ add b a
  pub add-zero : (a : A) → add a zero ≡ a
  pub add-self : (a : A) → add a a ≡ zero

-- ---- groups from others
abbrev pub additive : {K : Type 0} → Ring2 K → Group2 K
additive R = record {
  zero = R.zero;
  add = R.add;
  add_assoc = R.add_assoc;
  add_comm = R.add_comm;
  add-zero = R.add-zero;
  add-self = R.add-self;
}

pub pair_path : {A B : Type 0} {a a' : A} {b b' : B} → a ≡ a' → b ≡ b' → ◌≡◌ {A = A × B} (a, b) (a', b')
pair_path p q = λ i. (p i, q i)

abbrev pub pairs : {A B : Type 0} → Group2 A → Group2 B → Group2 (A × B)
pairs G H = record {
  zero = (G.zero, H.zero);
  add = λ x y. (G.add x.0 y.0, H.add x.1 y.1);
  add_assoc = λ x y z. pair_path (G.add_assoc x.0 y.0 z.0) (H.add_assoc x.1 y.1 z.1);
  add_comm = λ x y. pair_path (G.add_comm x.0 y.0) (H.add_comm x.1 y.1);
  add-zero = λ x. pair_path (G.add-zero x.0) (H.add-zero x.1);
  add-self = λ x. pair_path (G.add-self x.0) (H.add-self x.1);
}
