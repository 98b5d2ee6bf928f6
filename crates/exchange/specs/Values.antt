-- What a share announces: α, β and v at each position. Every one is linear in the share, but for the constants.
-- 'Constants (y in S, the leading term of Q, α̂·β̂ in v) go to party 1 alone, never to a leaf': they enter where `first` is true.
--
-- Key, key_of           matrix H' and y, as lent
-- x_a_of, q_of, p_of s     x_A, Q and P of the share s; Q with its leading coefficient, 1 where `first`, else 0
-- a_of, b_of, c_of s l    a, b and c of s at position l
-- point_of, multiplier_of m2 l   r and ε of message 2 at position l: 't points r, t multipliers ε'
-- image_of p key x_A    H'x_A
-- x_of p key first s    x of the share: x_A followed by H'x_A, with y added where `first`
-- s_of p key first s    S, which interpolates it
-- F p                  the product of X + f_i over all i
-- alpha                'α = ε·Q(r) + a'
-- beta                 'β = S(r) + b'
-- part_v                'v = c + ε·F(r)·P(r) + α̂·b + β̂·a', with α̂·β̂ where `first`
use Rattle.std.specs.Prelude.{Bool, cond, List, [], ◌∷◌, ◌++◌, ℕ, ◌+◌, ◌*◌}
use Rattle.lists.specs.Sum.{xor_list}
use Rattle.tower.specs.Field.{Point}
use Rattle.parameters.specs.declared.Parameters.{Parameters}
use Rattle.polynomial.specs.Interpolant.{interpolant_of, vanishing_of}
use Rattle.relation.specs.Key.{rows}
use Rattle.layout.specs.Layout.{points_length, at_b, at_x, at_q, at_p, at_c, y_length}
use Rattle.exchange.specs.Reading.{bytes_at, point_at, value, ◌⊞◌, ◌⊠◌, 𝟎}

pub record Key : Type 0 where
  pub matrix : List ℕ
  pub y : List ℕ

abbrev pub key_of : List ℕ → List ℕ → Key
key_of matrix y = record { matrix = matrix; y = y }

-- ---- the parts of a share, and of message 2

module _ (p : Parameters) where
  unfoldable pub x_a_of : List ℕ → List ℕ
  x_a_of s = bytes_at s (at_x p) p.k

  unfoldable pub q_of : Bool → List ℕ → List ℕ
  q_of first s = bytes_at s (at_q p) p.w ++ (cond first 1 0 ∷ [])

  unfoldable pub p_of : List ℕ → List ℕ
  p_of s = bytes_at s (at_p p) p.w

  unfoldable pub a_of : List ℕ → ℕ → Point
  a_of s l = point_at s (4 * l)

  unfoldable pub b_of : List ℕ → ℕ → Point
  b_of s l = point_at s (at_b p + 4 * l)

  unfoldable pub c_of : List ℕ → ℕ → Point
  c_of s l = point_at s (at_c p + 4 * l)

  unfoldable pub point_of : List ℕ → ℕ → Point
  point_of m2 l = point_at m2 (4 * l)

  unfoldable pub multiplier_of : List ℕ → ℕ → Point
  multiplier_of m2 l = point_at m2 (points_length p + 4 * l)

  unfoldable pub F : List ℕ
  F = vanishing_of p.m

-- ---- what it announces

module _ (p : Parameters) (key : Key) where
  unfoldable pub image_of : List ℕ → List ℕ
  image_of x_a = rows (y_length p) key.matrix x_a

  unfoldable pub x_of : Bool → List ℕ → List ℕ
  x_of first s = x_a_of p s ++ xor_list (image_of (x_a_of p s)) (cond first (bytes_at key.y 0 (y_length p)) [])

  unfoldable pub s_of : Bool → List ℕ → List ℕ
  s_of first s = interpolant_of (x_of first s)

  module _ (m2 : List ℕ) (first : Bool) (s : List ℕ) where
    unfoldable pub alpha : ℕ → Point
    alpha l = multiplier_of p m2 l ⊠ value (q_of p first s) (point_of p m2 l) ⊞ a_of p s l

    unfoldable pub beta : ℕ → Point
    beta l = value (s_of first s) (point_of p m2 l) ⊞ b_of p s l

    unfoldable pub part_v : Point → Point → ℕ → Point
    part_v α̂ β̂ l =
        c_of p s l ⊞ multiplier_of p m2 l ⊠ (value (F p) (point_of p m2 l) ⊠ value (p_of p s) (point_of p m2 l))
        ⊞ α̂ ⊠ b_of p s l ⊞ β̂ ⊠ a_of p s l ⊞ cond first (α̂ ⊠ β̂) 𝟎
