-- What one share announces at all positions, and v from it. The constants enter where `first`.
--
-- gamma p message2 s l       the part of v that does not depend on the sums α̂ and β̂: c + ε·F(r)·P(r)
-- announced_of p key message2 first s   α (4t), β (4t) and γ (4t) of the share
-- v_of p s first γ α̂ β̂ l   'v = c + ε·F(r)·P(r) + α̂·b + β̂·a', with α̂·β̂ where `first`, from γ
use Rattle.std.specs.Prelude.{Bool, cond, List, ◌++◌, ℕ}
use Rattle.tower.specs.Field.{Point}
use Rattle.parameters.specs.declared.Parameters.{Parameters}
use Rattle.exchange.specs.Reading.{encode, value, ◌⊞◌, ◌⊠◌, 𝟎}
use Rattle.exchange.specs.Values.{Key, p_of, F, a_of, b_of, c_of, point_of, multiplier_of, alpha, beta}
pub mod Laws

unfoldable pub gamma : Parameters → List ℕ → List ℕ → ℕ → Point
gamma p message2 s l = c_of p s l ⊞ multiplier_of p message2 l ⊠ (value (F p) (point_of p message2 l) ⊠ value (p_of p s) (point_of p message2 l))

unfoldable pub announced_of : Parameters → Key → List ℕ → Bool → List ℕ → List ℕ
announced_of p key message2 first s =
    encode (alpha p key message2 first s) p.t ++ (encode (beta p key message2 first s) p.t ++ encode (gamma p message2 s) p.t)

unfoldable pub v_of : Parameters → List ℕ → Bool → Point → Point → Point → ℕ → Point
v_of p s first γ α̂ β̂ l = γ ⊞ α̂ ⊠ b_of p s l ⊞ β̂ ⊠ a_of p s l ⊞ cond first (α̂ ⊠ β̂) 𝟎
