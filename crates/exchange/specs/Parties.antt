-- Sums over leaves and over parties, and what is hashed of an axis.
--
-- total p picks s n          the sum of the shares s i of the leaves below n that the test picks
-- party_of p j c              'On axis j, party c sums the leaves whose coordinate j is c': the test for its leaves
-- sums f n                   f 0 + .. + f (n−1) in the points field
-- Announced                  α, β and v of the parties of an axis, by party and position
-- announced_bytes p A c       'α, β, v (4t each)' of party c
-- axis_string p pre j A       layer 6's string of axis j: 'of party 1, then of party 2'
-- sums_of p A                 the sums of α, β and v over the parties, at each position: what is compared between axes
use Rattle.std.specs.Prelude.{Bool, cond, List, ◌++◌, ℕ, zero, suc, eqb, replicate}
use Rattle.cube.specs.Group.{additive}
use Rattle.cube.specs.Sum.{sum}
use Rattle.lists.specs.Sum.{xor_list}
use Rattle.tower.specs.Field.{Point}
use Rattle.parameters.specs.declared.Parameters.{Parameters}
use Rattle.layout.specs.Layout.{side, digit, share_length}
use Rattle.exchange.specs.Strings.{string6}
use Rattle.exchange.specs.Reading.{points, encode}

unfoldable pub total : Parameters → (ℕ → Bool) → (ℕ → List ℕ) → ℕ → List ℕ
total p picks s zero = replicate (share_length p) 0
total p picks s (suc n) = cond (picks n) (xor_list (total p picks s n) (s n)) (total p picks s n)

unfoldable pub party_of : Parameters → ℕ → ℕ → ℕ → Bool
party_of p j c i = eqb (digit p j i) c

abbrev pub sums : (ℕ → Point) → ℕ → Point
sums = sum (additive points.base)

pub record Announced : Type 0 where
  pub α : ℕ → ℕ → Point
  pub β : ℕ → ℕ → Point
  pub v : ℕ → ℕ → Point

unfoldable pub announced_bytes : Parameters → Announced → ℕ → List ℕ
announced_bytes p A c = encode (A.α c) p.t ++ (encode (A.β c) p.t ++ encode (A.v c) p.t)

unfoldable pub axis_string : Parameters → List ℕ → ℕ → Announced → List ℕ
axis_string p prefix j A = string6 prefix j (announced_bytes p A) (side p)

unfoldable pub sums_of : Parameters → Announced → List ℕ
sums_of p A =
    encode (λ l. sums (λ c. A.α c l) (side p)) p.t
    ++ (encode (λ l. sums (λ c. A.β c l) (side p)) p.t ++ encode (λ l. sums (λ c. A.v c l) (side p)) p.t)
