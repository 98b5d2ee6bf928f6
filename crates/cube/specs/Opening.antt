-- One axis as the parties announce it. A leaf i announces w i : A (its α and β at a position); the totals over the parties being
-- known, it has the part v i : A → B of v. The constants are k : A and k' : A → B.
--
--   announced w c       α and β of party c
--   totals w            'α̂ and β̂ are the sums over the parties of the axis'
--   formula w v c       v of party c by its formula
--   verified u w v c    v of party c for the verifier of an opening that hides leaf u: the party that holds the leaf 'takes the v
--                       that makes the axis sum zero'
use Rattle.std.specs.Prelude.{ℕ}
use Rattle.cube.specs.Group.{Group2}
use Rattle.cube.specs.Sum.{sum}
use Rattle.cube.specs.Party.{Partition, party, balanced}
pub mod Laws

module _ {A B : Type 0} (G : Group2 A) (H : Group2 B) (X : Partition) (k : A) (k' : A → B) where
  unfoldable pub announced : (ℕ → A) → ℕ → A
  announced w = party G X k w

  unfoldable pub totals : (ℕ → A) → A
  totals w = sum G (announced w) X.parties

  unfoldable pub formula : (ℕ → A) → (ℕ → A → B) → ℕ → B
  formula w v = party H X (k' (totals w)) (λ i. v i (totals w))

  unfoldable pub verified : ℕ → (ℕ → A) → (ℕ → A → B) → ℕ → B
  verified u w v = balanced H X.parties (X.party_of u) (formula w v)
