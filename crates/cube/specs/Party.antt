-- The parties of one axis, additively. Parties count from 0 here, so that document 01's party 1 is party 0.
--
--   Partition             an axis: each of the leaves belongs to one of the parties
--   member_sum X f c       'party c sums the leaves whose coordinate j is c'
--   party X k f c         the same with the constant k: constants 'go to party 1 alone, never to a leaf'
--   disclosed_sum X u f c  the sum of party c without leaf u: 'The verifier's party that holds the hidden leaf sums its disclosed leaves'
--   replaced u f x        the family f with x at u: the value that is given for the hidden leaf stands in the place of its own
--   balanced N h f        the family f with another value at h: 'the v that makes the axis sum zero'
use Rattle.std.specs.Prelude.{◌&&◌, not, cond, ℕ, ◌<◌, eqb}
use Rattle.cube.specs.Group.{Group2}
use Rattle.cube.specs.Sum.{sum}
pub mod Laws

pub record Partition : Type 0 where
  pub parties : ℕ
  pub leaves : ℕ
  pub party_of : ℕ → ℕ
  pub within : (i : ℕ) → i < leaves → party_of i < parties
  pub some : 0 < parties

unfoldable pub replaced : {A : Type 0} → ℕ → (ℕ → A) → A → ℕ → A
replaced u f x i = cond (eqb i u) x (f i)

module _ {A : Type 0} (G : Group2 A) where
  unfoldable pub balanced : ℕ → ℕ → (ℕ → A) → ℕ → A
  balanced N h f c = cond (eqb c h) (sum G (λ c. cond (eqb c h) G.zero (f c)) N) (f c)

  module _ (X : Partition) where
    unfoldable pub member_sum : (ℕ → A) → ℕ → A
    member_sum f c = sum G (λ i. cond (eqb (X.party_of i) c) (f i) G.zero) X.leaves

    unfoldable pub disclosed_sum : ℕ → (ℕ → A) → ℕ → A
    disclosed_sum u f c = sum G (λ i. cond (eqb (X.party_of i) c && not (eqb i u)) (f i) G.zero) X.leaves

    unfoldable pub party : A → (ℕ → A) → ℕ → A
    party k f c = G.add (cond (eqb c 0) k G.zero) (member_sum f c)
