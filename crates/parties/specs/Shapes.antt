-- What the functions ask of their slices and numbers.
--
-- AddLeaf p s w             a share, and the sums
-- DrawShare p i st d        the states of all leaves, one of these leaves, and room for its share
-- AddDrawn p i st d s       the same, and a sum of shares
-- AddDisclosed p i st d w   the same, and the sums
-- ShareSum p st s           the states of all leaves, and room for a share
-- PartySums p st w          the states of all leaves, and room for the sums
use Rattle.std.specs.Prelude.{◌≡◌, List, ℕ, ◌≤◌, ◌<◌, length}
use Rattle.parameters.specs.declared.Parameters.{Parameters}
use Rattle.parameters.specs.Limits.{Within}
use Rattle.layout.specs.Layout.{leaves, share_length, states_length, sums_length}

pub record AddLeaf (p : Parameters) (s w : List ℕ) : Type 0 where
  pub within : Within p
  pub share : length s ≤ share_length p
  pub room : length w ≡ sums_length p

pub record DrawShare (p : Parameters) (i : ℕ) (st d : List ℕ) : Type 0 where
  pub within : Within p
  pub states : length st ≡ states_length p
  pub leaf : i < leaves p
  pub room : share_length p ≤ length d

pub record AddDrawn (p : Parameters) (i : ℕ) (st d s : List ℕ) : Type 0 where
  pub draw : DrawShare p i st d
  pub sum : length s ≡ share_length p

pub record AddDisclosed (p : Parameters) (i : ℕ) (st d w : List ℕ) : Type 0 where
  pub draw : DrawShare p i st d
  pub room : length w ≡ sums_length p

pub record ShareSum (p : Parameters) (st s : List ℕ) : Type 0 where
  pub within : Within p
  pub states : length st ≡ states_length p
  pub room : length s ≡ share_length p

pub record PartySums (p : Parameters) (st w : List ℕ) : Type 0 where
  pub within : Within p
  pub states : length st ≡ states_length p
  pub room : length w ≡ sums_length p
