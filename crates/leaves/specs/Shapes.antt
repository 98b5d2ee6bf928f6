-- What the functions ask of their slices and numbers.
--
-- LeafOf p i           parameters within their limits, a leaf's number of one byte
-- State i s            a leaf's number of one byte, and room for its state
-- ShareBytes i st      a leaf's number of one byte, and a state that begins with its seed
-- Commitment p i s     a leaf, and room for its commitment
-- States n st          at most 256 leaves, and room for their states
-- OpenedStates p i s st   a leaf, its sibling seeds, and room for the states of all leaves
-- Absorb p i st        a leaf, and its state among the states st
-- Commitments p st     parameters within their limits, and the states of all leaves
use Rattle.std.specs.Prelude.{◌≡◌, List, ℕ, ◌≤◌, ◌<◌, ◌*◌, ◌+◌, length}
use Rattle.parameters.specs.declared.Parameters.{Parameters}
use Rattle.parameters.specs.Limits.{Within}
use Rattle.layout.specs.Layout.{leaves, siblings_length, states_length}

pub record LeafOf (p : Parameters) (i : ℕ) : Type 0 where
  pub within : Within p
  pub number : i < 256

pub record State (i : ℕ) (s : List ℕ) : Type 0 where
  pub number : i < 256
  pub room : length s ≡ 32

pub record ShareBytes (i : ℕ) (st : List ℕ) : Type 0 where
  pub number : i < 256
  pub seed : 16 ≤ length st

pub record Commitment (p : Parameters) (i : ℕ) (s : List ℕ) : Type 0 where
  pub of : LeafOf p i
  pub room : length s ≡ 32

pub record States (n : ℕ) (st : List ℕ) : Type 0 where
  pub most : n ≤ 256
  pub room : length st ≡ 32 * n

pub record OpenedStates (p : Parameters) (i : ℕ) (siblings states : List ℕ) : Type 0 where
  pub within : Within p
  pub is_leaf : i < leaves p
  pub sized-siblings : length siblings ≡ siblings_length p
  pub sized-states : length states ≡ states_length p

pub record Absorb (p : Parameters) (i : ℕ) (st : List ℕ) : Type 0 where
  pub of : LeafOf p i
  pub state : 32 * i + 32 ≤ length st

pub record Commitments (p : Parameters) (st : List ℕ) : Type 0 where
  pub within : Within p
  pub states : length st ≡ states_length p
