-- What the functions of this crate ask for.
--
-- Arrays p x run work           x at the front of 255 bytes, not too heavy; a run; a work area that is long enough
-- FillAsked p x run sums        x alone, a run, and room for the sums
-- Keyed p message2 matrix y     message 2, matrix and y of the lengths that the parameters say
-- Disclosing p message2 leaf matrix out              message 2, a leaf, the matrix, and room for message 5
-- WayAsked p run leaf siblings states               a run, a leaf, and room for its sibling seeds and for the states of all leaves
-- DrawAsked p run leaf siblings own sum              a run, a leaf, and room for its sibling seeds, for its state and share, and for a share
-- HiddenAsked p leaf siblings own aux                a leaf, and room for its sibling seeds, for its state and share, and for aux
-- CompleteAsked p aux own                            aux, and a leaf's state and share
-- LeafAsked p message2 leaf matrix own               message 2, the matrix, a leaf's number of one byte, its state and share
-- OpeningAsked p message2 leaf matrix own aux out    the same, aux, and room for message 5
-- ProductsAsked p drawn out     a sum of shares, and room for a point at each position
-- AuxAsked p x drawn out        a vector of at most w nonzero entries, a sum of shares, and room for aux
-- StatesAsked p run states      a run, and room for the states of all leaves
-- AddAsked p x sums aux         the key's vector, the sums, and room for aux
-- RespondAsked p message2 matrix y sums    message 2 and the key, and the sums
use Rattle.std.specs.Prelude.{◌≡◌, List, ℕ, ◌<◌, ◌≤◌, ◌+◌, length, take}
use Rattle.parameters.specs.declared.Parameters.{Parameters}
use Rattle.parameters.specs.Limits.{Within}
use Rattle.layout.specs.Layout.{leaves, aux_length, message2_length, message5_length, points_length, share_length, siblings_length, states_length, work_length, sums_length, y_length, matrix_length}
use Rattle.relation.specs.Key.{weight_of}
use Rattle.relation.specs.Light.{Light}

pub record Arrays (p : Parameters) (x run work : List ℕ) : Type 0 where
  pub within : Within p
  pub light : weight_of (take p.m x) ≤ p.w
  pub x-is : length x ≡ 255
  pub run_fits : 16 ≤ length run
  pub work-fits : work_length p ≤ length work

pub record FillAsked (p : Parameters) (x run sums : List ℕ) : Type 0 where
  pub within : Within p
  pub light : Light p.w x
  pub x-is : length x ≡ p.m
  pub run_fits : 16 ≤ length run
  pub sums-are : length sums ≡ sums_length p

pub record Keyed (p : Parameters) (message2 matrix y : List ℕ) : Type 0 where
  pub message2-is : length message2 ≡ message2_length p
  pub matrix-is : length matrix ≡ matrix_length p
  pub y-is : length y ≡ y_length p

pub record Disclosing (p : Parameters) (message2 : List ℕ) (leaf : ℕ) (matrix out : List ℕ) : Type 0 where
  pub message2-is : length message2 ≡ message2_length p
  pub is_leaf : leaf < leaves p
  pub matrix-is : length matrix ≡ matrix_length p
  pub out-is : length out ≡ message5_length p leaf

pub record WayAsked (p : Parameters) (run : List ℕ) (leaf : ℕ) (siblings states : List ℕ) : Type 0 where
  pub within : Within p
  pub run_fits : 16 ≤ length run
  pub is_leaf : leaf < leaves p
  pub siblings-are : length siblings ≡ siblings_length p
  pub states-are : length states ≡ states_length p

pub record DrawAsked (p : Parameters) (run : List ℕ) (leaf : ℕ) (siblings own sum : List ℕ) : Type 0 where
  pub within : Within p
  pub run_fits : 16 ≤ length run
  pub is_leaf : leaf < leaves p
  pub siblings-are : length siblings ≡ siblings_length p
  pub own_is : length own ≡ 32 + share_length p
  pub sum_is : length sum ≡ share_length p

pub record HiddenAsked (p : Parameters) (leaf : ℕ) (siblings own aux : List ℕ) : Type 0 where
  pub is_leaf : leaf < leaves p
  pub siblings-are : length siblings ≡ siblings_length p
  pub own_is : length own ≡ 32 + share_length p
  pub aux-is : length aux ≡ aux_length p

pub record CompleteAsked (p : Parameters) (aux own : List ℕ) : Type 0 where
  pub within : Within p
  pub aux-is : length aux ≡ aux_length p
  pub own_is : length own ≡ 32 + share_length p

pub record LeafAsked (p : Parameters) (message2 : List ℕ) (leaf : ℕ) (matrix own : List ℕ) : Type 0 where
  pub within : Within p
  pub message2-is : length message2 ≡ message2_length p
  pub number : leaf < 256
  pub matrix-is : length matrix ≡ matrix_length p
  pub own_is : length own ≡ 32 + share_length p

pub record OpeningAsked (p : Parameters) (message2 : List ℕ) (leaf : ℕ) (matrix own aux out : List ℕ) : Type 0 where
  pub of : LeafAsked p message2 leaf matrix own
  pub aux-is : length aux ≡ aux_length p
  pub out-is : length out ≡ message5_length p leaf

pub record ProductsAsked (p : Parameters) (drawn out : List ℕ) : Type 0 where
  pub within : Within p
  pub sized-drawn : length drawn ≡ share_length p
  pub sized-out : length out ≡ points_length p

pub record AuxAsked (p : Parameters) (x drawn out : List ℕ) : Type 0 where
  pub within : Within p
  pub light : Light p.w x
  pub sized-x : length x ≡ p.m
  pub sized-drawn : length drawn ≡ share_length p
  pub sized-out : length out ≡ aux_length p

pub record StatesAsked (p : Parameters) (run states : List ℕ) : Type 0 where
  pub within : Within p
  pub run_fits : 16 ≤ length run
  pub states-are : length states ≡ states_length p

pub record AddAsked (p : Parameters) (x sums aux : List ℕ) : Type 0 where
  pub within : Within p
  pub light : Light p.w x
  pub x-is : length x ≡ p.m
  pub sums-are : length sums ≡ sums_length p
  pub aux-is : length aux ≡ aux_length p

pub record RespondAsked (p : Parameters) (message2 matrix y sums : List ℕ) : Type 0 where
  pub within : Within p
  pub keyed : Keyed p message2 matrix y
  pub sums-are : length sums ≡ sums_length p
