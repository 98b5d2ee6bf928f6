-- What the demonstration fixes where a probe draws: bytes of SHAKE256 of a label.
--
-- title                the ASCII text 'Risvatey unlock: ', with which every label starts
-- matrix_label to leaf_label    the ASCII words matrix, salt, root, points, leaf
-- expanded label n     n bytes of SHAKE256 of the title and the label
-- leaves_of p runs      message 4: of one such byte a run the low D bits
use Rattle.std.specs.Prelude.{List, [], ◌∷◌, ◌++◌, map, ℕ, ◌%◌, ◌^◌}
use Rattle.parameters.specs.declared.Parameters.{Parameters}
use Rattle.shake256.specs.Fips.{SHAKE256}
pub mod Laws

unfoldable pub title : List ℕ
title = 82 ∷ 105 ∷ 115 ∷ 118 ∷ 97 ∷ 116 ∷ 101 ∷ 121 ∷ 32 ∷ 117 ∷ 110 ∷ 108 ∷ 111 ∷ 99 ∷ 107 ∷ 58 ∷ 32 ∷ []

unfoldable pub matrix_label : List ℕ
matrix_label = 109 ∷ 97 ∷ 116 ∷ 114 ∷ 105 ∷ 120 ∷ []

unfoldable pub salt_label : List ℕ
salt_label = 115 ∷ 97 ∷ 108 ∷ 116 ∷ []

unfoldable pub root_label : List ℕ
root_label = 114 ∷ 111 ∷ 111 ∷ 116 ∷ []

unfoldable pub points_label : List ℕ
points_label = 112 ∷ 111 ∷ 105 ∷ 110 ∷ 116 ∷ 115 ∷ []

unfoldable pub leaf_label : List ℕ
leaf_label = 108 ∷ 101 ∷ 97 ∷ 102 ∷ []

unfoldable pub expanded : List ℕ → ℕ → List ℕ
expanded label n = SHAKE256 (title ++ label) n

abbrev pub leaves_of : Parameters → ℕ → List ℕ
leaves_of p runs = map (λ b. b % 2 ^ p.axes) (expanded leaf_label runs)
