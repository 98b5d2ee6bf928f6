-- Where everything stands in message 5: 'D sibling seeds from the root side down, commitment of i*, its α and β, then aux
-- unless i* = n−1'.
--
-- commitment_place p, values_place p, aux_place p   where the commitment, α and β, and aux start; the sibling seeds start it
-- siblings_in p m5      the sibling seeds
-- commitment_in p m5    the commitment of the hidden leaf
-- values_in p m5        its α (4t) and β (4t)
-- aux_in p m5           aux, which is the rest: nothing where leaf n−1 is hidden
use Rattle.std.specs.Prelude.{List, ℕ, ◌+◌, take, drop}
use Rattle.lists.specs.Part.{part}
use Rattle.parameters.specs.declared.Parameters.{Parameters}
use Rattle.layout.specs.Layout.{siblings_length, values_length}

abbrev pub commitment_place : Parameters → ℕ
commitment_place p = siblings_length p

abbrev pub values_place : Parameters → ℕ
values_place p = commitment_place p + 32

abbrev pub aux_place : Parameters → ℕ
aux_place p = values_place p + values_length p

unfoldable pub siblings_in : Parameters → List ℕ → List ℕ
siblings_in p m5 = take (commitment_place p) m5

unfoldable pub commitment_in : Parameters → List ℕ → List ℕ
commitment_in p m5 = part m5 (commitment_place p) 32

unfoldable pub values_in : Parameters → List ℕ → List ℕ
values_in p m5 = part m5 (values_place p) (values_length p)

unfoldable pub aux_in : Parameters → List ℕ → List ℕ
aux_in p m5 = drop (aux_place p) m5
