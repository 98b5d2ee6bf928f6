-- Aux from the key's vector x and the sum of all shares that were drawn: 'its aux = x_A, Q, P, c makes the sums come right, with c = a·b at
-- each position'. The same as exchange's own_aux, which has what was drawn from the hash.
--
-- products_of p drawn l     c: a·b of the sum drawn at position l
-- wanted_for p x drawn      what x_A, Q, P and c are to sum to
-- aux_for p x drawn         what leaf n−1 adds for it
use Rattle.std.specs.Prelude.{List, ◌++◌, ℕ, take, drop}
use Rattle.lists.specs.Sum.{xor_list}
use Rattle.tower.specs.Field.{Point}
use Rattle.parameters.specs.declared.Parameters.{Parameters}
use Rattle.relation.specs.Key.{locator_of, quotient_of}
use Rattle.layout.specs.Layout.{at_x}
use Rattle.exchange.specs.Reading.{encode, ◌⊠◌}
use Rattle.exchange.specs.Values.{a_of, b_of}

unfoldable pub products_of : Parameters → List ℕ → ℕ → Point
products_of p drawn l = a_of p drawn l ⊠ b_of p drawn l

unfoldable pub wanted_for : Parameters → List ℕ → List ℕ → List ℕ
wanted_for p x drawn =
    take p.k x ++ (take p.w (locator_of p.w x) ++ (quotient_of p.w x ++ encode (products_of p drawn) p.t))

unfoldable pub aux_for : Parameters → List ℕ → List ℕ → List ℕ
aux_for p x drawn = xor_list (wanted_for p x drawn) (drop (at_x p) drawn)
