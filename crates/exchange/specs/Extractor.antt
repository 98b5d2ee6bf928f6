-- What the extractor makes of two accepted openings of one commitment.
--
-- string_at e l n       the string of layer l (4 to 7) and number n: 'the axis for 6, the leaf for 4, 0 for 7 and 5'
-- opened_in_both u u' i  leaf i is neither of the hidden leaves u and u'
-- compared e e'        'It compares the strings of both openings at layer 7, 6 (axis ascending), 5, 4 (leaves opened in both,
--                      ascending)': the layers and numbers, in this order
-- unequal_at e e'       those of them at which the two strings differ
-- state_from, aux_from   state of a leaf, and aux, from an opening that discloses it
-- output               'seed and rho of leaves 0 to n−1, then aux'
-- axis                 'the first axis on which the hidden leaves differ', 'counted from 1'
-- Finding              the first unequal pair (layer and number), or the axis with the output
-- extract              'The first unequal pair is the answer'; 'Otherwise the output holds' the states, 'and the answer names' the axis
use Rattle.std.specs.Prelude.{Bool, ◌&&◌, not, cond, List, [], ◌∷◌, ◌++◌, ℕ, ◌+◌, ◌-◌, eqb}
use Rattle.lists.specs.Equal.{eq_list}
use Rattle.parameters.specs.declared.Parameters.{Parameters}
use Rattle.layout.specs.Layout.{leaves, digit, is_last}
use Rattle.exchange.specs.Sequences.{joined, listed, those, least}
use Rattle.exchange.specs.Values.{Key}
use Rattle.exchange.specs.Parties.{axis_string}
use Rattle.exchange.specs.Opening.{Exchange, aux_of, opened_state, leaf_string, commitment_string, announced, response_string}

pub data Finding : Type 0 where
  unequal : ℕ → ℕ → Finding
  states : ℕ → List ℕ → Finding

unfoldable pub opened_in_both : ℕ → ℕ → ℕ → Bool
opened_in_both u u' i = not (eqb i u) && not (eqb i u')

module _ (p : Parameters) (e e' : Exchange) where
  unfoldable pub compared : List (ℕ × ℕ)
  compared =
      ((7, 0) ∷ listed (λ j. (6, j + 1)) p.axes)
      ++ ((5, 0) ∷ those (λ n. opened_in_both e.leaf e'.leaf n.1) (listed (λ i. (4, i)) (leaves p)))

  unfoldable pub axis : ℕ
  axis = least (λ j. not (eqb (digit p j e.leaf) (digit p j e'.leaf))) p.axes + 1

  unfoldable pub aux_from : List ℕ
  aux_from = cond (is_last p e.leaf) (aux_of p e') (aux_of p e)

module _ (hash : List ℕ → ℕ → List ℕ) (p : Parameters) where
  unfoldable pub state_from : Exchange → Exchange → ℕ → List ℕ
  state_from e e' i = cond (eqb i e.leaf) (opened_state hash p e' i) (opened_state hash p e i)

  unfoldable pub output : Exchange → Exchange → List ℕ
  output e e' = joined (state_from e e') (leaves p) ++ aux_from p e e'

  module _ (key : Key) where
    unfoldable pub string_at : Exchange → ℕ → ℕ → List ℕ
    string_at e layer number =
        cond (eqb layer 7) (response_string hash p e key)
        (cond (eqb layer 6) (axis_string p e.prefix (number - 1) (announced hash p e key (number - 1)))
        (cond (eqb layer 5) (commitment_string hash p e) (leaf_string hash p e number)))

    unfoldable pub unequal_at : Exchange → Exchange → List (ℕ × ℕ)
    unequal_at e e' = those (λ n. not (eq_list (string_at e n.0 n.1) (string_at e' n.0 n.1))) (compared p e e')

    unfoldable pub finding : Exchange → Exchange → List (ℕ × ℕ) → Finding
    finding e e' [] = states (axis p e e') (output e e')
    finding e e' (n ∷ ns) = unequal n.0 n.1

    unfoldable pub extract : Exchange → Exchange → Finding
    extract e e' = finding e e' (unequal_at e e')
