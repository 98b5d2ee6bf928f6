-- A run of an exchange as its verifier sees it: what the messages hold, and what follows from them. In its message 1 the prefix stands where
-- document 01 has the salt.
--
-- Exchange             prefix and h of message 1, messages 2 to 5; message 4 is the hidden leaf
-- exchange m1 .. m5    read from the messages
-- path_of, commitment_of, alpha_of, beta_of, aux_of   what message 5 holds, in its order
-- opened_state i        the state of leaf i, from the sibling seeds; of the hidden leaf it means nothing
-- opened_share i        its share
-- leaf_string i         layer 4's string of leaf i
-- leaf_commitment i     its commitment; the hidden leaf's is the one in message 5
-- commitment_string     layer 5's string
-- disclosed j c        the sum of the disclosed leaves of party c on axis j
-- hidden_on j           the party that holds the hidden leaf on axis j, with that leaf's α and β
-- announced j          what the parties of axis j announce
-- response_string       layer 7's string
-- verdict              `Ok` where the opening is accepted; else 5 or 7, in this order. The sums agree on all axes of every opening (`sums-agree`)
-- Accepted             'An opening is accepted exactly when the recomputed h is message 1's, the sums of α, β and v agree on all
--                      axes, and the recomputed h' is message 3's'
use Rattle.std.specs.Prelude.{◌≡◌, ◌&&◌, not, cond, List, [], ◌∷◌, ℕ, ◌+◌, ◌*◌, ◌<◌, eqb, get_or, take, drop}
use Rattle.lists.specs.Equal.{eq_list}
use Rattle.tower.specs.Field.{Point}
use Rattle.answers.specs.Answer.{Answer}
use Rattle.answers.specs.declared.Refusal.TheVariants.{Commitment, Response}
use Rattle.answers.specs.Checks.{checks}
use Rattle.parameters.specs.declared.Parameters.{Parameters}
use Rattle.layout.specs.Layout.{levels, leaves, digit, factor_length, values_length, siblings_length, prefix_length}
use Rattle.exchange.specs.Strings.{string4, string5, string7}
use Rattle.exchange.specs.Tree.{opened_seeds}
use Rattle.exchange.specs.Leaf.{state, share}
use Rattle.exchange.specs.Reading.{point_at}
use Rattle.exchange.specs.Values.{Key}
use Rattle.exchange.specs.Parties.{Announced, total, party_of, axis_string, sums_of}
use Rattle.exchange.specs.Announcing.{Hidden, announced_by}

pub record Exchange : Type 0 where
  pub prefix : List ℕ
  pub h : List ℕ
  pub message2 : List ℕ
  pub message3 : List ℕ
  pub leaf : ℕ
  pub message5 : List ℕ

unfoldable pub exchange : List ℕ → List ℕ → List ℕ → ℕ → List ℕ → Exchange
exchange m1 m2 m3 leaf m5 = record { prefix = take prefix_length m1; h = drop prefix_length m1; message2 = m2; message3 = m3; leaf = leaf; message5 = m5 }

-- ---- what message 5 holds

module _ (p : Parameters) (e : Exchange) where
  unfoldable pub path_of : List ℕ
  path_of = take (siblings_length p) e.message5

  unfoldable pub commitment_of : List ℕ
  commitment_of = take 32 (drop (siblings_length p) e.message5)

  unfoldable pub alpha_of : ℕ → Point
  alpha_of l = point_at e.message5 (siblings_length p + 32 + 4 * l)

  unfoldable pub beta_of : ℕ → Point
  beta_of l = point_at e.message5 (siblings_length p + 32 + factor_length p + 4 * l)

  unfoldable pub aux_of : List ℕ
  aux_of = drop (siblings_length p + 32 + values_length p) e.message5

  -- the party that holds the hidden leaf on axis j
  abbrev pub hidden_on : ℕ → Hidden
  hidden_on j = record { party = digit p j e.leaf; α = alpha_of; β = beta_of }

-- ---- the leaves

module _ (hash : List ℕ → ℕ → List ℕ) (p : Parameters) (e : Exchange) where
  unfoldable pub opened_state : ℕ → List ℕ
  opened_state i = state hash e.prefix i (get_or (opened_seeds hash e.prefix (levels p) 1 e.leaf (path_of p e)) i [])

  unfoldable pub opened_share : ℕ → List ℕ
  opened_share i = share hash p e.prefix i (opened_state i) (aux_of p e)

  unfoldable pub leaf_string : ℕ → List ℕ
  leaf_string i = string4 p e.prefix i (opened_state i) (aux_of p e)

  unfoldable pub leaf_commitment : ℕ → List ℕ
  leaf_commitment i = cond (eqb i e.leaf) (commitment_of p e) (hash (leaf_string i) 32)

  unfoldable pub commitment_string : List ℕ
  commitment_string = string5 e.prefix leaf_commitment (leaves p)

  unfoldable pub disclosed : ℕ → ℕ → List ℕ
  disclosed j c = total p (λ i. party_of p j c i && not (eqb i e.leaf)) opened_share (leaves p)

  -- ---- the parties of axis j

  module _ (key : Key) (j : ℕ) where
    unfoldable pub announced : Announced
    announced = announced_by p key e.message2 (disclosed j) (hidden_on p e j)

  module _ (key : Key) where
    unfoldable pub response_string : List ℕ
    response_string = string7 e.prefix (λ j. hash (axis_string p e.prefix j (announced key j)) 32) p.axes

    unfoldable pub verdict : Answer
    verdict =
        checks (
        (eq_list (hash commitment_string 32) e.h, Commitment)
        ∷ (eq_list (hash response_string 32) e.message3, Response)
        ∷ []
        )

pub record Accepted (hash : List ℕ → ℕ → List ℕ) (p : Parameters) (e : Exchange) (key : Key) : Type 0 where
  pub commitment : hash (commitment_string hash p e) 32 ≡ e.h
  pub sums_same : (j : ℕ) → j < p.axes → sums_of p (announced hash p e key j) ≡ sums_of p (announced hash p e key 0)
  pub response : hash (response_string hash p e key) 32 ≡ e.message3
