-- The prover's messages, from what its session holds (parameters p, x, salt, root), the matrix and y lent at the call,
-- message 2 and the leaf.
--
-- own_state i        the state of leaf i
-- drawn             the sum of all shares with no aux: what the leaves sum to so far
-- wanted            what x_A, Q, P and c are to sum to: those of x, and 'c = a·b at each position'
-- own_aux            'its aux = x_A, Q, P, c makes the sums come right'
-- own_share i, own_commitment i   share and commitment of leaf i
-- own_party j c      the sum of the leaves of party c on axis j
-- own_announced j    what the parties of axis j announce: no leaf is hidden
-- message1          'salt, h'
-- message3          'h''
-- message5 i        'D sibling seeds from the root side down, commitment of i*, its α and β, then aux unless i* = n−1';
--                   'The hidden leaf's own α and β have none' of the constants
use Rattle.std.specs.Prelude.{true, false, cond, List, [], ◌++◌, ℕ, get_or, take, drop}
use Rattle.lists.specs.Sum.{xor_list}
use Rattle.parameters.specs.declared.Parameters.{Parameters}
use Rattle.relation.specs.Key.{locator_of, quotient_of}
use Rattle.layout.specs.Layout.{levels, leaves, is_last, at_x}
use Rattle.exchange.specs.Run.{Run}
use Rattle.exchange.specs.Strings.{string5, string7}
use Rattle.exchange.specs.Tree.{leaf_seeds, sibling_seeds}
use Rattle.exchange.specs.Leaf.{state, share, commitment}
use Rattle.exchange.specs.Reading.{encode, ◌⊠◌}
use Rattle.exchange.specs.Values.{Key, a_of, b_of, alpha, beta}
use Rattle.exchange.specs.Parties.{Announced, total, party_of, axis_string}
use Rattle.exchange.specs.Announcing.{none, announced_by}

module _ (hash : List ℕ → ℕ → List ℕ) (p : Parameters) (x : List ℕ) (run : Run) where
  unfoldable pub own_state : ℕ → List ℕ
  own_state i = state hash run.prefix i (get_or (leaf_seeds hash run.prefix (levels p) 1 run.root) i [])

  unfoldable pub drawn : List ℕ
  drawn = total p (λ i. true) (λ i. share hash p run.prefix i (own_state i) []) (leaves p)

  unfoldable pub wanted : List ℕ
  wanted =
      take p.k x
      ++ (take p.w (locator_of p.w x) ++ (quotient_of p.w x ++ encode (λ l. a_of p drawn l ⊠ b_of p drawn l) p.t))

  unfoldable pub own_aux : List ℕ
  own_aux = xor_list wanted (drop (at_x p) drawn)

  unfoldable pub own_share : ℕ → List ℕ
  own_share i = share hash p run.prefix i (own_state i) own_aux

  unfoldable pub own_commitment : ℕ → List ℕ
  own_commitment i = commitment hash p run.prefix i (own_state i) own_aux

  unfoldable pub message1 : List ℕ
  message1 = run.prefix ++ hash (string5 run.prefix own_commitment (leaves p)) 32

  module _ (key : Key) (m2 : List ℕ) where
    unfoldable pub own_party : ℕ → ℕ → List ℕ
    own_party j c = total p (party_of p j c) own_share (leaves p)

    unfoldable pub own_announced : ℕ → Announced
    own_announced j = announced_by p key m2 (own_party j) (none p)

    unfoldable pub message3 : List ℕ
    message3 = hash (string7 run.prefix (λ j. hash (axis_string p run.prefix j (own_announced j)) 32) p.axes) 32

    unfoldable pub message5 : ℕ → List ℕ
    message5 i =
        sibling_seeds hash run.prefix (levels p) 1 run.root i
        ++ (own_commitment i
        ++ (encode (alpha p key m2 false (own_share i)) p.t
        ++ (encode (beta p key m2 false (own_share i)) p.t ++ cond (is_last p i) [] own_aux)))
