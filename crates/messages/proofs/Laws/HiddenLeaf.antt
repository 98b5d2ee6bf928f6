-- The laws of the hidden leaf.
--
-- blocks-same        two lists of n blocks of 32 bytes with the same blocks are the same
-- way-made           the states of all other leaves from the siblings, with the leaf's own in its place, are the prover's
-- way-states         the same in the steps of the code
-- drawn-made         the leaf's state is written, and its share as hashed behind it
-- share-completed    where the leaf is leaf n−1, aux behind its share as hashed makes it whole; any other's is whole
-- leaf-made          with aux behind the share of leaf n−1 these are the prover's state and share of the leaf
use Rattle.std.specs.Prelude.{◌≡◌, Bool, ℕ, ◌+◌, ◌-◌, ◌*◌, ◌≤◌, ◌<◌, take, drop}
use Rattle.std.proofs.Math.Path.{sym, ap, ap₂}
use Rattle.std.proofs.Common.{◌∙◌, mul_comm, arith}
use Rattle.std.proofs.Math.Bool.{true, false, cond}
use mathlib.Core.List.{List, [], ◌++◌, append_assoc, append-nil}
use Rattle.std.proofs.Math.Decide.{dec_lt, ℕ_discrete}
use Rattle.std.proofs.Math.ListN.{length, get_or, length-append}
use Rattle.lists.specs.Part.{part, put_at}
use Rattle.lists.specs.Part.Laws.{length-put_at, put_at-whole, put_at-put_at, part-put_at-same, part-put_at-before, part-put_at-behind, tail-part, tail-back, tail-put}
use Rattle.shake256.specs.Fips.{SHAKE256}
use Rattle.shake256.proofs.Laws.{length-SHAKE256}
use Rattle.parameters.specs.declared.Parameters.{Parameters}
use Rattle.layout.specs.Layout.{levels, leaves, is_last, aux_length, share_length, at_x}
use Rattle.exchange.specs.Run.{Run}
use Rattle.exchange.proofs.Sequences.Laws.{joined-ext, joined-parts}
use Rattle.exchange.specs.Strings.{string3}
use Rattle.exchange.specs.Tree.{leaf_seeds, sibling_seeds}
use Rattle.exchange.proofs.Tree.Laws.{length-sibling_seeds, opened-is}
use Rattle.exchange.specs.Leaf.{state, share}
use Rattle.exchange.specs.Messages.{own_state, own_share, own_aux}
use Rattle.leaves.specs.States.{state_at, states_from}
use Rattle.leaves.specs.States.Laws.{length-states_of}
use Rattle.leaves.specs.States.Seeds.{state_at-states_from}
use Rattle.parties.specs.Drawn.{drawn_share}
use Rattle.parties.specs.Drawn.Laws.{drawn_share-short}
use Rattle.messages.specs.Own.{own_states}
use Rattle.messages.proofs.Laws.Own.{length-own_state, own_states-at}
use Rattle.messages.specs.HiddenLeaf.{siblings_of, drawn_leaf}

-- ---- all states by the way to the leaf

pub blocks-same : (a b : List ℕ) (n : ℕ) → length a ≡ 32 * n → length b ≡ 32 * n → ((i : ℕ) → i < n → state_at a i ≡ state_at b i) → a ≡ b
blocks-same a b n la lb h =
    joined-parts a 32 n (la ∙ mul_comm 32 n)
    ∙ joined-ext _ _ n (λ i l. ap (λ (k : ℕ). part a k 32) (mul_comm i 32) ∙ h i l ∙ ap (λ (k : ℕ). part b k 32) (mul_comm 32 i))
    ∙ sym (joined-parts b 32 n (lb ∙ mul_comm 32 n))

module _ (p : Parameters) (x : List ℕ) (run : Run) (leaf : ℕ) (is_IsLeaf : leaf < leaves p) (sixteen : length run.root ≡ 16) where
  abbrev others : List ℕ
  others = states_from p run.prefix leaf (siblings_of p run leaf)

  length-others : length others ≡ 32 * leaves p
  unfolding states_from
  length-others = length-states_of run.prefix _ leaf (leaves p)

  length-own : length (own_states p run) ≡ 32 * leaves p
  unfolding own_states
  length-own = length-states_of run.prefix _ (leaves p) (leaves p)

  length-siblings : length (siblings_of p run leaf) ≡ 16 * levels p
  length-siblings = length-sibling_seeds SHAKE256 run.prefix length-SHAKE256 (levels p) 1 run.root leaf

  other : (i : ℕ) → i < leaves p → (i ≡ leaf → ⊥) → state_at others i ≡ own_state SHAKE256 p x run i
  unfolding own_state
  other i h n =
      state_at-states_from p run.prefix leaf (siblings_of p run leaf) is_IsLeaf length-siblings i h n
      ∙ ap (state SHAKE256 run.prefix i) (opened-is SHAKE256 run.prefix length-SHAKE256 (levels p) 1 run.root leaf i h is_IsLeaf n)

  module _ (st : List ℕ) (own : st ≡ own_state SHAKE256 p x run leaf) where
    length-st : length st ≡ 32
    length-st = ap length own ∙ length-own_state p x run leaf

    fits : 32 * leaf + length st ≤ length others
    fits = omega (arith, length-st, length-others)

    block : (i : ℕ) → i < leaves p → Dec (i ≡ leaf) → Dec (i < leaf) → state_at (put_at others (32 * leaf) st) i ≡ own_state SHAKE256 p x run i
    block i h (yes e) l =
        ap₂ (part (put_at others (32 * leaf) st)) (ap (◌*◌ 32) e) (sym length-st) ∙ part-put_at-same others (32 * leaf) st fits ∙ own
        ∙ ap (own_state SHAKE256 p x run) (sym e)
    block i h (no n) (yes l) = part-put_at-before others (32 * leaf) st fits (32 * i) 32 (omega arith) ∙ other i h n
    block i h (no n) (no l) = part-put_at-behind others (32 * leaf) st fits (32 * i) 32 (omega (arith, length-st)) ∙ other i h n

    pub way-made : put_at others (32 * leaf) st ≡ own_states p run
    way-made =
        blocks-same (put_at others (32 * leaf) st) (own_states p run) (leaves p) (length-put_at others (32 * leaf) st fits ∙ length-others) length-own
        (λ i h. block i h (ℕ_discrete i leaf) (dec_lt i leaf) ∙ sym (own_states-at p x run sixteen i h))

  -- in the steps of the code: the prefix q and the levels n, siblings and the leaf's seed, all other states, its own, and that written
  pub way-states : (q siblings seed states st out : List ℕ) (n : ℕ) → q ≡ run.prefix → n ≡ levels p
      → siblings ≡ sibling_seeds SHAKE256 q n 1 run.root leaf → seed ≡ get_or (leaf_seeds SHAKE256 q n 1 run.root) leaf []
      → states ≡ states_from p q leaf siblings → st ≡ state SHAKE256 q leaf seed → out ≡ put_at states (32 * leaf) st
      → (siblings ≡ siblings_of p run leaf) × (out ≡ own_states p run)
  unfolding own_state
  way-states q siblings seed states st out n eq en es ed et ew eo =
      let siblings-are : siblings ≡ siblings_of p run leaf = es ∙ ap₂ (λ (q : List ℕ) (n : ℕ). sibling_seeds SHAKE256 q n 1 run.root leaf) eq en in
      let own : st ≡ own_state SHAKE256 p x run leaf
      = ew ∙ ap₂ (λ (q seed : List ℕ). state SHAKE256 q leaf seed) eq
      (ed ∙ ap₂ (λ (q : List ℕ) (n : ℕ). get_or (leaf_seeds SHAKE256 q n 1 run.root) leaf []) eq en) in
      (siblings-are, eo ∙ ap (λ (l : List ℕ). put_at l (32 * leaf) st) (et ∙ ap₂ (λ (q s : List ℕ). states_from p q leaf s) eq siblings-are) ∙ way-made st own)

-- ---- the leaf's state and share

-- in the steps of the code: the prefix q and all states, the leaf's state written, and the share behind it, where all but the first 32
-- places are lent
pub drawn-made : (p : Parameters) (run : Run) (leaf : ℕ) (q states st d d₁ s : List ℕ) → length st ≡ 32 → length d ≡ 32 + share_length p
    → q ≡ run.prefix → states ≡ own_states p run → st ≡ state_at states leaf → d₁ ≡ put_at d 0 st
    → s ≡ put_at (take (length d₁ - 32) (drop 32 d₁)) 0 (drawn_share p q states leaf)
    → take 32 d₁ ++ (s ++ drop (length d₁ - 32) (drop 32 d₁)) ≡ put_at d 0 (drawn_leaf p run leaf)
unfolding drawn_leaf
drawn-made p run leaf q states st d d₁ s thirty_two room eq es et is made =
    let share = drawn_share p q states leaf in
    let short : length share ≤ share_length p = drawn_share-short p q states leaf in
    let kept : length d₁ ≡ length d = ap length is ∙ length-put_at d 0 st (omega arith) in
    tail-back d₁ s 32 (omega arith)
    ∙ ap (◌++◌ (take 32 d₁)) (made ∙ ap (λ (l : List ℕ). put_at l 0 share) (tail-part d₁ 32))
    ∙ tail-put d₁ 32 share ∙ ap₂ (λ (l : List ℕ) (n : ℕ). put_at l n share) is (sym thirty_two) ∙ put_at-put_at d st share (omega arith)
    ∙ ap (put_at d 0) (ap₂ ◌++◌ (et ∙ ap (λ (l : List ℕ). state_at l leaf) es) (ap₂ (λ (q l : List ℕ). drawn_share p q l leaf) eq es))

module _ (p : Parameters) (prefix : List ℕ) (leaf : ℕ) (st aux d : List ℕ) (state-is : length st ≡ 32) (aux-is : length aux ≡ aux_length p)
    (room : length d ≡ 32 + share_length p) where
  abbrev bytes : ℕ → List ℕ
  bytes n = SHAKE256 (string3 prefix leaf (take 16 st)) n

  sized : (n : ℕ) → length (st ++ bytes n) ≡ 32 + n
  sized n = length-append st (bytes n) ∙ ap₂ ◌+◌ state-is (length-SHAKE256 _ n)

  pub share-completed : cond (is_last p leaf) (put_at (put_at d 0 (st ++ share SHAKE256 p prefix leaf st [])) (32 + at_x p) aux) (put_at d 0 (st ++ share SHAKE256 p prefix leaf st []))
      ≡ st ++ share SHAKE256 p prefix leaf st aux
  unfolding share
  share-completed = go (is_last p leaf)
    where
      go : (t : Bool)
          → cond t (put_at (put_at d 0 (st ++ cond t (bytes (at_x p) ++ []) (bytes (share_length p)))) (32 + at_x p) aux) (put_at d 0 (st ++ cond t (bytes (at_x p) ++ []) (bytes (share_length p))))
          ≡ st ++ cond t (bytes (at_x p) ++ aux) (bytes (share_length p))
      go true =
          let n = sized (at_x p) in
          let whole : length ((st ++ bytes (at_x p)) ++ aux) ≡ length d = length-append (st ++ bytes (at_x p)) aux ∙ omega (arith, n) in
          ap (λ (l : List ℕ). put_at (put_at d 0 (st ++ l)) (32 + at_x p) aux) (append-nil (bytes (at_x p)))
          ∙ ap (λ (k : ℕ). put_at (put_at d 0 (st ++ bytes (at_x p))) k aux) (sym n)
          ∙ put_at-put_at d (st ++ bytes (at_x p)) aux (omega (arith, n))
          ∙ put_at-whole d ((st ++ bytes (at_x p)) ++ aux) whole
          ∙ append_assoc st (bytes (at_x p)) aux
      go false = put_at-whole d (st ++ bytes (share_length p)) (sized (share_length p) ∙ sym room)

module _ (p : Parameters) (x : List ℕ) (run : Run) (leaf : ℕ) (is_IsLeaf : leaf < leaves p) (sixteen : length run.root ≡ 16) where
  pub leaf-made : (d aux own : List ℕ) → length d ≡ 32 + share_length p → length aux ≡ aux_length p → aux ≡ own_aux SHAKE256 p x run
      → own ≡ cond (is_last p leaf) (put_at (put_at d 0 (drawn_leaf p run leaf)) (32 + at_x p) aux) (put_at d 0 (drawn_leaf p run leaf))
      → own ≡ own_state SHAKE256 p x run leaf ++ own_share SHAKE256 p x run leaf
  unfolding drawn_leaf drawn_share own_share
  leaf-made d aux own room aux-is aux-own is =
      let at = own_states-at p x run sixteen leaf is_IsLeaf in
      is
      ∙ ap (λ (st : List ℕ). cond (is_last p leaf) (put_at (put_at d 0 (st ++ share SHAKE256 p run.prefix leaf st [])) (32 + at_x p) aux)
      (put_at d 0 (st ++ share SHAKE256 p run.prefix leaf st []))) at
      ∙ share-completed p run.prefix leaf (own_state SHAKE256 p x run leaf) aux d (length-own_state p x run leaf) aux-is room
      ∙ ap (λ (u : List ℕ). own_state SHAKE256 p x run leaf ++ share SHAKE256 p run.prefix leaf (own_state SHAKE256 p x run leaf) u) aux-own
