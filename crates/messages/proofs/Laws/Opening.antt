-- The laws of message 5 from the siblings, the hidden leaf and aux.
--
-- opening-any        for the siblings, the prover's state and share of the leaf and its aux it is message 5, whatever y the key has
-- opening-made       the same in the steps of the code
-- opening-length     its length by its three pieces
-- left-first, two_made      two pieces that fill the slice
-- left-middle, pieces-made  a piece behind what stands at the front, and one behind it
-- aux-none, aux-fits, aux-put   aux behind them, or nothing
use Rattle.std.specs.Prelude.{◌≡◌, Bool, true, false, ℕ, ◌+◌, ◌-◌, ◌≤◌, length, drop}
use Rattle.std.proofs.Common.{sym, ◌∙◌, le_of_eq, arith, drop_of_length-le, take_at, drop_at, take_all, length-take-le}
use Rattle.std.proofs.Math.Path.{ap}
use Rattle.std.proofs.Math.Bool.{cond}
use mathlib.Core.List.{List, [], ◌++◌, append_assoc, append-nil}
use Rattle.std.proofs.Math.ListN.{take}
use Rattle.std.proofs.Math.Seq.{take-append-add}
use Rattle.shake256.specs.Fips.{SHAKE256}
use Rattle.lists.specs.Part.{put_at}
use Rattle.lists.specs.Part.Laws.{length-lent, tail-back}
use Rattle.parameters.specs.declared.Parameters.{Parameters}
use Rattle.layout.specs.Layout.{levels, is_last, values_length, aux_length, siblings_length, message5_length}
use Rattle.exchange.specs.Run.{Run}
use Rattle.exchange.specs.Tree.{sibling_seeds}
use Rattle.exchange.specs.Leaf.{commitment}
use Rattle.exchange.specs.Reading.{encode}
use Rattle.exchange.specs.Values.{Key, alpha}
use Rattle.exchange.specs.Messages.{own_state, own_aux, own_share, own_commitment, message5}
use Rattle.points.specs.Written.{front_kept, middle-kept}
use Rattle.values.specs.Leaf.{leaf_values, leaf_values-any}
use Rattle.messages.proofs.Laws.Own.{length-own_state}
use Rattle.messages.specs.Opening.{leaf_bytes, opening_of}

pub opening-any : (p : Parameters) (x : List ℕ) (run : Run) (key : Key) (message2 : List ℕ) (leaf : ℕ) (siblings own aux : List ℕ)
    → siblings ≡ sibling_seeds SHAKE256 run.prefix (levels p) 1 run.root leaf
    → own ≡ own_state SHAKE256 p x run leaf ++ own_share SHAKE256 p x run leaf → aux ≡ own_aux SHAKE256 p x run
    → opening_of p run.prefix message2 leaf key.matrix siblings own aux ≡ message5 SHAKE256 p x run key message2 leaf
unfolding opening_of leaf_bytes message5 own_commitment
opening-any p x run key message2 leaf siblings own aux es eo ea =
    (λ t. es t ++ ((commitment SHAKE256 p run.prefix leaf (state-is t) (ea t) ++ leaf_values p key.matrix message2 (share-is t)) ++ cond (is_last p leaf) [] (ea t)))
    ∙ ap (◌++◌ (sibling_seeds SHAKE256 run.prefix (levels p) 1 run.root leaf))
    (append_assoc committed _ rest
    ∙ ap (◌++◌ committed) (ap (λ (v : List ℕ). v ++ rest) (leaf_values-any p key message2 shared) ∙ append_assoc (encode (alpha p key message2 false shared) p.t) _ rest))
  where
    shared : List ℕ
    shared = own_share SHAKE256 p x run leaf

    committed : List ℕ
    committed = commitment SHAKE256 p run.prefix leaf (own_state SHAKE256 p x run leaf) (own_aux SHAKE256 p x run)

    rest : List ℕ
    rest = cond (is_last p leaf) [] (own_aux SHAKE256 p x run)

    state-is : take 32 own ≡ own_state SHAKE256 p x run leaf
    state-is = ap (take 32) eo ∙ take_at (own_state SHAKE256 p x run leaf) shared 32 (length-own_state p x run leaf)

    share-is : drop 32 own ≡ shared
    share-is = ap (drop 32) eo ∙ drop_at (own_state SHAKE256 p x run leaf) shared 32 (length-own_state p x run leaf)

-- in the steps of the code: the prefix q, and out, which the siblings stand at the front of
pub opening-made : (p : Parameters) (x : List ℕ) (run : Run) (key : Key) (message2 : List ℕ) (leaf : ℕ) (q out own aux r : List ℕ) (n : ℕ)
    → q ≡ run.prefix → n ≡ siblings_length p → take n out ≡ sibling_seeds SHAKE256 run.prefix (levels p) 1 run.root leaf
    → own ≡ own_state SHAKE256 p x run leaf ++ own_share SHAKE256 p x run leaf → aux ≡ own_aux SHAKE256 p x run
    → r ≡ opening_of p q message2 leaf key.matrix (take (siblings_length p) out) own aux → r ≡ message5 SHAKE256 p x run key message2 leaf
opening-made p x run key message2 leaf q out own aux r n eq en es eo ea is =
    is ∙ ap (λ (q : List ℕ). opening_of p q message2 leaf key.matrix (take (siblings_length p) out) own aux) eq
    ∙ opening-any p x run key message2 leaf _ own aux (ap (λ (k : ℕ). take k out) (sym en) ∙ es) eo ea

pub opening-length : (p : Parameters) (leaf : ℕ) → message5_length p leaf ≡ siblings_length p + (32 + values_length p) + cond (is_last p leaf) 0 (aux_length p)
unfolding message5_length
opening-length p leaf = omega arith

-- ---- pieces written one after another

-- s is lent the first a places of d, and v all that is behind them
module _ (a : ℕ) (d s v : List ℕ) (fits : a ≤ length d) (same : length s ≡ length (take a d)) where
  abbrev with_first : List ℕ
  with_first = s ++ drop a d

  length-first : length s ≡ a
  length-first = same ∙ length-take-le a d fits

  pub left-first : length with_first ≡ length d
  left-first = front_kept a s d length-first fits

  pub two_made : take a with_first ++ (v ++ drop (length with_first - a) (drop a with_first)) ≡ s ++ v
  two_made = let l = left-first in tail-back with_first v a (omega arith) ∙ ap (λ (z : List ℕ). z ++ v) (take_at s (drop a d) a length-first)

-- v is lent the n places of d behind the first a; u goes behind them
module _ (a n : ℕ) (d v : List ℕ) (fits : a + n ≤ length d) (same : length v ≡ length (take (a + n - a) (drop a d))) where
  abbrev with_middle : List ℕ
  with_middle = take a d ++ (v ++ drop (a + n - a) (drop a d))

  length-middle : length v ≡ n
  length-middle = same ∙ length-lent a n d fits

  pub left-middle : length with_middle ≡ length d
  left-middle = let k = length-middle in middle-kept a (a + n - a) v d (omega arith) (omega arith)

  pub pieces-made : (u out : List ℕ) → out ≡ take (a + n) with_middle ++ u → out ≡ take a d ++ (v ++ u)
  pieces-made u out e =
      let l : length (take a d) ≡ a = length-take-le a d (omega arith) in
      let front : take (a + n) with_middle ≡ take a d ++ v
      = ap (λ (k : ℕ). take (k + n) with_middle) (sym l)
      ∙ take-append-add (take a d) (v ++ drop (a + n - a) (drop a d)) n
      ∙ ap (◌++◌ (take a d)) (take_at v (drop (a + n - a) (drop a d)) n length-middle) in
      e ∙ ap (λ (z : List ℕ). z ++ u) front ∙ append_assoc (take a d) v u

-- ---- aux, where the leaf is not leaf n−1

module _ (last : Bool) (at : ℕ) (aux out : List ℕ) (sized : length out ≡ at + cond last 0 (length aux)) where
  pub aux-none : last ≡ true → out ≡ take at out ++ cond last [] aux
  aux-none e =
      let l : length out ≡ at + 0 = sized ∙ ap (λ (t : Bool). at + cond t 0 (length aux)) e in
      sym (take_all at out (omega arith)) ∙ sym (append-nil (take at out)) ∙ ap (λ (t : Bool). take at out ++ cond t [] aux) (sym e)

  sized-with : last ≡ false → length out ≡ at + length aux
  sized-with e = sized ∙ ap (λ (t : Bool). at + cond t 0 (length aux)) e

  pub aux-fits : last ≡ false → at + length aux ≤ length out
  aux-fits e = le_of_eq (sym (sized-with e))

  pub aux-put : (d : List ℕ) → last ≡ false → d ≡ put_at out at aux → d ≡ take at out ++ cond last [] aux
  unfolding put_at
  aux-put d e q =
      q ∙ ap (λ (z : List ℕ). take at out ++ (aux ++ z)) (drop_of_length-le out (le_of_eq (sized-with e)))
      ∙ ap (λ (z : List ℕ). take at out ++ z) (append-nil aux) ∙ ap (λ (t : Bool). take at out ++ cond t [] aux) (sym e)
