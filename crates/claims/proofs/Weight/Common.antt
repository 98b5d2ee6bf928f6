-- A free list of openings of one run, under one prefix and h: they all hold the same leaves.
--
-- equal-strings           freedom: strings hashed in checking two openings, with one digest, are equal
-- pair-equal, none-unequal   no two strings that the extractor compares are unequal, in any pair of the list
-- pair-states             so its part of the run is every leaf's state
-- Listed y                an opening of the list: its prefix and h are the common ones, and it is accepted
-- same-leaf               what two openings of the list disclose of a leaf is the same
-- Paired y y'             two openings of the list that hide different leaves
-- Disclosed, disclosed    an opening of the list that discloses a leaf as the extractor's part for a pair has it
-- one-share               the share of a leaf that follows from that part is the same in all pairs
use Rattle.std.specs.Prelude.{◌≡◌, refl, Bool, true, false, ℕ, ◌<◌, length}
use Rattle.std.proofs.Math.Path.{sym, ap}
use Rattle.std.proofs.Common.{◌∙◌}
use mathlib.Core.List.{List, []}
use Rattle.std.proofs.Math.Decide.{ℕ_discrete}
use Rattle.lists.specs.Equal.{eq_list}
use Rattle.lists.specs.Equal.Laws.{eq_list-true, eq_list-false}
use Rattle.parameters.specs.declared.Parameters.{Parameters}
use Rattle.layout.specs.Layout.{leaves, message5_length, y_length}
use Rattle.layout.specs.Layout.Laws.{is_last-last}
use Rattle.exchange.specs.Leaf.{share}
use Rattle.exchange.proofs.Leaf.Laws.{SameAux, share-ext}
use Rattle.exchange.specs.Values.{Key}
use Rattle.exchange.specs.Opening.{Exchange, aux_of, opened_state, leaf_string, commitment_string}
use Rattle.exchange.proofs.Opening.Laws.{commitment-disclosed}
use Rattle.exchange.specs.Extractor.{output, string_at, unequal_at}
use Rattle.exchange.proofs.Extractor.Laws.{Compared, at_response, at_axis, at_commitment, at_leaf, compared-mem}
use Rattle.claims.specs.Words.{States, leaf_state, aux_state, leaf_share}
use Rattle.claims.proofs.Extraction.Strings.{leaf-same, commitments-same}
use Rattle.claims.proofs.Extraction.Compared.{Alike, Equal, OneDigest, digest-7, digest-6, digest-5, digest-4, none_then, none-when}
use Rattle.claims.proofs.Extraction.Output.{states-hold}
use Rattle.claims.specs.Weight.{In, Hashed, at7, at6, at5, at4, Free}

module _ (hash : List ℕ → ℕ → List ℕ) (hash-length : (s : List ℕ) (n : ℕ) → length (hash s n) ≡ n) (p : Parameters) (key : Key)
    (ys : List Exchange) (free : Free hash p key ys) where
  equal-strings : {y y' : Exchange} → In y ys → In y' ys → {layer number : ℕ}
      → Hashed hash p key y layer number → Hashed hash p key y' layer number
      → hash (string_at hash p key y layer number) 32 ≡ hash (string_at hash p key y' layer number) 32
      → string_at hash p key y layer number ≡ string_at hash p key y' layer number
  equal-strings {y} {y'} i i' {layer} {number} h h' d =
      go (eq_list (string_at hash p key y layer number) (string_at hash p key y' layer number)) refl
    where
      go : (t : Bool) → eq_list (string_at hash p key y layer number) (string_at hash p key y' layer number) ≡ t
          → string_at hash p key y layer number ≡ string_at hash p key y' layer number
      go true q = eq_list-true _ _ q
      go false q = absurd (free y y' i i' layer number h h' (eq_list-false _ _ q) d)

  -- ---- a pair

  module _ {y y' : Exchange} (i : In y ys) (i' : In y' ys) (alike : Alike hash p key y y') where
    equal-7 : Equal hash hash-length p key y y' alike (7, 0)
    unfolding Equal OneDigest
    equal-7 = equal-strings i i' at7 at7 (digest-7 hash hash-length p key y y' alike)

    equal-5 : Equal hash hash-length p key y y' alike (5, 0)
    unfolding Equal OneDigest
    equal-5 = equal-strings i i' at5 at5 (digest-5 hash hash-length p key y y' alike)

    pair-equal : (a : ℕ × ℕ) → Compared p y y' a → Equal hash hash-length p key y y' alike a
    pair-equal a at_response = equal-7
    pair-equal a (at_axis j l) =
        unfold Equal OneDigest in equal-strings i i' (at6 j l) (at6 j l) (digest-6 hash hash-length p key y y' alike equal-7 j l)
    pair-equal a at_commitment = equal-5
    pair-equal a (at_leaf j l n n') =
        unfold Equal OneDigest in equal-strings i i' (at4 j l n) (at4 j l n') (digest-4 hash hash-length p key y y' alike equal-5 j l n n')

    pub none-unequal : unequal_at hash p key y y' ≡ []
    none-unequal = none-when hash hash-length p key y y' alike (λ a m. pair-equal a (compared-mem p y y' a m))

    pub pair-states : p.k < p.m → length key.y ≡ y_length p → States hash p key y y' (output hash p y y')
    pair-states short y-length =
        states-hold hash hash-length p key short y-length y y' alike (none_then hash hash-length p key y y' alike none-unequal)

  -- ---- under one prefix and h

  module _ (prefix h : List ℕ) where
    pub record Listed (y : Exchange) : Type 0 where
      pub member : In y ys
      pub prefix-is : y.prefix ≡ prefix
      pub length5 : length y.message5 ≡ message5_length p y.leaf
      pub digest : hash (commitment_string hash p y) 32 ≡ h

    module _ {y y' : Exchange} (a : Listed y) (a' : Listed y') where
      same-prefix : y.prefix ≡ y'.prefix
      same-prefix = a.prefix-is ∙ sym a'.prefix-is

      same-commitment_string : commitment_string hash p y ≡ commitment_string hash p y'
      unfolding string_at
      same-commitment_string = equal-strings a.member a'.member at5 at5 (a.digest ∙ sym a'.digest)

      same-leaf_string : (i : ℕ) → i < leaves p → (i ≡ y.leaf → ⊥) → (i ≡ y'.leaf → ⊥) → leaf_string hash p y i ≡ leaf_string hash p y' i
      unfolding string_at
      same-leaf_string i l n n' =
          equal-strings a.member a'.member (at4 i l n) (at4 i l n')
          (sym (commitment-disclosed hash p y i n)
          ∙ commitments-same hash hash-length p y y' same-prefix a.length5 a'.length5 same-commitment_string i l
          ∙ commitment-disclosed hash p y' i n')

      pub same-leaf : (i : ℕ) → i < leaves p → (i ≡ y.leaf → ⊥) → (i ≡ y'.leaf → ⊥)
          → (opened_state hash p y i ≡ opened_state hash p y' i) × SameAux p i (aux_of p y) (aux_of p y')
      same-leaf i l n n' = leaf-same hash hash-length p y y' same-prefix i (same-leaf_string i l n n')

    -- two openings of the list that hide different leaves
    pub record Paired (y y' : Exchange) : Type 0 where
      pub one : In y ys
      pub other : In y' ys
      pub alike : Alike hash p key y y'
      pub prefix-is : y.prefix ≡ prefix
      pub h-is : y.h ≡ h

    listed-one : {y y' : Exchange} → Paired y y' → Listed y
    listed-one q = record {
      member = q.one;
      prefix-is = q.prefix-is;
      length5 = q.alike.matched.length5;
      digest = q.alike.accepted.commitment ∙ q.h-is;
    }

    listed-other : {y y' : Exchange} → Paired y y' → Listed y'
    listed-other q = record {
      member = q.other;
      prefix-is = sym q.alike.matched.same-prefix ∙ q.prefix-is;
      length5 = q.alike.matched.length5';
      digest = q.alike.accepted'.commitment ∙ sym q.alike.same-h ∙ q.h-is;
    }

    module _ (short : p.k < p.m) (y-length : length key.y ≡ y_length p) where
      -- an opening of the list that discloses leaf j, as the part of a pair has it
      pub record Disclosed (part : List ℕ) (j : ℕ) : Type 0 where
        pub y : Exchange
        pub listed : Listed y
        pub not_hidden : j ≡ y.leaf → ⊥
        pub state-is : leaf_state part j ≡ opened_state hash p y j
        pub aux-is : SameAux p j (aux_state p part) (aux_of p y)

      disclosed : {y y' : Exchange} → Paired y y' → (j : ℕ) → j < leaves p → Disclosed (output hash p y y') j
      disclosed {y} {y'} q j l = go (ℕ_discrete j y.leaf)
        where
          given : States hash p key y y' (output hash p y y')
          given = pair-states q.one q.other q.alike short y-length

          go : Dec (j ≡ y.leaf) → Disclosed (output hash p y y') j
          go (no n) = record {
            y = y;
            listed = listed-one q;
            not_hidden = n;
            state-is = given.opened j l n;
            aux-is = λ t. given.aux (λ z. n (is_last-last p j t ∙ z));
          }
          go (yes z) =
              let n : j ≡ y'.leaf → ⊥ = λ z'. q.alike.matched.apart (sym z ∙ z') in
              record {
                y = y';
                listed = listed-other q;
                not_hidden = n;
                state-is = given.opened' j l n;
                aux-is = λ t. given.aux' (λ z. n (is_last-last p j t ∙ z));
              }

      -- ---- all pairs

      pub one-share : {y y' z z' : Exchange} → Paired y y' → Paired z z' → (j : ℕ) → j < leaves p
          → leaf_share hash p y.prefix (output hash p y y') j ≡ leaf_share hash p z.prefix (output hash p z z') j
      unfolding leaf_share
      one-share {y} {y'} {z} {z'} q q' j l =
          let d = disclosed q j l in
          let d' = disclosed q' j l in
          let s = same-leaf d.listed d'.listed j l d.not_hidden d'.not_hidden in
          share-ext p y.prefix j _ _ _ _ hash (d.state-is ∙ s.0 ∙ sym d'.state-is) (λ t. d.aux-is t ∙ s.1 t ∙ sym (d'.aux-is t))
          ∙ ap (λ (pre : List ℕ). share hash p pre j (leaf_state (output hash p z z') j) (aux_state p (output hash p z z')))
          (same-prefix (listed-one q) (listed-one q'))
