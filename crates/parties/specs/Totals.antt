-- The laws of sums over leaves: one leaf hidden, the parties of an axis, aux.
--
-- disclosed_of p hidden j c   the test for the leaves of party c on axis j, but for the hidden leaf
-- total-picks             equal tests give equal sums
-- total-split, total-less the leaves that pass a second test, and those that fail it, make up all that were picked
-- less-ext                equal lists leave the same
-- last-party              what the sums of all parties of an axis but the last one leave of the sum of all is that of the last one
-- hides-none, party-hides-none   a number that is no leaf's hides none
-- total-other             one leaf more, unless it is the hidden one
-- total-hidden            the sum of all leaves but one, with that leaf's share added, is the sum of all
-- party-without-aux       leaf n−1 is in the last party of every axis, so aux enters no other
-- total-with-aux          the sum of all disclosed leaves has aux in it, in its place, where leaf n−1 is disclosed
-- total-without-aux       where it is hidden, aux has no influence
use Rattle.std.specs.Prelude.{◌≡◌, Bool, true, false, ◌&&◌, ltb, length, take}
use Rattle.std.proofs.Math.Path.{refl, sym, ap, ap₂}
use Rattle.std.proofs.Common.{◌∙◌, le_refl, le_of_eq, add-one, arith}
use Rattle.std.proofs.Math.Bool.{not, cond, and-true}
use mathlib.Core.List.{List, [], ◌++◌, append-nil}
use Prim.Native.Nat.{ℕ, zero, suc, ◌+◌, ◌-◌, ◌≤◌, ◌<◌}
use Rattle.std.proofs.Math.Decide.{dec_lt, ℕ_discrete}
use borrow.Author.Tests.{eq-eqb, ne_eqb, lt-ltb, le-ltb, eqb-true, eqb-false, not-true}
use Rattle.std.proofs.Math.Dec.{eqb}
use Rattle.std.proofs.Math.ListN.{replicate}
use Rattle.std.proofs.lemmas.List.{length-replicate}
use Rattle.lists.specs.Checks.Laws.{and_left}
use Rattle.lists.specs.Sum.{xor_list, xor_at}
use Rattle.lists.specs.Sum.Laws.{length-xor_list, xor_list-comm, xor_list-assoc, xor_list-append, xor_list-self, xor_list-zeros}
use Rattle.parameters.specs.declared.Parameters.{Parameters}
use Rattle.layout.specs.Layout.{others, leaves, digit, aux_length, share_length, at_x}
use Rattle.layout.specs.Layout.Laws.{side-others, leaves-pos, digit_lt, digit-last}
use Rattle.exchange.specs.Strings.{string3}
use Rattle.exchange.specs.Leaf.{share}
use Rattle.exchange.proofs.Leaf.Laws.{share-last, share_other, length-share-le}
use Rattle.exchange.specs.Parties.{total, party_of}
use Rattle.exchange.proofs.Parties.Laws.{total-yes, total-no, total_ext, length-total}
use Rattle.parties.specs.Blocks.{xor_at-zeros}
use Rattle.parties.specs.Sums.{less}

abbrev pub disclosed_of : Parameters → ℕ → ℕ → ℕ → ℕ → Bool
disclosed_of p hidden j c i = party_of p j c i && not (eqb i hidden)

-- ---- tests

module _ (p : Parameters) (s : ℕ → List ℕ) where
  pub total-picks : (picks picks' : ℕ → Bool) (n : ℕ) → ((i : ℕ) → i < n → picks i ≡ picks' i) → total p picks s n ≡ total p picks' s n
  unfolding total
  total-picks picks picks' zero h = refl
  total-picks picks picks' (suc n) h =
      ap₂ (λ (t : Bool) (l : List ℕ). cond t (xor_list l (s n)) l) (h n (le_refl (suc n))) (total-picks picks picks' n (λ i l. h i (omega arith)))

  -- a share goes to the one sum or to the other
  join : (f t : Bool) (a b l : List ℕ)
      → xor_list (cond (f && t) (xor_list a l) a) (cond (not f && t) (xor_list b l) b) ≡ cond t (xor_list (xor_list a b) l) (xor_list a b)
  join true true a b l = xor_list-assoc a l b ∙ ap (xor_list a) (xor_list-comm l b) ∙ sym (xor_list-assoc a b l)
  join true false a b l = refl
  join false true a b l = sym (xor_list-assoc a b l)
  join false false a b l = refl

  pub total-split : (f picks : ℕ → Bool) (n : ℕ)
      → xor_list (total p (λ i. f i && picks i) s n) (total p (λ i. not (f i) && picks i) s n) ≡ total p picks s n
  unfolding total
  total-split f picks zero =
      xor_list-self (replicate (share_length p) 0) ∙ ap (λ (n : ℕ). replicate n 0) (length-replicate (share_length p) 0)
  total-split f picks (suc n) =
      join (f n) (picks n) (total p (λ i. f i && picks i) s n) (total p (λ i. not (f i) && picks i) s n) (s n)
      ∙ ap (λ (l : List ℕ). cond (picks n) (xor_list l (s n)) l) (total-split f picks n)

  -- one summand is the sum less the other
  rest : (a b : List ℕ) → length a ≡ length b → xor_list (xor_list a b) a ≡ b
  rest a b e =
      ap (λ (l : List ℕ). xor_list l a) (xor_list-comm a b) ∙ xor_list-assoc b a a ∙ ap (xor_list b) (xor_list-self a)
      ∙ xor_list-zeros b (length a) (le_of_eq e)

  pub total-less : ((i : ℕ) → length (s i) ≤ share_length p) → (f picks : ℕ → Bool) (n : ℕ)
      → xor_list (total p picks s n) (total p (λ i. f i && picks i) s n) ≡ total p (λ i. not (f i) && picks i) s n
  total-less short f picks n =
      ap (λ (l : List ℕ). xor_list l (total p (λ i. f i && picks i) s n)) (sym (total-split f picks n))
      ∙ rest (total p (λ i. f i && picks i) s n) (total p (λ i. not (f i) && picks i) s n) (size (λ i. f i && picks i) ∙ sym (size (λ i. not (f i) && picks i)))
    where
      size : (picks : ℕ → Bool) → length (total p picks s n) ≡ share_length p
      size picks = length-total p picks s n (λ i l e. short i)

-- ---- the parties of an axis

pub less-ext : (total : List ℕ) (f g : ℕ → List ℕ) (n : ℕ) → ((c : ℕ) → c < n → f c ≡ g c) → less total f n ≡ less total g n
unfolding less
less-ext total f g zero h = refl
less-ext total f g (suc n) h = ap₂ xor_list (less-ext total f g n (λ c l. h c (omega arith))) (h n (le_refl (suc n)))

module _ (p : Parameters) (s : ℕ → List ℕ) (short : (i : ℕ) → length (s i) ≤ share_length p) (picks : ℕ → Bool) (j n : ℕ) where
  -- the picked leaves of the parties from k on
  abbrev from : ℕ → ℕ → Bool
  from k i = not (ltb (digit p j i) k) && picks i

  own : (k i : ℕ) → party_of p j k i && picks i ≡ party_of p j k i && from k i
  unfolding party_of
  own k i = go (ℕ_discrete (digit p j i) k)
    where
      go : Dec (digit p j i ≡ k) → eqb (digit p j i) k && picks i ≡ eqb (digit p j i) k && from k i
      go (yes e) = ap (λ (t : Bool). eqb (digit p j i) k && (not t && picks i)) (sym (le-ltb (digit p j i) k (omega arith)))
      go (no e) = rw (ne_eqb (digit p j i) k e) refl

  next : (k i : ℕ) → not (party_of p j k i) && from k i ≡ from (suc k) i
  unfolding party_of
  next k i = go (ℕ_discrete (digit p j i) k) (dec_lt (digit p j i) k)
    where
      go : Dec (digit p j i ≡ k) → Dec (digit p j i < k) → not (eqb (digit p j i) k) && from k i ≡ from (suc k) i
      go (yes e) l = rw (eq-eqb (digit p j i) k e, lt-ltb (digit p j i) (suc k) (omega arith)) refl
      go (no e) (yes l) = rw (ne_eqb (digit p j i) k e, lt-ltb (digit p j i) k l, lt-ltb (digit p j i) (suc k) (omega arith)) refl
      go (no e) (no l) = rw (ne_eqb (digit p j i) k e, le-ltb (digit p j i) k (omega arith), le-ltb (digit p j i) (suc k) (omega arith)) refl

  parties-less : (k : ℕ) → less (total p picks s n) (λ c. total p (λ i. party_of p j c i && picks i) s n) k ≡ total p (from k) s n
  unfolding less
  parties-less zero = total-picks p s picks (from 0) n (λ i l. ap (λ (t : Bool). not t && picks i) (sym (le-ltb (digit p j i) 0 (omega arith))))
  parties-less (suc k) =
      ap₂ xor_list (parties-less k) (total-picks p s (λ i. party_of p j k i && picks i) (λ i. party_of p j k i && from k i) n (λ i l. own k i))
      ∙ total-less p s short (party_of p j k) (from k) n
      ∙ total-picks p s (λ i. not (party_of p j k i) && from k i) (from (suc k)) n (λ i l. next k i)

  pub last-party : less (total p picks s n) (λ c. total p (λ i. party_of p j c i && picks i) s n) (others p) ≡ total p (λ i. party_of p j (others p) i && picks i) s n
  unfolding party_of
  last-party = parties-less (others p) ∙ total-picks p s (from (others p)) (λ i. eqb (digit p j i) (others p) && picks i) n (λ i l. go i (dec_lt (digit p j i) (others p)))
    where
      go : (i : ℕ) → Dec (digit p j i < others p) → from (others p) i ≡ eqb (digit p j i) (others p) && picks i
      go i (yes l) = rw (lt-ltb (digit p j i) (others p) l, ne_eqb (digit p j i) (others p) (λ e. omega arith)) refl
      go i (no l) = rw (le-ltb (digit p j i) (others p) (omega arith), eq-eqb (digit p j i) (others p) (omega (arith, digit_lt p j i, side-others p))) refl

module _ (p : Parameters) where
  -- ---- a number that is no leaf's

  pub hides-none : (s : ℕ → List ℕ) (hidden n : ℕ) → n ≤ hidden → total p (λ i. not (eqb i hidden)) s n ≡ total p (λ i. true) s n
  hides-none s hidden n h =
      total-picks p s (λ i. not (eqb i hidden)) (λ i. true) n (λ i l. ap not (ne_eqb i hidden (λ e. omega arith)))

  -- ---- a leaf that is hidden, and then added

  pub total-other : (s : ℕ → List ℕ) (hidden n : ℕ)
      → cond (eqb n hidden) (total p (λ i. not (eqb i hidden)) s n) (xor_list (total p (λ i. not (eqb i hidden)) s n) (s n))
      ≡ total p (λ i. not (eqb i hidden)) s (n + 1)
  unfolding total
  total-other s hidden n = go (eqb n hidden) ∙ ap (total p (λ i. not (eqb i hidden)) s) (sym (add-one n))
    where
      sum : List ℕ
      sum = total p (λ i. not (eqb i hidden)) s n

      go : (t : Bool) → cond t sum (xor_list sum (s n)) ≡ cond (not t) (xor_list sum (s n)) sum
      go true = refl
      go false = refl

  pub total-hidden : (s : ℕ → List ℕ) (leaf n : ℕ) → leaf < n → xor_list (total p (λ i. not (eqb i leaf)) s n) (s leaf) ≡ total p (λ i. true) s n
  total-hidden s leaf zero h = absurd (omega arith)
  total-hidden s leaf (suc n) h = go (ℕ_discrete n leaf) (total-hidden s leaf n)
    where
      sum : List ℕ
      sum = total p (λ i. not (eqb i leaf)) s n

      go : Dec (n ≡ leaf) → (leaf < n → xor_list sum (s leaf) ≡ total p (λ i. true) s n)
          → xor_list (total p (λ i. not (eqb i leaf)) s (suc n)) (s leaf) ≡ total p (λ i. true) s (suc n)
      go (yes e) ih =
          ap₂ xor_list (total-no p (λ i. not (eqb i leaf)) s n (ap not (eq-eqb n leaf e)) ∙ hides-none s leaf n (omega arith)) (ap s (sym e))
          ∙ sym (total-yes p (λ i. true) s n refl)
      go (no e) ih =
          ap (λ (l : List ℕ). xor_list l (s leaf)) (total-yes p (λ i. not (eqb i leaf)) s n (ap not (ne_eqb n leaf e)))
          ∙ xor_list-assoc sum (s n) (s leaf) ∙ ap (xor_list sum) (xor_list-comm (s n) (s leaf)) ∙ sym (xor_list-assoc sum (s leaf) (s n))
          ∙ ap (λ (l : List ℕ). xor_list l (s n)) (ih (omega arith)) ∙ sym (total-yes p (λ i. true) s n refl)

  pub party-hides-none : (s : ℕ → List ℕ) (hidden j c n : ℕ) → n ≤ hidden → total p (disclosed_of p hidden j c) s n ≡ total p (party_of p j c) s n
  party-hides-none s hidden j c n h =
      total-picks p s (disclosed_of p hidden j c) (party_of p j c) n
      (λ i l. ap (λ (t : Bool). party_of p j c i && not t) (ne_eqb i hidden (λ e. omega arith)) ∙ and-true (party_of p j c i))

-- ---- aux

module _ (hash : List ℕ → ℕ → List ℕ) (p : Parameters) (prefix : List ℕ) (st : ℕ → List ℕ) where
  shares : List ℕ → ℕ → List ℕ
  shares aux i = share hash p prefix i (st i) aux

  same-share : (aux aux' : List ℕ) (i : ℕ) → (i ≡ leaves p - 1 → ⊥) → shares aux i ≡ shares aux' i
  unfolding shares
  same-share aux aux' i other = share_other hash p prefix i (st i) aux other ∙ sym (share_other hash p prefix i (st i) aux' other)

  pub party-without-aux : (aux aux' : List ℕ) (hidden j c : ℕ) → j < p.axes → c < others p
      → total p (disclosed_of p hidden j c) (λ i. share hash p prefix i (st i) aux) (leaves p)
      ≡ total p (disclosed_of p hidden j c) (λ i. share hash p prefix i (st i) aux') (leaves p)
  unfolding party_of shares
  party-without-aux aux aux' hidden j c h l =
      total_ext p (disclosed_of p hidden j c) (shares aux) (shares aux') (leaves p)
      (λ i below e. same-share aux aux' i
      (λ z. let own : digit p j i ≡ c = eqb-true (digit p j i) c (and_left (party_of p j c i) (not (eqb i hidden)) e) in
      let last : digit p j i ≡ others p = ap (digit p j) z ∙ digit-last p j h in
      omega arith))

  pub total-without-aux : (aux aux' : List ℕ) (hidden : ℕ) → hidden ≡ leaves p - 1
      → total p (λ i. not (eqb i hidden)) (λ i. share hash p prefix i (st i) aux) (leaves p)
      ≡ total p (λ i. not (eqb i hidden)) (λ i. share hash p prefix i (st i) aux') (leaves p)
  unfolding shares
  total-without-aux aux aux' hidden is =
      total_ext p (λ i. not (eqb i hidden)) (shares aux) (shares aux') (leaves p)
      (λ i l e. same-share aux aux' i (λ z. eqb-false i hidden (not-true (eqb i hidden) e) (z ∙ sym is)))

  module _ (hash-length : (s : List ℕ) (n : ℕ) → length (hash s n) ≡ n) where
    pub total-with-aux : (aux : List ℕ) (hidden : ℕ) → (hidden ≡ leaves p - 1 → ⊥) → length aux ≤ aux_length p
        → total p (λ i. not (eqb i hidden)) (λ i. share hash p prefix i (st i) aux) (leaves p)
        ≡ xor_at (total p (λ i. not (eqb i hidden)) (λ i. share hash p prefix i (st i) []) (leaves p)) (at_x p) aux
    unfolding shares xor_list
    total-with-aux aux hidden other h =
        sum aux
        ∙ ap (λ (l : List ℕ). xor_list l (own ++ aux)) (total_ext p picks (shares aux) (shares []) last (λ i l e. same-share aux [] i (λ z. omega arith)))
        ∙ sym
        (ap (λ (l : List ℕ). xor_at l (at_x p) aux) (sum [])
        ∙ xor_at-zeros (xor_list others (own ++ [])) (at_x p) aux (omega (arith, long))
        ∙ xor_list-assoc others (own ++ []) (replicate (at_x p) 0 ++ aux)
        ∙ ap (xor_list others)
        (xor_list-append own (replicate (at_x p) 0) [] aux (own-length ∙ sym (length-replicate (at_x p) 0))
        ∙ ap (λ (l : List ℕ). l ++ aux) (xor_list-zeros own (at_x p) (le_of_eq (sym own-length)))))
      where
        last : ℕ
        last = leaves p - 1

        picks : ℕ → Bool
        picks i = not (eqb i hidden)

        own : List ℕ
        own = hash (string3 prefix last (take 16 (st last))) (at_x p)

        own-length : length own ≡ at_x p
        own-length = hash-length (string3 prefix last (take 16 (st last))) (at_x p)

        others : List ℕ
        others = total p picks (shares []) last

        sum : (aux : List ℕ) → total p picks (shares aux) (leaves p) ≡ xor_list (total p picks (shares aux) last) (own ++ aux)
        sum aux =
            let e : leaves p ≡ suc last = omega (arith, leaves-pos p) in
            ap (total p picks (shares aux)) e ∙ total-yes p picks (shares aux) last (ap not (ne_eqb last hidden (λ z. other (sym z))))
            ∙ ap (xor_list (total p picks (shares aux) last)) (share-last hash p prefix last (st last) aux refl)

        others-length : length others ≡ share_length p
        others-length = length-total p picks (shares []) last (λ i l e. length-share-le hash hash-length p prefix i (st i) [] (omega arith))

        long : length (xor_list others (own ++ [])) ≡ share_length p
        long = length-xor_list others (own ++ []) (omega (arith, others-length, ap length (append-nil own), own-length)) ∙ others-length
