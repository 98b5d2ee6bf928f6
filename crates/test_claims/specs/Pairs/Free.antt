-- Freedom of lists of such pairs, in run 1. The strings hashed in checking an honest opening are the prover's own, whatever leaf is hidden. Those of
-- layers 5 and 4 are the same in all openings, and those of layers 7 and 6 depend on message 2 alone, so these are compared by computation.
--
-- run1                 run 1
-- own_string d c l n    the prover's string of layer l and number n in run 1; c is the point and multiplier of its message 2
-- string-is            it is the one hashed in checking an opening
-- choices              points and multipliers: 16, 17, 18, each with 1 and 2
-- columns d            layers and numbers of layers 7 and 6
-- Tested d             unequal strings there, of two choices, have two digests
-- Chosen d y           the opening y is run 1 of an honest one, for a choice and some hidden leaves
-- ChosenPair d q, chosen-pair, chosen-idle   both openings of a pair are
-- free                 a list of such pairs is free
use Rattle.std.specs.Prelude.{◌≡◌, Bool, true, false, cond, ℕ, zero, suc, ◌+◌, ◌-◌, ◌<◌, eqb}
use Rattle.std.proofs.Math.Path.{refl, ap}
use Rattle.std.proofs.Common.{sym, ◌∙◌, subst, arith, lit<}
use mathlib.Core.List.{List, [], ◌∷◌}
use Rattle.std.proofs.Math.Decide.{ℕ_discrete}
use Rattle.algebra.specs.Each.{Each}
use Rattle.lists.specs.Part.{part}
use Rattle.layout.specs.Layout.{leaves}
use Rattle.layout.specs.Layout.Laws.{leaves-pos}
use Rattle.exchange.specs.Run.{Run}
use Rattle.exchange.specs.Strings.{string4, string5, string7}
use Rattle.exchange.specs.Parties.{axis_string}
use Rattle.exchange.specs.Messages.{own_state, own_aux, own_commitment, own_announced}
use Rattle.exchange.proofs.Messages.Opened.{honest, leaf_string-is, commitment_string-is}
use Rattle.exchange.proofs.Messages.Agreement.{axis_string-is, response_string-is}
use Rattle.exchange.specs.Opening.{Exchange}
use Rattle.exchange.specs.Extractor.{string_at}
use Rattle.runs.specs.Run.{run_at}
use Rattle.runs.specs.Messages.{message2_at}
use Rattle.runs.specs.Opening.{exchange_at}
use Rattle.runs.specs.Extractor.{differs}
use Rattle.claims.specs.Weight.{Pair, In, here, later, openings, Hashed, at7, at6, at5, at4, Free}
use Rattle.test_standin.specs.StandIn.{stand_in}
use Rattle.test_claims.specs.StandIn.{length-stand_in}
use Rattle.test_claims.specs.Rows.{separated, rows_of, two-digests}
use Rattle.test_claims.specs.Honest.{honest-at}
use Rattle.test_claims.specs.Pairs.{p, key, x_a, x, salt, root, message2, messages2, opened, pair, idle}
use Rattle.test_claims.specs.Pairs.Laws.{Axes, secret}

abbrev pub run1 : Run
run1 = run_at stand_in salt root 1

module _ (d : ℕ) where
  unfoldable pub own_string : ℕ × ℕ → ℕ × ℕ → List ℕ
  own_string c n =
      cond (eqb n.0 7)
      (string7 run1.prefix (λ j. stand_in (axis_string (p d) run1.prefix j (own_announced stand_in (p d) x run1 key (message2 c.0 c.1) j)) 32) d)
      (cond (eqb n.0 6) (axis_string (p d) run1.prefix (n.1 - 1) (own_announced stand_in (p d) x run1 key (message2 c.0 c.1) (n.1 - 1)))
      (cond (eqb n.0 5) (string5 run1.prefix (own_commitment stand_in (p d) x run1) (leaves (p d)))
      (string4 (p d) run1.prefix n.1 (own_state stand_in (p d) x run1 n.1) (own_aux stand_in (p d) x run1))))

  unfoldable pub axis_columns : ℕ → List (ℕ × ℕ)
  axis_columns zero = []
  axis_columns (suc j) = (6, j + 1) ∷ axis_columns j

  unfoldable pub columns : List (ℕ × ℕ)
  columns = (7, 0) ∷ axis_columns d

unfoldable pub choices : List (ℕ × ℕ)
choices = (16, 1) ∷ (16, 2) ∷ (17, 1) ∷ (17, 2) ∷ (18, 1) ∷ (18, 2) ∷ []

abbrev pub Tested : ℕ → Type 0
Tested d = separated (rows_of stand_in (own_string d) (columns d) choices) ≡ true

in-axes : (d n j : ℕ) → j < n → In (6, j + 1) (axis_columns d n)
unfolding axis_columns
in-axes d zero j l = absurd (omega arith)
in-axes d (suc n) j l = go (ℕ_discrete j n) (λ h. in-axes d n j h)
  where
    go : Dec (j ≡ n) → (j < n → In (6, j + 1) (axis_columns d n)) → In (6, j + 1) ((6, n + 1) ∷ axis_columns d n)
    go (yes e) f = rw e here
    go (no k) f = later (f (omega arith))

-- ---- an opening

module _ (d : ℕ) (axes : Axes d) (r ε i u : ℕ) (inside : u < leaves (p d)) where
  abbrev e : Exchange
  e = honest stand_in (p d) x run1 key (message2 r ε) u

  honest-is : exchange_at (p d) (opened d r ε i u) 1 ≡ e
  unfolding opened
  honest-is =
      honest-at (p d) 2 key salt root (messages2 r ε) (i ∷ u ∷ []) x (secret d axes) refl refl 1 (lit< tt)
      ∙ ap (λ (m : List ℕ). honest stand_in (p d) x run1 key m u) own2
    where
      own2 : message2_at (p d) (messages2 r ε) 1 ≡ message2 r ε
      own2 = unfold message2_at part in refl

  own : {layer number : ℕ} → Hashed stand_in (p d) key e layer number → string_at stand_in (p d) key e layer number ≡ own_string d (r, ε) (layer, number)
  unfolding string_at own_string
  own at7 = response_string-is stand_in length-stand_in (p d) key x_a refl refl (secret d axes) run1 (message2 r ε) u inside
  own (at6 j l) = axis_string-is stand_in length-stand_in (p d) key x_a refl refl (secret d axes) run1 (message2 r ε) u inside (j + 1 - 1)
  own at5 = commitment_string-is stand_in (p d) x run1 key (message2 r ε) u length-stand_in inside
  own (at4 i l n) = leaf_string-is stand_in (p d) x run1 key (message2 r ε) u length-stand_in inside i l n

pub record Chosen (d : ℕ) (y : Exchange) : Type 0 where
  pub choice : ℕ × ℕ
  pub first : ℕ
  pub leaf : ℕ
  pub in-choices : In choice choices
  pub inside : leaf < leaves (p d)
  pub is : y ≡ exchange_at (p d) (opened d choice.0 choice.1 first leaf) 1

pub record ChosenPair (d : ℕ) (q : Pair) : Type 0 where
  pub one : Chosen d (exchange_at (p d) q.one 1)
  pub other : Chosen d (exchange_at (p d) q.other 1)

module _ (d r ε : ℕ) (c : In (r, ε) choices) where
  chosen : (i u : ℕ) → u < leaves (p d) → Chosen d (exchange_at (p d) (opened d r ε i u) 1)
  chosen i u h = record { choice = (r, ε); first = i; leaf = u; in-choices = c; inside = h; is = refl }

  pub chosen-pair : (u u' : ℕ) → u < leaves (p d) → u' < leaves (p d) → ChosenPair d (pair d r ε u u')
  unfolding pair
  chosen-pair u u' h h' = record { one = chosen 0 u h; other = chosen 0 u' h' }

  pub chosen-idle : ChosenPair d (idle d r ε)
  unfolding idle
  chosen-idle = record { one = chosen 0 0 (leaves-pos (p d)); other = chosen 1 0 (leaves-pos (p d)) }

each-opening : (d : ℕ) (qs : List Pair) → Each (ChosenPair d) qs → Each (Chosen d) (openings (p d) 1 qs)
unfolding openings
each-opening d [] h = tt
each-opening d (q ∷ qs) h = go (differs q.one q.other 1) (each-opening d qs h.1)
  where
    go : (t : Bool) → Each (Chosen d) (openings (p d) 1 qs)
        → Each (Chosen d) (cond t (exchange_at (p d) q.one 1 ∷ exchange_at (p d) q.other 1 ∷ openings (p d) 1 qs) (openings (p d) 1 qs))
    go true rest = (h.0.one, (h.0.other, rest))
    go false rest = rest

each_in : {A : Type 0} (P : A → Type 0) {a : A} {l : List A} → Each P l → In a l → P a
each_in P h here = h.0
each_in P h (later i) = each_in P h.1 i

module _ (d : ℕ) (axes : Axes d) where
  string-is : (e : Exchange) (c : Chosen d e) {layer number : ℕ} → Hashed stand_in (p d) key e layer number
      → string_at stand_in (p d) key e layer number ≡ own_string d c.choice (layer, number)
  string-is e c {layer} {number} h =
      let z = c.is ∙ honest-is d axes c.choice.0 c.choice.1 c.first c.leaf c.inside in
      ap (λ (e : Exchange). string_at stand_in (p d) key e layer number) z
      ∙ own d axes c.choice.0 c.choice.1 c.first c.leaf c.inside (subst (λ (e : Exchange). Hashed stand_in (p d) key e layer number) z h)

  -- ---- a list

  pub free : Tested d → (qs : List Pair) → Each (ChosenPair d) qs → Free stand_in (p d) key (openings (p d) 1 qs)
  free test qs all e e' i i' layer number h h' unequal digest =
      go h
      (λ q. unequal (string-is e c h ∙ q ∙ sym (string-is e' c' h')))
      (sym (ap (λ (s : List ℕ). stand_in s 32) (string-is e c h)) ∙ digest ∙ ap (λ (s : List ℕ). stand_in s 32) (string-is e' c' h'))
    where
      c : Chosen d e
      c = each_in (Chosen d) (each-opening d qs all) i

      c' : Chosen d e'
      c' = each_in (Chosen d) (each-opening d qs all) i'

      Told : ℕ → ℕ → Type 0
      Told layer number = (own_string d c.choice (layer, number) ≡ own_string d c'.choice (layer, number) → ⊥)
          → stand_in (own_string d c.choice (layer, number)) 32 ≡ stand_in (own_string d c'.choice (layer, number)) 32 → ⊥

      tested : (n : ℕ × ℕ) → In n (columns d) → Told n.0 n.1
      tested n k = two-digests stand_in (own_string d) (columns d) choices test c.choice c'.choice c.in-choices c'.in-choices n k

      go : {layer number : ℕ} → Hashed stand_in (p d) key e layer number → Told layer number
      go at7 = tested (7, 0) (unfold columns in here)
      go (at6 j l) = tested (6, j + 1) (unfold columns in later (in-axes d d j l))
      go at5 = unfold own_string in (λ n q. n refl)
      go (at4 i l n) = unfold own_string in (λ n q. n refl)
