-- The laws of what the extractor compares and answers.
--
-- string-7, string-6, string-5, string-4   the strings by their layers
-- Compared                  a layer and number that is compared
-- upper, lower, compared_is the order: layers 7 and 6, then 5, then 4
-- mem-compared, compared-mem   exactly these stand in the list `compared`
-- extract-is                the answer is found from the pairs that are unequal
-- axis-is                   the answer's axis is the first on which the hidden leaves differ, from 1
use Rattle.std.specs.Prelude.{◌≡◌, true, not, ℕ, ◌+◌, ◌-◌, ◌<◌, eqb}
use Rattle.std.proofs.Math.Path.{refl, ap}
use Rattle.std.proofs.Common.{sym, ◌∙◌, ⊎_elim}
use mathlib.Core.List.Memᴰ
use mathlib.Core.List.{List, ◌∷◌, ◌++◌, Memᴰ}
use native.Mathlib.Omega.{arith}
use borrow.Author.Tests.{ne_eqb, eqb-false, not-true}
use Rattle.lists.specs.Checks.Laws.{and_left, and_right}
use Rattle.parameters.specs.declared.Parameters.{Parameters}
use Rattle.layout.specs.Layout.{leaves}
use Rattle.exchange.proofs.FirstAxis.{first_axis}
use Rattle.exchange.specs.Sequences.{listed, those}
use Rattle.exchange.proofs.Sequences.Laws.{mem-listed, listed-mem, mem-those, those-mem}
use Rattle.exchange.specs.Values.{Key}
use Rattle.exchange.specs.Parties.{axis_string}
use Rattle.exchange.specs.Opening.{Exchange, leaf_string, commitment_string, announced, response_string}
use Rattle.exchange.specs.Extractor.{opened_in_both, compared, axis, string_at, unequal_at, finding, extract}

-- ---- what is compared

module _ (p : Parameters) (e e' : Exchange) where
  pub data Compared : ℕ × ℕ → Type 0 where
    at_response : Compared (7, 0)
    at_axis : (j : ℕ) → j < p.axes → Compared (6, j + 1)
    at_commitment : Compared (5, 0)
    at_leaf : (i : ℕ) → i < leaves p → (i ≡ e.leaf → ⊥) → (i ≡ e'.leaf → ⊥) → Compared (4, i)

  -- layers 7 and 6
  abbrev pub upper : List (ℕ × ℕ)
  upper = (7, 0) ∷ listed (λ j. (6, j + 1)) p.axes

  -- layer 4
  abbrev pub lower : List (ℕ × ℕ)
  lower = those (λ n. opened_in_both e.leaf e'.leaf n.1) (listed (λ i. (4, i)) (leaves p))

  both-when : (i : ℕ) → (i ≡ e.leaf → ⊥) → (i ≡ e'.leaf → ⊥) → opened_in_both e.leaf e'.leaf i ≡ true
  unfolding opened_in_both
  both-when i n n' = rw (ne_eqb i e.leaf n, ne_eqb i e'.leaf n')

  both-then : (i : ℕ) → opened_in_both e.leaf e'.leaf i ≡ true → (i ≡ e.leaf → ⊥) × (i ≡ e'.leaf → ⊥)
  unfolding opened_in_both
  both-then i t = (
    eqb-false i e.leaf (not-true _ (and_left (not (eqb i e.leaf)) (not (eqb i e'.leaf)) t)),
    eqb-false i e'.leaf (not-true _ (and_right (not (eqb i e.leaf)) (not (eqb i e'.leaf)) t)),
  )

  pub mem-compared : (a : ℕ × ℕ) → Compared a → Memᴰ a (compared p e e')
  unfolding compared
  mem-compared a at_response = Memᴰ.head refl
  mem-compared a (at_axis j h) = Memᴰ.tail (Memᴰ.append_left ((5, 0) ∷ lower) (mem-listed (λ j. (6, j + 1)) p.axes j h))
  mem-compared a at_commitment = Memᴰ.append_right upper (Memᴰ.head refl)
  mem-compared a (at_leaf i h n n') =
      Memᴰ.append_right upper
      (Memᴰ.tail (mem-those (λ n. opened_in_both e.leaf e'.leaf n.1) (4, i) (listed (λ i. (4, i)) (leaves p)) (mem-listed (λ i. (4, i)) (leaves p) i h) (both-when i n n')))

  pub compared_is : compared p e e' ≡ upper ++ ((5, 0) ∷ lower)
  unfolding compared
  compared_is = refl

  upper-mem : (a : ℕ × ℕ) → Memᴰ a upper → Compared a
  upper-mem a m = ⊎_elim (λ q. rw q at_response) (λ k. let f = listed-mem (λ j. (6, j + 1)) p.axes a k in rw f.2 (at_axis f.0 f.1)) (Memᴰ.cases_cons m)

  lower-mem : (a : ℕ × ℕ) → Memᴰ a lower → Compared a
  lower-mem a m =
      let t = those-mem (λ n. opened_in_both e.leaf e'.leaf n.1) (listed (λ i. (4, i)) (leaves p)) a m in
      let f = listed-mem (λ i. (4, i)) (leaves p) a t.0 in
      let b = both-then f.0 (ap (λ (n : ℕ × ℕ). opened_in_both e.leaf e'.leaf n.1) (sym f.2) ∙ t.1) in
      rw f.2 (at_leaf f.0 f.1 b.0 b.1)

  pub compared-mem : (a : ℕ × ℕ) → Memᴰ a (compared p e e') → Compared a
  compared-mem a m =
      ⊎_elim (upper-mem a) (λ k. ⊎_elim (λ q. rw q at_commitment) (lower-mem a) (Memᴰ.cases_cons k))
      (Memᴰ.append_cases upper (rw compared_is at m))

-- ---- what is answered

module _ (hash : List ℕ → ℕ → List ℕ) (p : Parameters) (key : Key) where
  pub string-7 : (e : Exchange) → string_at hash p key e 7 0 ≡ response_string hash p e key
  unfolding string_at
  string-7 e = refl

  pub string-6 : (e : Exchange) (j : ℕ) → string_at hash p key e 6 (j + 1) ≡ axis_string p e.prefix j (announced hash p e key j)
  unfolding string_at
  string-6 e j = let q : j + 1 - 1 ≡ j = omega arith in ap (λ (j : ℕ). axis_string p e.prefix j (announced hash p e key j)) q

  pub string-5 : (e : Exchange) → string_at hash p key e 5 0 ≡ commitment_string hash p e
  unfolding string_at
  string-5 e = refl

  pub string-4 : (e : Exchange) (i : ℕ) → string_at hash p key e 4 i ≡ leaf_string hash p e i
  unfolding string_at
  string-4 e i = refl

  pub extract-is : (e e' : Exchange) → extract hash p key e e' ≡ finding hash p key e e' (unequal_at hash p key e e')
  unfolding extract
  extract-is e e' = refl

pub axis-is : (p : Parameters) (e e' : Exchange) → axis p e e' ≡ first_axis p e.leaf e'.leaf + 1
unfolding axis
axis-is p e e' = refl
