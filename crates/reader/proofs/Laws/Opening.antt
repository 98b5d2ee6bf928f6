-- The parts taken one after another are those of message 5.
--
-- front-is                     what was written at the start is the front
-- room-asked                   room for the sibling seeds and for the longest α and β is room enough
-- siblings-taken, values-taken what is read stands in the fronts
-- rest-inside, rest-is         what is left is aux
-- front_read                   a front that is lent, filled and comes back is a write at the start
-- seeds-length, points-length  the fronts that are lent for the sibling seeds, and for α and β
-- siblings-read, commitment-read, values-read, left-read   what each part becomes, and how much was left
use Rattle.std.specs.Prelude.{◌≡◌, ℕ, ◌+◌, ◌-◌, ◌≤◌, take}
use Rattle.std.proofs.Math.Path.{sym, ap}
use Rattle.std.proofs.Common.{◌∙◌, zero-add, arith, length-take-le, take_at}
use mathlib.Core.List.{List, ◌++◌}
use Rattle.std.proofs.Math.ListN.{length, drop, length-drop}
use Rattle.lists.specs.Part.{part, put_at}
use Rattle.lists.specs.Part.Laws.{length_part}
use Rattle.parameters.specs.declared.Parameters.{Parameters}
use Rattle.parameters.specs.Limits.{Within}
use Rattle.layout.specs.Layout.{siblings_length, values_length, message5_length}
use Rattle.reader.specs.Message5.{commitment_place, values_place, aux_place, siblings_in, commitment_in, values_in, aux_in}
use Rattle.reader.proofs.Laws.Message5.{length-siblings_in, length-values_in}
use Rattle.reader.specs.Taken.{taken, behind}
use Rattle.reader.proofs.Laws.Taken.{taken-whole, behind-whole}
use Rattle.reader.specs.Opening.{Asked, Parts, second, third, last}

pub front-is : (w x : List ℕ) (n : ℕ) → length x ≡ n → take n (put_at w 0 x) ≡ x
unfolding put_at
front-is w x n e = take_at x (drop (0 + length x) w) n e

pub room-asked : (p : Parameters) → Within p → (m5 s c v : List ℕ) → aux_place p ≤ length m5 → siblings_length p ≤ length s → length c ≡ 32 → length v ≡ 64
    → Asked p m5 s c v
room-asked p within m5 s c v long in-s in_c in-v = record {
  within = within;
  siblings-fit = in-s;
  commitment-is = in_c;
  values-fit = omega arith;
  long = long;
}

-- what is read stands in the fronts, where message 5 has its length
module _ (p : Parameters) (leaf : ℕ) (m5 : List ℕ) (long : length m5 ≡ message5_length p leaf) where
  pub siblings-taken : (n : ℕ) → n ≡ siblings_length p → (w : List ℕ) {w' : List ℕ} → w' ≡ put_at w 0 (siblings_in p m5) → take n w' ≡ siblings_in p m5
  siblings-taken n en w e = ap (take n) e ∙ front-is w (siblings_in p m5) n (length-siblings_in p leaf m5 long ∙ sym en)

  pub values-taken : (n : ℕ) → n ≡ values_length p → (w : List ℕ) {w' : List ℕ} → w' ≡ put_at w 0 (values_in p m5) → take n w' ≡ values_in p m5
  values-taken n en w e = ap (take n) e ∙ front-is w (values_in p m5) n (length-values_in p leaf m5 long ∙ sym en)

module _ (p : Parameters) (m5 : List ℕ) (long : aux_place p ≤ length m5) {n : ℕ} (rest : n ≡ length (aux_in p m5)) where
  pub rest-inside : n ≤ length m5
  unfolding aux_in
  rest-inside = let h = length-drop (aux_place p) m5 in omega (arith, rest)

  pub rest-is : drop (length m5 - n) m5 ≡ aux_in p m5
  unfolding aux_in
  rest-is = let h = length-drop (aux_place p) m5 in let e : length m5 - n ≡ aux_place p = omega (arith, rest) in ap (λ (k : ℕ). drop k m5) e

-- the left side is what the borrow checker has
pub front_read : (m : List ℕ) (at n : ℕ) (w : List ℕ) → n ≤ length w → at + n ≤ length m → taken m at (take n w) ++ drop n w ≡ put_at w 0 (part m at n)
unfolding put_at
front_read m at n w fits long =
    let l = length-take-le n w fits in
    ap (λ (x : List ℕ). x ++ drop n w) (taken-whole m at (take n w) (omega arith) ∙ ap (part m at) l) ∙ back (part m at n) (length_part m at n long)
  where
    back : (x : List ℕ) → length x ≡ n → x ++ drop n w ≡ put_at w 0 x
    back x e = ap (λ (k : ℕ). x ++ drop k w) (sym e ∙ sym (zero-add (length x)))

module _ (p : Parameters) (m5 s c v : List ℕ) (asked : Asked p m5 s c v) (ns nv : ℕ) (es : ns ≡ siblings_length p) (ev : nv ≡ values_length p) where
  -- the fronts that are lent
  abbrev seeds : List ℕ
  seeds = take ns s

  abbrev points : List ℕ
  points = take nv v

  pub seeds-length : length seeds ≡ ns
  seeds-length = length-take-le ns s (omega (arith, asked.siblings-fit))

  pub points-length : length points ≡ nv
  points-length = length-take-le nv v (omega (arith, asked.values-fit))

  second_is : second m5 seeds c points ≡ commitment_place p
  second_is = let l = seeds-length in behind-whole m5 0 seeds (omega (arith, asked.long)) ∙ omega arith

  third-is : third m5 seeds c points ≡ values_place p
  third-is =
      ap (λ (n : ℕ). behind m5 n c) second_is ∙ behind-whole m5 (commitment_place p) c (omega (arith, asked.long, asked.commitment-is))
      ∙ ap (λ (n : ℕ). commitment_place p + n) asked.commitment-is

  last-is : last m5 seeds c points ≡ aux_place p
  last-is =
      let l = points-length in
      ap (λ (n : ℕ). behind m5 n points) third-is ∙ behind-whole m5 (values_place p) points (omega (arith, asked.long)) ∙ ap (λ (n : ℕ). values_place p + n) (l ∙ ev)

  module _ {n : ℕ} {s' c' v' : List ℕ} (parts : Parts m5 seeds c points n s' c' v') where
    pub siblings-read : s' ++ drop ns s ≡ put_at s 0 (siblings_in p m5)
    unfolding siblings_in part
    siblings-read =
        ap (λ (l : List ℕ). l ++ drop ns s) parts.siblings-are
        ∙ front_read m5 0 ns s (omega (arith, asked.siblings-fit)) (omega (arith, asked.long)) ∙ ap (λ (k : ℕ). put_at s 0 (take k m5)) es

    pub commitment-read : c' ≡ commitment_in p m5
    unfolding commitment_in
    commitment-read =
        parts.commitment-is ∙ ap (λ (k : ℕ). taken m5 k c) second_is ∙ taken-whole m5 (commitment_place p) c (omega (arith, asked.long, asked.commitment-is))
        ∙ ap (part m5 (commitment_place p)) asked.commitment-is

    pub values-read : v' ++ drop nv v ≡ put_at v 0 (values_in p m5)
    unfolding values_in
    values-read =
        ap (λ (l : List ℕ). l ++ drop nv v) (parts.values-are ∙ ap (λ (k : ℕ). taken m5 k points) third-is)
        ∙ front_read m5 (values_place p) nv v (omega (arith, asked.values-fit)) (omega (arith, asked.long)) ∙ ap (λ (k : ℕ). put_at v 0 (part m5 (values_place p) k)) ev

    pub left-read : n ≡ length (aux_in p m5)
    unfolding aux_in
    left-read = parts.left-are ∙ ap (λ (k : ℕ). length m5 - k) last-is ∙ sym (length-drop (aux_place p) m5)
