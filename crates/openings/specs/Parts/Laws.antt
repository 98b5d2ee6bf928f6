-- The laws of what an opening gives in one list.
--
-- length-rows_in     the length of the rows
-- put-states, put-rows, put-commitment   a part that was written
-- rows-states, rows-commitment, states-commitment   a part that stayed
-- states-lent, rows-lent, commitment-lent   a part that is lent
use Rattle.std.specs.Prelude.{◌≡◌, ℕ, ◌+◌, ◌-◌, length}
use Rattle.std.proofs.Common.{sym, ◌∙◌, length-append, take_at, drop-drop, length-take-le}
use Rattle.std.proofs.Math.Path.{ap}
use mathlib.Core.List.{List, ◌++◌}
use native.Mathlib.Omega.{arith}
use Rattle.std.proofs.Math.ListN.{take, drop, length-drop}
use Rattle.std.proofs.Math.Seq.{take_all, drop_at}
use Rattle.lists.specs.Part.{part, put_at}
use Rattle.lists.specs.Part.Laws.{length_part, length-put_at, tail-part, tail-back, lent_back, part-put_at-same, part-put_at-before, part-put_at-behind}
use Rattle.parameters.specs.declared.Parameters.{Parameters}
use Rattle.layout.specs.Layout.{states_length, rows_length, rows_end, opened_length}
use Rattle.openings.specs.Parts.{states_in, rows_in, hidden_commitment}

module _ (p : Parameters) (o : List ℕ) (long : length o ≡ opened_length p) where
  pub length-rows_in : length (rows_in p o) ≡ rows_length p
  unfolding rows_in
  length-rows_in = length_part o (states_length p) (rows_length p) (omega arith)

  -- the commitment as a part
  commitment-part : (o' : List ℕ) → length o' ≡ opened_length p → part o' (rows_end p) 32 ≡ hidden_commitment p o'
  unfolding part hidden_commitment
  commitment-part o' e = let l = length-drop (rows_end p) o' in take_all 32 (drop (rows_end p) o') (omega arith)

  -- ---- the commitment written; the left sides are what the borrow checker has

  module _ (c : List ℕ) {at : ℕ} (e : at ≡ rows_end p) where
    written : take at o ++ (c ++ drop (length o - at) (drop at o)) ≡ take at o ++ c
    written = tail-back o c at (omega arith)

    pub length-put-commitment : length c ≡ 32 → length (take at o ++ (c ++ drop (length o - at) (drop at o))) ≡ opened_length p
    length-put-commitment sized = let l = length-take-le at o (omega arith) in ap length written ∙ simp length-append (omega arith)

    pub put-commitment : hidden_commitment p (take at o ++ (c ++ drop (length o - at) (drop at o))) ≡ c
    unfolding hidden_commitment
    put-commitment = ap (drop (rows_end p)) written ∙ drop_at (take at o) c (rows_end p) (length-take-le at o (omega arith) ∙ e)

  -- ---- the rows written; the left sides are what the borrow checker has

  module _ (ys : List ℕ) (sized : length ys ≡ rows_length p) {a e : ℕ} (start : a ≡ states_length p) (end : e ≡ rows_end p) where
    back : take a o ++ (ys ++ drop (e - a) (drop a o)) ≡ put_at o (states_length p) ys
    back = lent_back o ys a e (omega arith) (omega arith) ∙ ap (λ (n : ℕ). put_at o n ys) start

    pub put-rows : rows_in p (take a o ++ (ys ++ drop (e - a) (drop a o))) ≡ ys
    unfolding rows_in
    put-rows =
        ap (λ (l : List ℕ). part l (states_length p) (rows_length p)) back ∙ ap (part (put_at o (states_length p) ys) (states_length p)) (sym sized)
        ∙ part-put_at-same o (states_length p) ys (omega arith)

    pub rows-states : states_in p (take a o ++ (ys ++ drop (e - a) (drop a o))) ≡ states_in p o
    unfolding states_in part
    rows-states = ap (take (states_length p)) back ∙ part-put_at-before o (states_length p) ys (omega arith) 0 (states_length p) (omega arith)

    pub rows-commitment : hidden_commitment p (take a o ++ (ys ++ drop (e - a) (drop a o))) ≡ hidden_commitment p o
    rows-commitment =
        ap (hidden_commitment p) back ∙ sym (commitment-part (put_at o (states_length p) ys) (length-put_at o (states_length p) ys (omega arith) ∙ long))
        ∙ part-put_at-behind o (states_length p) ys (omega arith) (rows_end p) 32 (omega arith) ∙ commitment-part o long

-- ---- the states written; the left side is what the borrow checker has

pub put-states : (p : Parameters) (o ys : List ℕ) → length ys ≡ states_length p → (n : ℕ) → states_in p (ys ++ drop n o) ≡ ys
unfolding states_in
put-states p o ys sized n = take_at ys (drop n o) (states_length p) sized

pub states-commitment : (p : Parameters) (o ys : List ℕ) → length ys ≡ states_length p → (n : ℕ) → n ≡ states_length p → hidden_commitment p (ys ++ drop n o) ≡ hidden_commitment p o
unfolding hidden_commitment
states-commitment p o ys sized n e =
    sym (drop-drop (rows_length p) (states_length p) (ys ++ drop n o)) ∙ ap (drop (rows_length p)) (drop_at ys (drop n o) (states_length p) sized)
    ∙ drop-drop (rows_length p) n o ∙ ap (λ (k : ℕ). drop (k + rows_length p) o) e

pub length-put-states : (p : Parameters) (o ys : List ℕ) → length o ≡ opened_length p → length ys ≡ states_length p → (n : ℕ) → n ≡ states_length p → length (ys ++ drop n o) ≡ opened_length p
length-put-states p o ys long sized n e = simp (length-append, length-drop) (omega arith)

-- ---- the parts lent; the left sides are what the borrow checker has

module _ (p : Parameters) (o : List ℕ) where
  pub states-lent : {n : ℕ} → n ≡ states_length p → take n o ≡ states_in p o
  unfolding states_in
  states-lent e = ap (λ (n : ℕ). take n o) e

  pub length-states-lent : length o ≡ opened_length p → {n : ℕ} → n ≡ states_length p → length (take n o) ≡ states_length p
  length-states-lent long {n} e = length-take-le n o (omega arith) ∙ e

  pub rows-lent : {a e : ℕ} → a ≡ states_length p → e ≡ rows_end p → take (e - a) (drop a o) ≡ rows_in p o
  unfolding rows_in part
  rows-lent {a} {e} start end =
      let n : e - a ≡ rows_length p = omega arith in
      ap (λ (k : ℕ). take k (drop a o)) n ∙ ap (λ (k : ℕ). take (rows_length p) (drop k o)) start

  pub commitment-lent : {a : ℕ} → a ≡ rows_end p → take (length o - a) (drop a o) ≡ hidden_commitment p o
  unfolding hidden_commitment
  commitment-lent {a} e = tail-part o a ∙ ap (λ (k : ℕ). drop k o) e
