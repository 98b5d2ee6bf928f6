-- The laws of the states of a run's leaves.
--
-- siblings-lent     the sibling seeds start the run's part of message 5
-- aux-lent          aux ends it
use Rattle.std.specs.Prelude.{◌≡◌, ℕ, zero, suc, ◌+◌, ◌-◌}
use Rattle.std.proofs.Math.Path.{sym, ap, ap₂}
use Rattle.std.proofs.Common.{◌∙◌, take-take, drop-drop}
use mathlib.Core.List.{List, [], ◌∷◌}
use native.Mathlib.Omega.{arith}
use Rattle.std.proofs.Math.ListN.{take, drop}
use Rattle.std.proofs.Math.Seq.{take-nil}
use Rattle.parameters.specs.declared.Parameters.{Parameters}
use Rattle.layout.specs.Layout.{siblings_length}
use Rattle.reader.specs.Message5.{aux_place, siblings_in, aux_in}
use Rattle.extractor.specs.declared.pairs.Place.{Place}
use Rattle.extractor.specs.Pairs.{message_in, Lies, aux-before}

drop-take : (x n : ℕ) (l : List ℕ) → drop x (take n l) ≡ take (n - x) (drop x l)
drop-take zero n l = let k : n ≡ n - 0 = omega arith in ap (λ (x : ℕ). take x l) k
drop-take (suc x) zero l = let k : 0 ≡ 0 - suc x = omega arith in ap (λ (n : ℕ). take n (drop (suc x) l)) k
drop-take (suc x) (suc n) [] = sym (take-nil (suc n - suc x))
drop-take (suc x) (suc n) (a ∷ l) =
    let k : n - x ≡ suc n - suc x = omega arith in drop-take x n l ∙ ap (λ (m : ℕ). take m (drop x l)) k

module _ (p : Parameters) (place : Place) (m5 : List ℕ) (l : Lies p place m5) where
  pub siblings-lent : {n : ℕ} → n ≡ siblings_length p
      → take (place.start + n - place.start) (drop place.start m5) ≡ siblings_in p (message_in place m5)
  unfolding siblings_in
  siblings-lent {n} e =
      let b = aux-before p place m5 l in
      let k : place.start + n - place.start ≡ siblings_length p = omega arith in
      ap (λ (x : ℕ). take x (drop place.start m5)) k
      ∙ sym (take-take (siblings_length p) (place.end - place.start) (drop place.start m5) (omega arith))

  pub aux-lent : {n : ℕ} → n ≡ aux_place p → take (place.end - (place.start + n)) (drop (place.start + n) m5) ≡ aux_in p (message_in place m5)
  unfolding aux_in
  aux-lent {n} e =
      let k : place.end - (place.start + n) ≡ place.end - place.start - n = omega arith in
      ap₂ (λ (x : ℕ) (d : List ℕ). take x d) k (sym (drop-drop n place.start m5))
      ∙ sym (drop-take n (place.end - place.start) (drop place.start m5))
      ∙ ap (λ (x : ℕ). drop x (message_in place m5)) e
