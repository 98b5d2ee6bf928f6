-- The laws of what message 5 holds, where it has its length.
--
-- aux-inside                     aux starts within message 5
-- length-siblings_in, length-commitment_in, length-values_in   lengths of the sibling seeds, the commitment, and α and β
-- message5-most                  message 5 is no longer than with aux
-- aux-short, all-aux, no-aux     aux is no longer than it may be; where another leaf is hidden it is as long, where leaf n−1 is hidden it is empty
use Rattle.std.specs.Prelude.{◌≡◌, Bool, true, false, List, [], ℕ, ◌+◌, ◌-◌, ◌≤◌}
use Rattle.std.proofs.Math.Path.{ap}
use Rattle.std.proofs.Common.{◌∙◌, le_of_eq}
use Rattle.std.proofs.Math.Bool.{cond}
use Rattle.std.proofs.Math.Nat.{add-zero}
use native.Mathlib.Omega.{arith}
use Rattle.std.proofs.Math.ListN.{length, length-drop, drop_of_length-le}
use Rattle.std.proofs.Math.Seq.{length-take-le}
use Rattle.lists.specs.Part.Laws.{length_part}
use Rattle.parameters.specs.declared.Parameters.{Parameters}
use Rattle.layout.specs.Layout.{leaves, is_last, siblings_length, values_length, aux_length, message5_length}
use Rattle.layout.specs.Layout.Laws.{is_last-true}
use Rattle.reader.specs.Message5.{commitment_place, values_place, aux_place, siblings_in, commitment_in, values_in, aux_in}

module _ (p : Parameters) (leaf : ℕ) (m5 : List ℕ) (long : length m5 ≡ message5_length p leaf) where
  whole : length m5 ≡ aux_place p + cond (is_last p leaf) 0 (aux_length p)
  unfolding message5_length
  whole = long

  pub aux-inside : aux_place p ≤ length m5
  aux-inside = let e = whole in omega arith

  pub length-siblings_in : length (siblings_in p m5) ≡ siblings_length p
  unfolding siblings_in
  length-siblings_in = let h = aux-inside in length-take-le (commitment_place p) m5 (omega arith)

  pub length-commitment_in : length (commitment_in p m5) ≡ 32
  unfolding commitment_in
  length-commitment_in = let h = aux-inside in length_part m5 (commitment_place p) 32 (omega arith)

  pub length-values_in : length (values_in p m5) ≡ values_length p
  unfolding values_in
  length-values_in = length_part m5 (values_place p) (values_length p) aux-inside

  pub message5-most : length m5 ≤ aux_place p + aux_length p
  message5-most = go (is_last p leaf) whole
    where
      go : (last : Bool) → length m5 ≡ aux_place p + cond last 0 (aux_length p) → length m5 ≤ aux_place p + aux_length p
      go true e = omega arith
      go false e = omega arith

  pub aux-short : length (aux_in p m5) ≤ aux_length p
  unfolding aux_in
  aux-short = let h = length-drop (aux_place p) m5 in let e = message5-most in omega arith

  pub all-aux : is_last p leaf ≡ false → length (aux_in p m5) ≡ aux_length p
  unfolding aux_in
  all-aux other =
      let h = length-drop (aux_place p) m5 in
      let e : length m5 ≡ aux_place p + aux_length p = whole ∙ ap (λ (t : Bool). aux_place p + cond t 0 (aux_length p)) other in
      omega arith

  pub no-aux : leaf ≡ leaves p - 1 → aux_in p m5 ≡ []
  unfolding aux_in
  no-aux last =
      let e : length m5 ≡ aux_place p + 0 = whole ∙ ap (λ (t : Bool). aux_place p + cond t 0 (aux_length p)) (is_last-true p leaf last) in
      drop_of_length-le m5 (le_of_eq (e ∙ add-zero (aux_place p)))
