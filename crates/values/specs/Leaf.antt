-- What a leaf's share announces on its own: 'The hidden leaf's own α and β have none' of the constants, so y does not enter.
--
-- leaf_values p matrix message2 s   α (4t) and β (4t) of the share s
-- LeafAsked                  the share, message 2 and the matrix, and room for α and β
-- leaf_values-any             it is α and β of the exchange without the constants, for every y
-- leaf-made                  it is the front of what the share announces
use Rattle.std.specs.Prelude.{◌≡◌, refl, false, List, [], ◌++◌, ℕ, length, take}
use Rattle.std.proofs.Common.{sym, ap, ◌∙◌, le_of_eq, zero-mul, arith}
use Rattle.lists.specs.Part.{part}
use Rattle.lists.specs.Part.Laws.{part-whole}
use Rattle.parameters.specs.declared.Parameters.{Parameters}
use Rattle.parameters.specs.Limits.{Within}
use Rattle.layout.specs.Layout.{share_length, message2_length, row_length, values_length, matrix_length}
use Rattle.exchange.specs.Reading.{encode}
use Rattle.exchange.specs.Values.{Key, key_of, image_of, x_of, s_of, alpha, beta}
use Rattle.values.specs.Announced.{announced_of}
use Rattle.values.specs.Announced.Laws.{announced-front}
use Rattle.values.specs.Shares.{Announcements}

unfoldable pub leaf_values : Parameters → List ℕ → List ℕ → List ℕ → List ℕ
leaf_values p matrix message2 s = encode (alpha p (key_of matrix []) message2 false s) p.t ++ encode (beta p (key_of matrix []) message2 false s) p.t

pub record LeafAsked (p : Parameters) (s message2 matrix out : List ℕ) : Type 0 where
  pub within : Within p
  pub sized-s : length s ≡ share_length p
  pub sized-message2 : length message2 ≡ message2_length p
  pub sized-matrix : length matrix ≡ matrix_length p
  pub sized-out : length out ≡ values_length p

pub leaf_values-any : (p : Parameters) (key : Key) (message2 s : List ℕ)
    → leaf_values p key.matrix message2 s ≡ encode (alpha p key message2 false s) p.t ++ encode (beta p key message2 false s) p.t
unfolding leaf_values alpha beta s_of x_of image_of
leaf_values-any p key message2 s = refl

pub leaf-made : (p : Parameters) (key : Key) (message2 s u : List ℕ) → length s ≡ share_length p → length u ≡ row_length p → Announcements p key message2 false s 1 u
    → take (values_length p) u ≡ leaf_values p key.matrix message2 s
leaf-made p key message2 s u ls lu h =
    let own = ap (λ (i : ℕ). part s i (share_length p)) (zero-mul (share_length p)) ∙ part-whole s (share_length p) (le_of_eq ls) in
    let first = sym (part-whole u (row_length p) (le_of_eq lu)) ∙ ap (λ (i : ℕ). part u i (row_length p)) (sym (zero-mul (row_length p))) in
    ap (take (values_length p)) (first ∙ h 0 (omega arith) ∙ ap (announced_of p key message2 false) own) ∙ announced-front p key message2 false s ∙ sym (leaf_values-any p key message2 s)
