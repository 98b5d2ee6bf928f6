-- Small cases, computed: what the laws leave open.
--
--   second-row       the matrix is lent row after row: of two rows of three bytes the second starts with the fourth byte
--   lowest-filled    E is filled with the lowest positions where x is zero
--   Q-by-hand        Q has w + 1 coefficients, the last of them 1
--   P-by-hand        P has w
--   weight-w         a key whose vector has exactly w nonzero entries is not refused
use Rattle.std.specs.Prelude.{◌≡◌, refl, true, false, [], ◌∷◌}
use Rattle.lists.specs.Xor.{◌⊕◌}
use Rattle.lists.specs.Sum.{xor_list}
use Rattle.bytefield.specs.Product.{reduction, xtime, times_bits, ◌⊗◌}
use Rattle.bytefield.specs.Inverse.{squares, inverse}
use Rattle.algebra.specs.Marks.{pick}
use Rattle.algebra.specs.Polynomial.{plus, scale, times, expand, product, slopes, interpolate}
use Rattle.polynomial.specs.Division.{remainder, over}
use Rattle.polynomial.specs.Interpolant.{ascending, interpolant_of, vanishing_of}
use Rattle.answers.specs.Number.{answer_number}
use Rattle.parameters.specs.declared.Parameters.{Parameters}
use Rattle.parameters.specs.Limits.{limits, within_limits}
use Rattle.relation.specs.Key.{dot, rows, vector_of, weight_of, filled, positions, locator_of, quotient_of}
use Rattle.relation.specs.Admission.{key_lengths, key_checks, key_answer}

pub second-row : rows 2 (1 ∷ 2 ∷ 3 ∷ 4 ∷ 5 ∷ 6 ∷ []) (0 ∷ 0 ∷ 1 ∷ []) ≡ 3 ∷ 6 ∷ []
unfolding rows dot ◌⊗◌ times_bits xtime reduction ◌⊕◌
second-row = refl

pub lowest-filled : positions 2 (0 ∷ 5 ∷ 0 ∷ 0 ∷ []) ≡ true ∷ true ∷ false ∷ false ∷ []
unfolding positions filled weight_of
lowest-filled = refl

-- x = 0 3 0 and w = 2: E is the points 1 and 2, Q = (X + 1)·(X + 2), S = (X + 1)·(X + 3), and so P = X + 1
pub Q-by-hand : locator_of 2 (0 ∷ 3 ∷ 0 ∷ []) ≡ 2 ∷ 3 ∷ 1 ∷ []
unfolding locator_of positions filled weight_of pick ascending product expand ◌⊗◌ times_bits xtime reduction ◌⊕◌
Q-by-hand = refl

pub P-by-hand : quotient_of 2 (0 ∷ 3 ∷ 0 ∷ []) ≡ 1 ∷ 1 ∷ []
unfolding quotient_of locator_of positions filled weight_of pick ascending product expand interpolant_of vanishing_of interpolate slopes plus scale times
    remainder over inverse squares ◌⊗◌ times_bits xtime reduction ◌⊕◌
P-by-hand = refl

-- the set and the key of the key listing: x = 05 00
abbrev sample : Parameters
sample = record { m = 2; k = 1; w = 1; axes = 1; t = 1 }

pub weight-w : answer_number (key_answer sample (0x01 ∷ []) (0x05 ∷ []) (0x05 ∷ [])) ≡ 0
unfolding key_answer key_checks key_lengths within_limits limits vector_of weight_of rows dot xor_list ◌⊗◌ times_bits xtime reduction ◌⊕◌
weight-w = refl
