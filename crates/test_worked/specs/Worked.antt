-- The cases that document 01 marks under "Worked", computed by the definitions.
--
--   Case               what a definition gives, and what document 01 says, each as bytes
--   sample, matrix     set and matrix of the key listing
--   vector_for          x of a key and a syndrome of one byte, under this matrix
--   three_axes          a set with D 3
--   cases              the marked cases, in document 01's order
--   worked             in every case the two are equal
use Rattle.std.specs.Prelude.{◌≡◌, refl, List, [], ◌∷◌, map, ℕ}
use Rattle.lists.specs.Xor.{◌⊕◌}
use Rattle.bytefield.specs.Product.{reduction, xtime, times_bits, ◌⊗◌}
use Rattle.bytefield.specs.Inverse.{squares, inverse}
use Rattle.tower.specs.Point.{four_times}
use Rattle.algebra.specs.Marks.{pick}
use Rattle.algebra.specs.Polynomial.{plus, scale, times, expand, product, slopes, interpolate}
use Rattle.lists.specs.Sum.{xor_list}
use Rattle.answers.specs.Number.{answer_number}
use Rattle.parameters.specs.declared.Parameters.{Parameters}
use Rattle.parameters.specs.Limits.{limits, within_limits}
use Rattle.polynomial.specs.Division.{remainder, over}
use Rattle.polynomial.specs.Interpolant.{ascending, interpolant_of, vanishing_of}
use Rattle.relation.specs.Key.{dot, rows, vector_of, weight_of, filled, positions, locator_of, quotient_of}
use Rattle.relation.specs.Admission.{key_lengths, key_checks, key_answer}
use Rattle.layout.specs.Layout.{bits, levels, digit, coordinate}
use Rattle.exchange.specs.Tree.{siblings}

pub record Case : Type 0 where
  pub computed : List ℕ
  pub expected : List ℕ

-- X, Z and X·Z as points
abbrev point_x : List ℕ
point_x = 0 ∷ 1 ∷ 0 ∷ 0 ∷ []

abbrev point_z : List ℕ
point_z = 0 ∷ 0 ∷ 1 ∷ 0 ∷ []

abbrev point_x_z : List ℕ
point_x_z = four_times point_x point_z

abbrev sample : Parameters
sample = record { m = 2; k = 1; w = 1; axes = 1; t = 1 }

abbrev matrix : List ℕ
matrix = 0x01 ∷ []

abbrev vector_for : ℕ → ℕ → List ℕ
vector_for key syndrome = vector_of matrix (syndrome ∷ []) (key ∷ [])

abbrev three_axes : Parameters
three_axes = record { m = 2; k = 1; w = 1; axes = 3; t = 1 }

pub cases : List Case
cases =
    -- 57·83 = c1
    (record { computed = (0x57 ⊗ 0x83) ∷ []; expected = 0xc1 ∷ [] })
    -- inverse of 53 is ca
    ∷ (record { computed = inverse 0x53 ∷ []; expected = 0xca ∷ [] })
    -- X² = 20 01 00 00
    ∷ (record { computed = four_times point_x point_x; expected = 0x20 ∷ 0x01 ∷ 0x00 ∷ 0x00 ∷ [] })
    -- Z² = 00 20 01 00
    ∷ (record { computed = four_times point_z point_z; expected = 0x00 ∷ 0x20 ∷ 0x01 ∷ 0x00 ∷ [] })
    -- (XZ)² = 6c 4c 20 01
    ∷ (record { computed = four_times point_x_z point_x_z; expected = 0x6c ∷ 0x4c ∷ 0x20 ∷ 0x01 ∷ [] })
    -- S, Q, P, F above: x, Q, S, P and F of the listing's key
    ∷ (record { computed = vector_for 0x05 0x05; expected = 0x05 ∷ 0x00 ∷ [] })
    ∷ (record { computed = locator_of 1 (vector_for 0x05 0x05); expected = 0x01 ∷ 0x01 ∷ [] })
    ∷ (record { computed = interpolant_of (vector_for 0x05 0x05); expected = 0x06 ∷ 0x03 ∷ [] })
    ∷ (record { computed = quotient_of 1 (vector_for 0x05 0x05); expected = 0x03 ∷ [] })
    ∷ (record { computed = vanishing_of 2; expected = 0x02 ∷ 0x03 ∷ 0x01 ∷ [] })
    -- leaf 5 at D 3: coordinates 2,1,2
    ∷ (record { computed = map (λ j. coordinate three_axes j 5) (1 ∷ 2 ∷ 3 ∷ []); expected = 2 ∷ 1 ∷ 2 ∷ [] })
    -- its siblings: nodes 2, 7, 12, whatever the hash, the salt and the root
    ∷ (record { computed = map (λ s. s.0) (siblings (λ s n. []) [] (levels three_axes) 1 [] 5); expected = 2 ∷ 7 ∷ 12 ∷ [] })
    -- same set, key 00, syndrome 00: S and P zero, Q = 0101
    ∷ (record { computed = vector_for 0x00 0x00; expected = 0x00 ∷ 0x00 ∷ [] })
    ∷ (record { computed = interpolant_of (vector_for 0x00 0x00); expected = 0x00 ∷ 0x00 ∷ [] })
    ∷ (record { computed = quotient_of 1 (vector_for 0x00 0x00); expected = 0x00 ∷ [] })
    ∷ (record { computed = locator_of 1 (vector_for 0x00 0x00); expected = 0x01 ∷ 0x01 ∷ [] })
    -- key 05, syndrome 02: x = 05 07, refused 3
    ∷ (record { computed = vector_for 0x05 0x02; expected = 0x05 ∷ 0x07 ∷ [] })
    ∷ (record { computed = answer_number (key_answer sample matrix (0x02 ∷ []) (0x05 ∷ [])) ∷ []; expected = 3 ∷ [] })
    ∷ []

pub worked : map (λ c. c.computed) cases ≡ map (λ c. c.expected) cases
unfolding cases inverse squares four_times ◌⊗◌ times_bits xtime reduction ◌⊕◌
    xor_list pick plus scale times expand product slopes interpolate remainder over ascending interpolant_of vanishing_of
    dot rows vector_of weight_of filled positions locator_of quotient_of limits within_limits key_lengths key_checks key_answer
    bits digit coordinate siblings
worked = refl
