-- What the extractor compares and answers, over what it recomputed from two openings.
--
-- View, view             an opening recomputed: the hidden leaf, its commitment, aux, the states of all leaves one after another (the
--                        hidden leaf's means nothing), and the rows of all axes
-- state_at states i       state of leaf i (crate leaves)
-- row_at p rows j         row of axis j: what its parties announce
-- digest_at               digest of layer 6 of axis j
-- commitments p prefix v i   commitment of leaf i; the hidden leaf's is the one given
-- leaf_at                 what layer 4's string has behind the number of leaf i
-- apart f g i            f i and g i differ
-- first_apart f g n       the first number below n at which f and g differ, or n
-- both_apart u u' f g i   leaf i is opened in both, and f i and g i differ
-- first_opened u u' f g n   the first such leaf below n, or n
-- state_of u, output_of u  the state of leaf i, and the output, from the opening that discloses them; the first one hides leaf u
-- axis_of u u'            'the lowest set bit of their xor, counted from 1'
-- leaf_comparison         the answer at layers 5 and 4
-- comparison             the answer
use Rattle.std.specs.Prelude.{Bool, ◌&&◌, not, cond, List, [], ◌∷◌, ◌++◌, ℕ, ◌+◌, ◌*◌, eqb, ltb}
use Rattle.std.specs.Int.Bits.{bit_xor}
use Rattle.std.specs.Int.Count.{count_trailing_zeros}
use Rattle.lists.specs.Part.{part}
use Rattle.lists.specs.Equal.{eq_list}
use Rattle.shake256.specs.Fips.{SHAKE256}
use Rattle.parameters.specs.declared.Parameters.{Parameters}
use Rattle.layout.specs.Layout.{leaves, is_last, axis_length}
use Rattle.exchange.specs.Sequences.{joined, least}
use Rattle.exchange.specs.Strings.{string}
use Rattle.exchange.specs.Extractor.{Finding, opened_in_both, states as extracted}
pub use Rattle.leaves.specs.States.{state_at}
use Rattle.leaves.specs.Commitments.{commitments_of}
use Rattle.extractor.specs.Chain.{row_chain, leaf_chain}
pub mod Laws
pub mod Leaf
pub mod Same
pub mod Steps

pub record View : Type 0 where
  pub leaf : ℕ
  pub given : List ℕ
  pub aux : List ℕ
  pub states : List ℕ
  pub rows : List ℕ

abbrev pub view : ℕ → List ℕ → List ℕ → List ℕ → List ℕ → View
view leaf given aux states rows = record { leaf = leaf; given = given; aux = aux; states = states; rows = rows }

abbrev pub row_at : Parameters → List ℕ → ℕ → List ℕ
row_at p rows j = part rows (j * axis_length p) (axis_length p)

unfoldable pub digest_at : Parameters → List ℕ → List ℕ → ℕ → List ℕ
digest_at p prefix rows j = SHAKE256 (string 6 prefix ((j + 1) ∷ row_at p rows j)) 32

abbrev pub commitments : Parameters → List ℕ → View → ℕ → List ℕ
commitments p prefix v = commitments_of p prefix v.states v.leaf v.given v.aux

unfoldable pub leaf_at : Parameters → List ℕ → List ℕ → ℕ → List ℕ
leaf_at p states aux i = state_at states i ++ cond (is_last p i) aux []

-- ---- the first at which they differ

unfoldable pub apart : (ℕ → List ℕ) → (ℕ → List ℕ) → ℕ → Bool
apart f g i = not (eq_list (f i) (g i))

unfoldable pub first_apart : (ℕ → List ℕ) → (ℕ → List ℕ) → ℕ → ℕ
first_apart f g n = least (apart f g) n

abbrev pub both_apart : ℕ → ℕ → (ℕ → List ℕ) → (ℕ → List ℕ) → ℕ → Bool
both_apart u u' f g i = opened_in_both u u' i && apart f g i

unfoldable pub first_opened : ℕ → ℕ → (ℕ → List ℕ) → (ℕ → List ℕ) → ℕ → ℕ
first_opened u u' f g n = least (both_apart u u' f g) n

-- ---- the answer

unfoldable pub state_of : ℕ → List ℕ → List ℕ → ℕ → List ℕ
state_of u states others i = cond (eqb i u) (state_at others i) (state_at states i)

unfoldable pub output_of : Parameters → ℕ → List ℕ → List ℕ → List ℕ → List ℕ → List ℕ
output_of p u states aux others other-aux = joined (state_of u states others) (leaves p) ++ cond (is_last p u) other-aux aux

abbrev pub axis_of : ℕ → ℕ → ℕ
axis_of u u' = count_trailing_zeros 8 (bit_xor u u') + 1

unfoldable pub leaf_comparison : Parameters → List ℕ → View → View → Finding
leaf_comparison p prefix v v' =
    leaf_chain
    (ltb (first_apart (commitments p prefix v) (commitments p prefix v') (leaves p)) (leaves p))
    (first_opened v.leaf v'.leaf (leaf_at p v.states v.aux) (leaf_at p v'.states v'.aux) (leaves p))
    (leaves p)
    (extracted (axis_of v.leaf v'.leaf) (output_of p v.leaf v.states v.aux v'.states v'.aux))

unfoldable pub comparison : Parameters → List ℕ → View → View → Finding
comparison p prefix v v' =
    row_chain
    (ltb (first_apart (digest_at p prefix v.rows) (digest_at p prefix v'.rows) p.axes) p.axes)
    (first_apart (row_at p v.rows) (row_at p v'.rows) p.axes)
    p.axes
    (leaf_comparison p prefix v v')
