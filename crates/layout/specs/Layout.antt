-- How many leaves there are, where each stands on the cube, and how long everything is.
-- Leaves, positions, axes and parties count from 0 here; document 01 counts axes and parties from 1, and so do the strings.
--
-- bits p             a side has 2^bits parties: 'Side N = 2'
-- side p             N
-- others p           the parties of an axis but the last one, whose leaves sum to what is left
-- sum_count p         the sums that the work area holds: of all leaves, and of these parties on every axis
-- sum_index p j c     where the sum of party c on axis j stands among them: the first parties of all axes, then all leaves, then the others
-- levels p           levels of the seed tree below the root
-- leaves p           n: 'n = 2^D leaves numbered 0 to n−1'
-- digit p j i        the party of leaf i on axis j: digit j of the leaf's number in base N, lowest first
-- coordinate p j i   'Coordinate j (1 to D) of a leaf is bit j−1 of its number, plus 1'
-- is_last p i         i is leaf n−1
-- y_length p          'y of m−k bytes': as many as the matrix has rows
-- matrix_length p     'm−k rows of k bytes'
-- points_length p     a point of four bytes at each position: r, c, v
-- factor_length p     the same of what is multiplied: ε, a, b, α, β
-- values_length p     α and β
-- row_length p        what a party announces: α, β, v
-- axis_length p       what the parties of an axis announce
-- aux_length p        aux: x_A (k), Q (w), P (w), c (4t)
-- share_length p      a share: a (4t), b (4t), then as aux
-- at_b, at_x, at_q, at_p, at_c   where b, x_A, Q, P, c start in a share; a starts it
-- at_v p              where v starts in a party's row: behind α and β
-- sums_length p       the sums that the work area holds, one after another
-- blocks_length p     a row for each of them
-- message2_length p   't points r, t multipliers ε'
-- siblings_length p   'D sibling seeds'
-- message5_length p i 'Length 5: 16D + 32 + 8t, plus k + 2w + 4t with aux', which is there 'unless i* = n−1';
--                    'For a leaf not below n, message 5's longer length counts'
-- states_length p, rows_length p   the states of all leaves; the rows of all axes
-- rows_end p, opened_length p      what an opening gives: states, rows, and the hidden leaf's commitment
-- message2_place, prefix_place p   what an opening is held to: h, h', message 2, then the prefix
-- prefix_length       the prefix of a run's strings: the salt and the run byte
-- statement_length p  the same with such a prefix
-- work_length p       a share for each party of every axis: 'a work area may be longer, never shorter than 2·D·(k+2w+12t)' (`work-is`)
-- output_length p     the extractor's 'output has 32n + k + 2w + 4t bytes'
use Rattle.std.specs.Prelude.{Bool, cond, ℕ, ◌+◌, ◌-◌, ◌*◌, ◌/◌, ◌%◌, ◌^◌, eqb}
use Rattle.parameters.specs.declared.Parameters.{Parameters}
pub mod Laws
pub mod Bounds

unfoldable pub bits : Parameters → ℕ
bits p = 1

abbrev pub side : Parameters → ℕ
side p = 2 ^ bits p

abbrev pub others : Parameters → ℕ
others p = side p - 1

abbrev pub sum_count : Parameters → ℕ
sum_count p = 1 + others p * p.axes

abbrev pub sum_index : Parameters → ℕ → ℕ → ℕ
sum_index p j c = c * p.axes + j + cond (eqb c 0) 0 1

abbrev pub levels : Parameters → ℕ
levels p = bits p * p.axes

abbrev pub leaves : Parameters → ℕ
leaves p = 2 ^ levels p

unfoldable pub digit : Parameters → ℕ → ℕ → ℕ
digit p j i = i / 2 ^ (bits p * j) % side p

unfoldable pub coordinate : Parameters → ℕ → ℕ → ℕ
coordinate p j i = digit p (j - 1) i + 1

unfoldable pub is_last : Parameters → ℕ → Bool
is_last p i = eqb i (leaves p - 1)

-- ---- the key

abbrev pub y_length : Parameters → ℕ
y_length p = p.m - p.k

abbrev pub matrix_length : Parameters → ℕ
matrix_length p = y_length p * p.k

-- ---- points at all positions

abbrev pub points_length : Parameters → ℕ
points_length p = 4 * p.t

abbrev pub factor_length : Parameters → ℕ
factor_length p = 4 * p.t

abbrev pub values_length : Parameters → ℕ
values_length p = factor_length p + factor_length p

abbrev pub row_length : Parameters → ℕ
row_length p = values_length p + points_length p

abbrev pub axis_length : Parameters → ℕ
axis_length p = side p * row_length p

abbrev pub at_v : Parameters → ℕ
at_v p = values_length p

-- ---- a share

abbrev pub aux_length : Parameters → ℕ
aux_length p = p.k + 2 * p.w + points_length p

abbrev pub at_b : Parameters → ℕ
at_b p = factor_length p

abbrev pub at_x : Parameters → ℕ
at_x p = at_b p + factor_length p

abbrev pub at_q : Parameters → ℕ
at_q p = at_x p + p.k

abbrev pub at_p : Parameters → ℕ
at_p p = at_q p + p.w

abbrev pub at_c : Parameters → ℕ
at_c p = at_p p + p.w

abbrev pub share_length : Parameters → ℕ
share_length p = at_x p + aux_length p

abbrev pub sums_length : Parameters → ℕ
sums_length p = sum_count p * share_length p

abbrev pub blocks_length : Parameters → ℕ
blocks_length p = sum_count p * row_length p

-- ---- what an opening gives: the states of all leaves, the rows of all axes, the hidden leaf's commitment

abbrev pub states_length : Parameters → ℕ
states_length p = 32 * leaves p

abbrev pub rows_length : Parameters → ℕ
rows_length p = p.axes * axis_length p

abbrev pub rows_end : Parameters → ℕ
rows_end p = states_length p + rows_length p

abbrev pub opened_length : Parameters → ℕ
opened_length p = rows_end p + 32

-- ---- messages, work area, output

abbrev pub message2_length : Parameters → ℕ
message2_length p = points_length p + factor_length p

abbrev pub siblings_length : Parameters → ℕ
siblings_length p = 16 * levels p

unfoldable pub message5_length : Parameters → ℕ → ℕ
message5_length p i = siblings_length p + 32 + values_length p + cond (is_last p i) 0 (aux_length p)

abbrev pub message2_place : ℕ
message2_place = 64

abbrev pub prefix_place : Parameters → ℕ
prefix_place p = message2_place + message2_length p

abbrev pub prefix_length : ℕ
prefix_length = 33

abbrev pub statement_length : Parameters → ℕ
statement_length p = prefix_place p + prefix_length

unfoldable pub work_length : Parameters → ℕ
work_length p = side p * p.axes * share_length p

unfoldable pub output_length : Parameters → ℕ
output_length p = states_length p + aux_length p
