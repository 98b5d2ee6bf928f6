-- The maxima over all parameters within their limits; those of which arrays are made are constants in layout/src/lib.rt too.
-- That nothing is longer is shown in `Layout.Bounds`, or where the array is lent.
--
-- most_levels, most_leaves, most_side, most_parties, most_sums   of the tree, of the cube, of an axis, of all axes, in the work area
-- most_matrix, longest_y        the key's matrix; y, which is no shorter than the longest x_A
-- longest_aux, longest_share, longest_sums   aux; a share; the sums that the work area holds
-- most_values, longest_row, most_blocks      α and β; what a party announces; a row for each of these sums
-- most_states, most_rows, most_opened   the states of all leaves, the rows of all axes, and all that an opening gives
-- most_statement               what an opening is held to
-- most_runs                    the runs of an exchange
-- most_message1, most_messages2, most_messages3   messages 1, 2 and 3 of that many runs
-- leaf_coefficients, most_coefficients   the coefficients of S of one share, and of as many as there are sums, and of F
-- most_evaluations             the values at a point of Q, S and P of up to fifteen shares, and of F
-- longest_message2, longest_message5, most_work   the messages; the work area
use Rattle.std.specs.Prelude.{ℕ}

abbrev pub most_levels : ℕ
most_levels = 8

abbrev pub most_leaves : ℕ
most_leaves = 256

abbrev pub most_side : ℕ
most_side = 2

abbrev pub most_parties : ℕ
most_parties = 16

abbrev pub most_sums : ℕ
most_sums = 9

abbrev pub most_matrix : ℕ
most_matrix = 16_256

abbrev pub longest_y : ℕ
longest_y = 254

abbrev pub longest_aux : ℕ
longest_aux = 796

abbrev pub longest_share : ℕ
longest_share = 860

abbrev pub longest_sums : ℕ
longest_sums = 7_740

abbrev pub most_values : ℕ
most_values = 64

abbrev pub longest_row : ℕ
longest_row = 96

abbrev pub most_blocks : ℕ
most_blocks = 864

abbrev pub most_states : ℕ
most_states = 8_192

abbrev pub most_rows : ℕ
most_rows = 1_536

abbrev pub most_opened : ℕ
most_opened = 9_760

abbrev pub most_statement : ℕ
most_statement = 161

abbrev pub most_runs : ℕ
most_runs = 32

abbrev pub most_message1 : ℕ
most_message1 = 1_056

abbrev pub most_messages2 : ℕ
most_messages2 = 2_048

abbrev pub most_messages3 : ℕ
most_messages3 = 1_024

abbrev pub leaf_coefficients : ℕ
leaf_coefficients = 510

abbrev pub most_coefficients : ℕ
most_coefficients = 2_550

abbrev pub most_evaluations : ℕ
most_evaluations = 46

abbrev pub longest_message2 : ℕ
longest_message2 = 64

abbrev pub longest_message5 : ℕ
longest_message5 = 1_020

abbrev pub most_work : ℕ
most_work = 13_760
