-- What the trials compute with, and how they read what a definition gives.
--
-- definitions          unfolding it opens every definition of a run and of an exchange, and what they stand on
-- finding_lists f       what the extractor found in a run: layer and number of the unequal pair; or the axis, then the output
use Rattle.std.specs.Prelude.{List, [], ◌∷◌, ℕ}
use Rattle.lists.specs.Xor.{◌⊕◌}
use Rattle.lists.specs.Sum.{xor_list}
use Rattle.lists.specs.Equal.{eq_list}
use Rattle.lists.specs.Part.{part, put_at}
use Rattle.lists.specs.Zeroed.{zeroed}
use Rattle.algebra.specs.Polynomial.{eval, plus, scale, times, expand, product, slopes, interpolate}
use Rattle.algebra.specs.Marks.{pick}
use Rattle.bytefield.specs.Product.{reduction, xtime, times_bits, ◌⊗◌}
use Rattle.bytefield.specs.Inverse.{squares, inverse}
use Rattle.bytefield.specs.Byte.{byte, byte_ring}
use Rattle.tower.specs.Field.{point, bytes_of}
use Rattle.cube.specs.Sum.{sum}
use Rattle.parameters.specs.Limits.{limits, within_limits}
use Rattle.polynomial.specs.Division.{remainder, over}
use Rattle.polynomial.specs.Interpolant.{ascending, interpolant_of, vanishing_of}
use Rattle.relation.specs.Key.{dot, rows, vector_of, weight_of, filled, positions, locator_of, quotient_of}
use Rattle.layout.specs.Layout.{bits, digit, coordinate, is_last, message5_length, work_length, output_length}
use Rattle.layout.specs.Runs.{runs_within, messages5_length}
use Rattle.exchange.specs.Sequences.{joined, listed, those, least}
use Rattle.exchange.specs.Strings.{string, node_bytes, string1, string2, string3, string4, string5, string6, string7}
use Rattle.exchange.specs.Reading.{bytes_at, points, point_at, encode, value}
use Rattle.exchange.specs.Tree.{seeds_of, children, leaf_seeds, siblings, sibling_seeds, opened_seeds}
use Rattle.exchange.specs.Leaf.{state, share, commitment}
use Rattle.exchange.specs.Values.{x_a_of, q_of, p_of, a_of, b_of, c_of, point_of, multiplier_of, F, image_of, x_of, s_of, alpha, beta, part_v}
use Rattle.exchange.specs.Parties.{total, party_of, announced_bytes, axis_string, sums_of}
use Rattle.exchange.specs.Announcing.{party_alpha, party_beta, formula_v, party_v}
use Rattle.exchange.specs.Messages.{own_state, drawn, wanted, own_aux, own_share, own_commitment, message1, own_party, own_announced, message3, message5}
use Rattle.exchange.specs.Opening.{exchange, path_of, commitment_of, alpha_of, beta_of, aux_of, opened_state, opened_share, leaf_string, leaf_commitment, commitment_string, disclosed, announced, response_string, verdict}
use Rattle.exchange.specs.Extractor.{Finding, unequal, states, opened_in_both, compared, axis, aux_from, state_from, output, string_at, unequal_at, finding, extract}
use Rattle.runs.specs.Run.{run_prefix, string8, run_root}
use Rattle.runs.specs.Messages as sent
use Rattle.runs.specs.Points.{new_point, distinct_in, distinct_points}
use Rattle.runs.specs.Opening as opened
use Rattle.runs.specs.Extractor as extracted
use Rattle.test_standin.specs.StandIn.{hex, absorb, emitted, stand_in, weak, weak_leaves}

unfoldable pub definitions : ℕ
unfolding ◌⊕◌ xor_list eq_list part put_at zeroed eval plus scale times expand product slopes interpolate pick
    reduction xtime times_bits ◌⊗◌ squares inverse byte byte_ring point bytes_of sum limits within_limits
    remainder over ascending interpolant_of vanishing_of dot rows vector_of weight_of filled positions locator_of quotient_of
    bits digit coordinate is_last message5_length work_length output_length runs_within messages5_length joined listed those least
    string node_bytes string1 string2 string3 string4 string5 string6 string7 bytes_at points point_at encode value
    seeds_of children leaf_seeds siblings sibling_seeds opened_seeds state share commitment
    x_a_of q_of p_of a_of b_of c_of point_of multiplier_of F image_of x_of s_of alpha beta part_v
    total party_of announced_bytes axis_string sums_of
    own_state drawn wanted own_aux own_share own_commitment message1 own_party own_announced message3 message5
    exchange path_of commitment_of alpha_of beta_of aux_of opened_state opened_share leaf_string leaf_commitment commitment_string
    disclosed party_alpha party_beta formula_v party_v announced response_string verdict
    opened_in_both compared axis aux_from state_from output string_at unequal_at finding extract
    run_prefix string8 run_root sent.message2_at sent.digest_of sent.message1 sent.message3 sent.message5
    new_point distinct_in distinct_points
    opened.message1_at opened.message3_at opened.message5_at opened.exchange_at opened.lowest opened.verdict
    extracted.gathered extracted.differs extracted.compared extracted.lowest_run extracted.outputs extracted.string_at
    extracted.unequal_at extracted.finding extracted.extract
    hex absorb emitted stand_in weak weak_leaves
definitions = 0

abbrev pub finding_lists : Finding → List (List ℕ)
finding_lists (unequal layer number) = (layer ∷ number ∷ []) ∷ []
finding_lists (states axis s) = (axis ∷ []) ∷ s ∷ []
