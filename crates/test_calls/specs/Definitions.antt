-- What the trials of the calls compute with.
--
-- definitions          unfolding it opens every definition of the calls, of the exchange, and what they stand on
-- Gives, given o       what a call of the extractor gives: the answer, output and work area
use Rattle.std.specs.Prelude.{List, ℕ}
use Rattle.calls.specs.Lengths.{leaves_below}
use Rattle.calls.specs.Prover as prover
use Rattle.calls.specs.Verifier as verifier
use Rattle.calls.specs.Extractor as extractor
use Rattle.test_standin.specs.Definitions as exchanges

unfoldable pub definitions : ℕ
unfolding exchanges.definitions leaves_below
    prover.fresh prover.held_x prover.held_message2 prover.intact prover.standing prover.closed prover.points_due prover.leaf_due
    prover.repeated prover.begin_checks prover.begun prover.begin prover.points_checks prover.answered prover.points
    prover.leaf_checks prover.opened prover.leaf
    verifier.fresh verifier.intact verifier.standing verifier.closed verifier.due verifier.held_transcript verifier.begin_checks
    verifier.begun verifier.begin verifier.points_checks verifier.pointed verifier.points verifier.response_checks
    verifier.responded verifier.response verifier.leaf_checks verifier.chosen verifier.leaf verifier.ended
    verifier.opening_checks verifier.judge verifier.opening
    extractor.extract_lengths extractor.both_distinct extractor.same_statement extractor.early_checks extractor.found
    extractor.second extractor.first extractor.early extractor.extraction
definitions = 0

pub data Gives : Type 0 where
  gives : extractor.Answer → List ℕ → List ℕ → Gives

abbrev pub given : extractor.Outcome → Gives
given o = gives o.answer o.out o.work
