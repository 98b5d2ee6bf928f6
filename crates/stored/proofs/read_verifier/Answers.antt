-- Each field is what its function promises; the messages are parts of the one array that holds them.
use Rattle.std.proofs.Common.{List, ap, arith, ℕ, ◌∙◌}
use Rattle.lists.specs.Part.{part}
use Rattle.lists.specs.Part.Laws.{part-part}
use Rattle.layout.specs.Maxima.{most_message1, most_messages2, most_messages3}
use Rattle.verifier.specs.Held.{held_length, message2_place, message3_place, message1_in, message2_in, message3_in}
use Rattle.stored.specs.Verifier.{verifier_from}
use Rattle.stored.proofs.read_verifier.Goals as goal

pub returns : goal.returns
unfolding verifier_from part message1_in message2_in message3_in
returns c = let b = c.args.b.now in let all = c.array-messages.ensures in
    λ i. record {
      phase = c.from-phase.ensures i;
      parameters = c.read_parameters-parameters.ensures i;
      runs = c.from-runs.ensures i;
      message1 = (ap (λ (m : List ℕ). part m 0 most_message1) all ∙ part-part b 7 held_length 0 most_message1 (omega arith)) i;
      message2 = (ap (λ (m : List ℕ). part m message2_place most_messages2) all ∙ part-part b 7 held_length message2_place most_messages2 (omega arith)) i;
      message3 = (ap (λ (m : List ℕ). part m message3_place most_messages3) all ∙ part-part b 7 held_length message3_place most_messages3 (omega arith)) i;
      leaves = c.array-leaves.ensures i;
    }
