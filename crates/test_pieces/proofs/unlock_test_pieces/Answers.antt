-- The pieces absorbed and squeezed are the whole, which is SHAKE256 (`squeezed-SHAKE256`).
use Rattle.std.proofs.Common.{length}
use Rattle.shake256.proofs.Laws.{squeezed-SHAKE256}
use Rattle.test_pieces.proofs.unlock_test_pieces.Goals as goal

pub returns : goal.returns
returns c =
    cc (squeezed-SHAKE256 c.args.message.now (length c.args.output.now))
