-- The messages of an exchange.
--
-- messages t     as they are, of an exchange that is lent
use Rattle.runs.specs.Opening.{Transcript, transcript}
use Rattle.extractor.specs.declared.Transcript.{Transcript as Lent}

abbrev pub messages : Lent → Transcript
messages t = transcript t.message1.now t.message2.now t.message3.now t.leaves.now t.message5.now
