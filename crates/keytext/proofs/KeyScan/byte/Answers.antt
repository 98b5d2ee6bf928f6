-- One return for each place (`byte_past` and the laws beside it).
use Rattle.std.proofs.Common.{arith}
use Rattle.keytext.proofs.Laws.Scan.Steps.{byte_past, byte_word, byte-number, byte-matrix, byte-y, byte-x_a}
use Rattle.keytext.proofs.KeyScan.byte.Goals as goal
use Rattle.keytext.proofs.KeyScan.byte.Goals.{in_default-via-in-0-to-3+else-self-eq0+in_default, in_default-via-else-self-lt4}

pub returns-in-0-to-3 : goal.returns-in-0-to-3
returns-in-0-to-3 c = byte_word _ _ (omega arith) (omega arith) c.word_byte.ensures

pub returns-in-0 : goal.returns-in-0
returns-in-0 c = byte-number _ _ (omega arith) (omega arith) (omega arith) c.number_byte.ensures

pub returns-in-1 : goal.returns-in-1
returns-in-1 c = byte-matrix _ _ (omega arith) (omega arith) (omega arith) (omega arith) c.hex_byte.ensures

pub returns-in-2 : goal.returns-in-2
returns-in-2 c = byte-y _ _ (omega arith) (omega arith) (omega arith) (omega arith) (omega arith) c.hex_byte-in-2.ensures

pub returns-in-3 : goal.returns-in-3
returns-in-3 c = byte-x_a _ _ (omega arith) (omega arith) (omega arith) (omega arith) (omega arith) c.hex_byte-in-3.ensures

pub returns-in_default : goal.returns-in_default
returns-in_default c =
    byte_past _ _
    (elim c.in_default.branch [
      | in_default-via-in-0-to-3+else-self-eq0+in_default w ↦ omega arith
      | in_default-via-else-self-lt4 w ↦ omega arith
    ])
    c.broken.ensures
