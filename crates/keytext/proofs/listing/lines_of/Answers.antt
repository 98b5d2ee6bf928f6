-- The parts that are lent have the lengths that are asked for.
use Rattle.std.proofs.Common.{arith, length-take-le as fits, sym}
use Rattle.keytext.proofs.listing.lines_of.Goals as goal

pub slice_bounds-key_lines-end : goal.slice_bounds-key_lines-end
slice_bounds-key_lines-end c = sym (fits _ _ (omega arith))

pub slice_bounds-key_lines-end-2 : goal.slice_bounds-key_lines-end-2
slice_bounds-key_lines-end-2 c = sym (fits _ _ (omega arith))

pub slice_bounds-key_lines-end-3 : goal.slice_bounds-key_lines-end-3
slice_bounds-key_lines-end-3 c = sym (fits _ _ (omega arith))

pub slice_bounds-key_lines-end-4 : goal.slice_bounds-key_lines-end-4
slice_bounds-key_lines-end-4 c = sym (fits _ _ (omega arith))

pub key_lines-requires : goal.key_lines-requires
key_lines-requires c = record {
  weighted = c.requires.weighted;
  room = c.requires.room;
  q_len = (fits _ _ (omega arith), fits _ _ (omega arith), fits _ _ (omega arith), fits _ _ (omega arith));
}
