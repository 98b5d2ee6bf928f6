-- The loop's invariant: the products by the first j entries of the column are added (`added_more`); entry j stands in row j, within the matrix.
use Rattle.std.proofs.Common.{length, map, take, ℕ, ◌≡◌}
use Rattle.lists.specs.Sum.{xor_list}
use Rattle.packed.specs.Word.{scaled}
use Rattle.packed.specs.Table.{multiples}
use Rattle.coefficients.specs.Columns.{column}
use Rattle.coefficients.proofs.sidebyside.add_column.Given as goal

abbrev pub invariant-loop-j : goal.invariant-loop-j
invariant-loop-j l =
    (v : ℕ) → l.table ≡ multiples v → l.out ≡ xor_list l.initial.out (take l.j (map (scaled v) (column (length l.initial.out) l.k l.i l.matrix)))
