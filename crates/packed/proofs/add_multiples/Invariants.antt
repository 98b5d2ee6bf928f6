-- The loop's invariant: the products by the first j entries are added; a turn adds the product by entry j (`xor_list-more`).
use Rattle.std.proofs.Common.{map, take, ℕ, ◌≡◌}
use Rattle.lists.specs.Sum.{xor_list}
use Rattle.packed.specs.Word.{scaled}
use Rattle.packed.specs.Table.{multiples}
use Rattle.packed.proofs.add_multiples.Given as goal

abbrev pub invariant-loop-j : goal.invariant-loop-j
invariant-loop-j l =
    (v : ℕ) → l.table ≡ multiples v → l.acc ≡ xor_list l.initial.acc (take l.j (map (scaled v) l.by))
