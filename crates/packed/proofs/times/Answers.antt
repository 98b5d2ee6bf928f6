-- The two entries are what `picked` adds; in a table of multiples that is the product (`picked-multiples`).
use Rattle.std.proofs.Common.{List, ap, ℕ, ◌∙◌, ◌≡◌}
use Rattle.lists.specs.Xor.{◌⊕◌}
use Rattle.packed.specs.Word.{bytes, scaled}
use Rattle.packed.specs.Word.Laws.{bytes-scaled}
use Rattle.packed.specs.Table.{multiples, picked}
use Rattle.packed.specs.Table.Laws.{picked-multiples}
use Rattle.packed.proofs.times.Goals as goal

pub returns : goal.returns
unfolding picked ◌⊕◌
returns c =
    let by = c.args.c in
    let product : (v : ℕ) → c.args.table.now ≡ multiples v → picked c.args.table.now by ≡ scaled v by =
    λ v e. ap (λ (t : List ℕ). picked t by) e ∙ picked-multiples v by c.ranges.c.fits in
    record { word = product; bytes = λ v e. ap (bytes 8) (product v e) ∙ bytes-scaled v by }
