-- The two entries are what `picked` adds; in a table of multiples that is the product (`byte-read`).
use Rattle.std.proofs.Common.{ap, ap₂, arith, drop, get_or, get_or-drop, sym, ℕ, ◌%◌, ◌+◌, ◌/◌, ◌∙◌, ◌≡◌}
use Rattle.lists.specs.Xor.{◌⊕◌}
use Rattle.packed.specs.Table.{picked}
use Rattle.points.specs.Multiples.Laws.{byte-read}
use Rattle.points.proofs.read_at.Goals as goal

pub returns : goal.returns
unfolding picked ◌⊕◌
returns c =
    let t = c.args.table.now in
    let at = c.args.at in
    let by = c.args.c in
    let a : at + 16 + by / 16 ≡ at + (16 + by / 16) = omega arith in
    λ x e. ap₂ ◌⊕◌ (sym (get_or-drop at t (by % 16) 0)) (ap (λ (i : ℕ). get_or t i 0) a ∙ sym (get_or-drop at t (16 + by / 16) 0))
    ∙ byte-read (drop at t) by c.ranges.c.fits x e
