-- The sum of all other leaves, and then the leaf's own share added to it (`total-hidden`).
use Rattle.std.proofs.Common.{List, ap, ℕ, ◌∙◌}
use Rattle.lists.specs.Sum.{xor_list}
use Rattle.layout.specs.Layout.{leaves}
use Rattle.parties.specs.Drawn.{drawn_share}
use Rattle.parties.specs.Totals.{total-hidden}
use Rattle.parties.proofs.total.share_and_sum.Goals as goal

pub returns : goal.returns
returns c = let args = c.args in let s = drawn_share args.p args.prefix.now args.states.now in
    let made = c.add_drawn.ensures args.prefix.now c.begin.ensures in (
      made.0,
      made.1 ∙ ap (λ (l : List ℕ). xor_list l (s args.leaf)) c.share_sum.ensures
          ∙ total-hidden args.p s args.leaf (leaves args.p) c.requires.draw.leaf,
    )
