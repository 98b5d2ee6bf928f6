use Rattle.std.proofs.Common.{add-one, ap, ap₂, arith, sym, ℕ, ◌*◌, ◌∙◌, ◌≡◌}
use Rattle.lists.specs.Part.{part}
use Rattle.lists.specs.Part.Laws.{lent-part}
use Rattle.lists.specs.Sum.{xor_list}
use Rattle.layout.specs.Layout.{others}
use Rattle.parties.specs.Sums.{less}
use Rattle.axes.proofs.axis.put_last.Goals as goal

pub loop-c-init : goal.loop-c-init
unfolding less
loop-c-init c = c.copy.ensures

pub loop-c-preserved : goal.loop-c-preserved
unfolding less
loop-c-preserved c = let q = c.loop-c in let n = c.row_length-room.result in
    c.xor_into.ensures ∙ ap₂ xor_list q.invariant (lent-part c.args.rows.now (q.c * n) n)
    ∙ ap (less c.args.total.now (λ i. part c.args.rows.now (i * n) n)) (sym (add-one q.c))

pub returns : goal.returns
returns c = let a = c.args in
    let all : c.loop-c.c ≡ others a.p = omega (arith, c.others-n.ensures) in
    c.loop-c.invariant ∙ ap₂ (λ (n c : ℕ). less a.total.now (λ c. part a.rows.now (c * n) n) c) c.row_length-room.ensures all
