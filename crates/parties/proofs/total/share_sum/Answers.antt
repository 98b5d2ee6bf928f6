use Rattle.std.proofs.Common.{List, ap, arith, cond, eqb, length, not, refl, replicate, ℕ, ◌∙◌, ◌≡◌}
use lib.ListN.{length-replicate}
use Rattle.lists.specs.Sum.{xor_list}
use Rattle.lists.specs.Zeroed.Laws.{zeroed-all}
use Rattle.layout.specs.Layout.{leaves}
use Rattle.layout.specs.Maxima.{longest_share}
use Rattle.exchange.specs.Parties.{total}
use Rattle.parties.specs.Drawn.{drawn_share}
use Rattle.parties.specs.Totals.{total-other}
use Rattle.parties.proofs.total.share_sum.Goals as goal

pub loop-i-init : goal.loop-i-init
unfolding total
loop-i-init c = let out = c.args.out.now in record {
  sum = c.zero_front.ensures ∙ zeroed-all out (length out) refl ∙ ap (λ (n : ℕ). replicate n 0) c.requires.room;
  long = c.zero_front.auto.w ∙ c.requires.room;
  room = length-replicate {A = ℕ} longest_share 0;
}

pub loop-i-preserved : goal.loop-i-preserved
loop-i-preserved c = let added = c.add_other in let args = c.args in let p = args.p in
    let s = drawn_share p args.prefix.now args.states.now in let i = c.loop-i.i in record {
      sum = added.ensures args.prefix.now c.begin-shares.ensures
          ∙ ap (λ (l : List ℕ). cond (eqb i args.hidden_leaf) l (xor_list l (s i))) c.loop-i.invariant.sum ∙ total-other p s args.hidden_leaf i;
      long = added.auto.sum ∙ c.loop-i.invariant.long;
      room = added.auto.share ∙ c.loop-i.invariant.room;
    }

pub returns : goal.returns
returns c = let head = c.loop-i in let args = c.args in
    let last : head.i ≡ leaves args.p = omega (arith, c.leaf_count-n.ensures) in
    head.invariant.sum ∙ ap (total args.p (λ i. not (eqb i args.hidden_leaf)) (drawn_share args.p args.prefix.now args.states.now)) last
