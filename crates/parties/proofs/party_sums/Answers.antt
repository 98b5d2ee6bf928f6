use Rattle.std.proofs.Common.{List, ap, arith, cond, eqb, length, refl, replicate, ℕ, ◌∙◌, ◌≡◌}
use lib.ListN.{length-replicate}
use Rattle.lists.specs.Zeroed.Laws.{zeroed-all}
use Rattle.layout.specs.Layout.{leaves}
use Rattle.layout.specs.Maxima.{longest_share}
use Rattle.parties.specs.Sums.{added_leaf}
use Rattle.parties.specs.Sums.Leaves.{sums_to, sums_none, sums-more, sums-all}
use Rattle.parties.specs.Drawn.{drawn_share}
use Rattle.parties.specs.Drawn.Laws.{drawn_share-short}
use Rattle.parties.proofs.party_sums.Goals as goal

pub loop-i-init : goal.loop-i-init
loop-i-init c = let args = c.args in let d = args.sums.now in record {
  made = c.zero_front.ensures ∙ zeroed-all d (length d) refl ∙ ap (λ (n : ℕ). replicate n 0) c.requires.room
      ∙ sums_none args.p (drawn_share args.p args.prefix.now args.states.now) args.hidden_leaf;
  long = c.zero_front.auto.w ∙ c.requires.room;
  room = length-replicate {A = ℕ} longest_share 0;
}

pub loop-i-preserved : goal.loop-i-preserved
loop-i-preserved c = let added = c.add_disclosed in let args = c.args in let p = args.p in
    let s = drawn_share p args.prefix.now args.states.now in let i = c.loop-i.i in record {
      made = added.ensures args.prefix.now c.begin-shares.ensures
          ∙ ap (λ (d : List ℕ). cond (eqb i args.hidden_leaf) d (added_leaf p i (s i) d)) c.loop-i.invariant.made
          ∙ sums-more p s args.hidden_leaf (drawn_share-short p args.prefix.now args.states.now) i;
      long = added.auto.sums ∙ c.loop-i.invariant.long;
      room = added.auto.share ∙ c.loop-i.invariant.room;
    }

pub returns : goal.returns
returns c = let head = c.loop-i in let args = c.args in let s = drawn_share args.p args.prefix.now args.states.now in
    let last : head.i ≡ leaves args.p = omega (arith, c.leaf_count-n.ensures) in
    head.invariant.made ∙ ap (sums_to args.p s args.hidden_leaf) last ∙ sums-all args.p s args.hidden_leaf
