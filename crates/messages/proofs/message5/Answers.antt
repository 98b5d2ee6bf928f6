-- The hidden leaf and aux, in arrays that have room for the longest share and the longest aux, and from them message 5.
use Rattle.std.proofs.Common.{ap, arith, length, length-take-le, replicate, sym, take, ◌+◌, ◌∙◌, ◌≤◌}
use Rattle.lists.specs.Part.Laws.{tail-part}
use Rattle.points.specs.Written.{front_length}
use Rattle.layout.specs.Layout.Bounds.{leaves-most, share-most, aux-most}
use Rattle.layout.specs.Maxima.{longest_aux, longest_share}
use Rattle.exchange.specs.Values.{key_of}
use Rattle.messages.proofs.Laws.Fronts.{Front, front-back}
use Rattle.messages.proofs.Laws.Opening.{opening-length, opening-made}
use Rattle.messages.specs.Run.{run_in}
use Rattle.messages.proofs.message5.Goals as goal
use Rattle.messages.proofs.message5.Goals.{After-aux_length-length, After-hidden_leaf}

-- the fronts are there: of out, of the array for state and share, and of that for aux
out-fits : (c : After-aux_length-length) → c.siblings_length-a.result ≤ length c.args.out.now
out-fits c =
    omega (arith, c.siblings_length-a.ensures, c.requires.1.out-is, opening-length c.args.p c.args.leaf)

own-fits : (c : After-aux_length-length) → 32 + c.share_length-size.result ≤ 32 + longest_share
own-fits c =
    omega (arith, c.share_length-size.ensures, share-most c.args.p c.requires.0.within)

aux-fits : (c : After-aux_length-length) → c.aux_length-length.result ≤ longest_aux
aux-fits c =
    omega (arith, c.aux_length-length.ensures, aux-most c.args.p c.requires.0.within)

out-back : (c : After-hidden_leaf) → Front c.siblings_length-a.result c.hidden_leaf.new.siblings c.args.out.now
out-back c =
    let out-fits : c.siblings_length-a.result ≤ length c.args.out.now = omega (arith, c.siblings_length-a.ensures, c.requires.1.out-is, opening-length c.args.p c.args.leaf) in
    front-back _ _ _ c.hidden_leaf.auto.siblings (out-fits)

own_back : (c : After-hidden_leaf) → Front (32 + c.share_length-size.result) c.hidden_leaf.new.own (replicate (32 + longest_share) 0)
own_back c =
    let own-fits : 32 + c.share_length-size.result ≤ 32 + longest_share = omega (arith, c.share_length-size.ensures, share-most c.args.p c.requires.0.within) in
    front-back _ _ _ c.hidden_leaf.auto.own (own-fits)

aux-back : (c : After-hidden_leaf) → Front c.aux_length-length.result c.hidden_leaf.new.aux (replicate longest_aux 0)
aux-back c =
    let aux-fits : c.aux_length-length.result ≤ longest_aux = omega (arith, c.aux_length-length.ensures, aux-most c.args.p c.requires.0.within) in
    front-back _ _ _ c.hidden_leaf.auto.aux (aux-fits)

pub slice_bounds-hidden_leaf-end : goal.slice_bounds-hidden_leaf-end
slice_bounds-hidden_leaf-end c = out-fits (goal.at.slice_bounds-hidden_leaf-end c).After-aux_length-length

pub slice_bounds-hidden_leaf-end-2 : goal.slice_bounds-hidden_leaf-end-2
slice_bounds-hidden_leaf-end-2 c = front_length _ _ (out-fits (goal.at.slice_bounds-hidden_leaf-end-2 c).After-aux_length-length)

pub hidden_leaf-requires : goal.hidden_leaf-requires
hidden_leaf-requires c = (
  c.requires.0,
  record {
    is_leaf = c.requires.1.is_leaf;
    siblings-are = length-take-le _ _ (out-fits (goal.at.hidden_leaf-requires c).After-aux_length-length) ∙ c.siblings_length-a.ensures;
    own_is = length-take-le _ (replicate (32 + longest_share) 0) (own-fits (goal.at.hidden_leaf-requires c).After-aux_length-length) ∙ ap (◌+◌ 32) c.share_length-size.ensures;
    aux-is = length-take-le _ (replicate longest_aux 0) (aux-fits (goal.at.hidden_leaf-requires c).After-aux_length-length) ∙ c.aux_length-length.ensures;
  },
)

pub put_opening-requires : goal.put_opening-requires
put_opening-requires c = let h = c.requires.0 in
    let asked = c.requires.1 in
    record {
      of = record {
        within = h.within;
        message2-is = asked.message2-is;
        number = omega (arith, asked.is_leaf, leaves-most c.args.p h.within);
        matrix-is = asked.matrix-is;
        own_is = sym (own_back (goal.at.put_opening-requires c).After-hidden_leaf).lent ∙ ap (◌+◌ 32) c.share_length-size.ensures;
      };
      aux-is = sym (aux-back (goal.at.put_opening-requires c).After-hidden_leaf).lent ∙ c.aux_length-length.ensures;
      out-is = (out-back (goal.at.put_opening-requires c).After-hidden_leaf).rest ∙ asked.out-is;
    }

pub returns : goal.returns
returns c = let a = c.args in let made = c.hidden_leaf.ensures in (
  λ y. opening-made a.p (take a.p.m a.x.now) (run_in a.run.now) (key_of a.matrix.now y) a.message2.now a.leaf _ _ _ _ _ _
      (tail-part a.run.now 16) c.siblings_length-a.ensures ((out-back (goal.at.returns c).After-hidden_leaf).again ∙ made.0) ((own_back (goal.at.returns c).After-hidden_leaf).again ∙ made.1)
      ((aux-back (goal.at.returns c).After-hidden_leaf).again ∙ made.2) c.put_opening.ensures,
  made.3,
)
