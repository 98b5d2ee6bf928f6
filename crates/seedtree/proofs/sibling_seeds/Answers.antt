use Rattle.std.proofs.Common.{List, [], ap, arith, get_or, length, refl, replicate, subst, sym, take, ℕ, ◌*◌, ◌++◌, ◌+◌, ◌-◌, ◌∙◌, ◌≡◌}
use Rattle.shake256.specs.Fips.{SHAKE256}
use Rattle.shake256.proofs.Laws.{length-SHAKE256}
use Rattle.lists.specs.Part.{part, put_at}
use Rattle.lists.specs.Part.Laws.{put_at-whole, part-put_at-same, lent-part}
use Rattle.exchange.specs.Tree.{children, leaf_seeds, sibling_seeds}
use Rattle.seedtree.specs.Levels.Laws.{length-children}
use Rattle.seedtree.specs.Way.{side, next, OnWay}
use Rattle.seedtree.specs.Way.Laws.{side-le, on_way-root, on_way-next, on_way-node}
use Rattle.seedtree.specs.Siblings.{siblings-none, siblings-more, siblings-all, leaf_seed-none, leaf_seed-more, leaf_seed-all}
use Rattle.seedtree.proofs.sibling_seeds.Goals as goal

written : (root : List ℕ) → length root ≡ 16 → part (put_at (replicate 32 0) 0 root) 0 16 ≡ root
written root e = ap (part (put_at (replicate 32 0) 0 root) 0) (sym e) ∙ part-put_at-same (replicate 32 0) 0 root (omega arith)

pub loop-k-init : goal.loop-k-init
loop-k-init c = let args = c.args in let pair = c.put_at.new.out in
    let w = c.root_way-way.result in let way-is = c.root_way-way.ensures in
    let seed : part pair 0 16 ≡ args.root.now = ap (λ (l : List ℕ). part l 0 16) c.put_at.ensures ∙ written args.root.now
    c.requires.seed in
    record {
      on = subst (OnWay args.d 0) (sym way-is) (on_way-root args.d args.leaf c.requires.is_leaf);
      owned = omega arith;
      long = refl;
      whole = c.put_at.auto.out;
      rest = siblings-none SHAKE256 args.prefix.now length-SHAKE256 args.d args.root.now args.leaf args.out.now pair w way-is seed;
      seed = leaf_seed-none SHAKE256 args.prefix.now length-SHAKE256 args.d args.root.now args.leaf pair w way-is seed;
    }

pub expand-requires : goal.expand-requires
expand-requires c = let inv = c.loop-k.invariant in
    let low = on_way-node c.args.d c.loop-k.k c.loop-k.way c.loop-k-test.true inv.on c.requires.levels in
    record { node = omega arith; seed = omega (arith, inv.owned, inv.whole); room = omega (arith, inv.whole) }

pub overflow_mul-own : goal.overflow_mul-own
overflow_mul-own c = omega (arith, c.side-own.ensures, side-le c.loop-k.way)

pub overflow_sub-other : goal.overflow_sub-other
overflow_sub-other c = omega (arith, c.side-own.ensures, side-le c.loop-k.way)

pub next-way-requires : goal.next-way-requires
next-way-requires c = omega (arith, on_way-node c.args.d c.loop-k.k c.loop-k.way c.loop-k-test.true c.loop-k.invariant.on c.requires.levels)

pub loop-k-preserved : goal.loop-k-preserved
loop-k-preserved c = let args = c.args in let prefix = args.prefix.now in let d = args.d in
    let k = c.loop-k.k in let w = c.loop-k.way in let out = c.loop-k.out in let pair = c.loop-k.pair in
    let seed = part pair c.loop-k.own 16 in let inv = c.loop-k.invariant in let both = c.expand.new.seeds in let less = c.loop-k-test.true in
    let begun-is = c.begin-nodes.ensures in
    let both_is : both ≡ children SHAKE256 prefix w.node seed = c.expand.ensures prefix begun-is
    ∙ put_at-whole pair (children SHAKE256 prefix w.node seed) (length-children SHAKE256 prefix length-SHAKE256 w.node seed ∙ sym inv.whole) in
    let side-is : c.side-own.result ≡ side w = c.side-own.ensures in
    let out-is : c.put_at-in-loop-k.new.out ≡ put_at out (16 * k) (part both (16 - 16 * side w) 16) = c.put_at-in-loop-k.ensures
    ∙ ap (put_at out (16 * k)) (lent-part both (16 - 16 * c.side-own.result) 16 ∙ ap (λ (n : ℕ). part both (16 - 16 * n) 16) side-is) in
    let next-is : c.next-way.result ≡ next w = c.next-way.ensures in
    record {
      on = subst (OnWay d (k + 1)) (sym next-is) (on_way-next d k w less inv.on);
      owned = omega (arith, side-is, side-le w);
      long = c.put_at-in-loop-k.auto.out ∙ inv.long;
      whole = c.expand.auto.seeds ∙ inv.whole;
      rest = inv.rest
          ∙ siblings-more SHAKE256 prefix length-SHAKE256 d k w seed out both less inv.on (omega (arith, inv.long, c.requires.size, less)) both_is
          ∙ sym (λ t. take (16 * (k + 1)) (out-is t)
          ++ sibling_seeds SHAKE256 prefix (d - (k + 1)) (next-is t).node (part both (16 * side-is t) 16) (next-is t).leaf);
      seed = inv.seed ∙ leaf_seed-more SHAKE256 prefix length-SHAKE256 d k w seed both less inv.on both_is
          ∙ sym (λ t. get_or (leaf_seeds SHAKE256 prefix (d - (k + 1)) (next-is t).node (part both (16 * side-is t) 16)) (next-is t).leaf []);
    }

pub returns : goal.returns
returns c = let head = c.loop-k in
    let args = c.args in let inv = head.invariant in let k = head.k in let last : k ≡ args.d = omega arith in record {
      siblings = sym (inv.rest
          ∙ siblings-all SHAKE256 args.prefix.now length-SHAKE256 args.d k head.way.node (part head.pair head.own 16)
          head.way.leaf head.out last (inv.long ∙ c.requires.size));
      own = c.array.ensures ∙ lent-part head.pair head.own 16 ∙ sym (inv.seed
          ∙ leaf_seed-all SHAKE256 args.prefix.now length-SHAKE256 args.d k head.way (part head.pair head.own 16) last inv.on);
    }
