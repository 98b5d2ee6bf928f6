use Rattle.std.proofs.Common.{List, ap, arith, length, refl, subst, sym, ℕ, ◌*◌, ◌+◌, ◌-◌, ◌/◌, ◌^◌, ◌∙◌, ◌≡◌, ◌≤◌}
use Rattle.shake256.specs.Fips.{SHAKE256}
use Rattle.shake256.proofs.Laws.{length-SHAKE256}
use Rattle.lists.specs.Part.{put_at}
use Rattle.exchange.specs.Tree.{leaf_seeds}
use Rattle.seedtree.specs.declared.nodes.Way.{Way}
use Rattle.seedtree.specs.Laid.{laid}
use Rattle.seedtree.specs.Way.{root_way, side, skipped, next, OnWay}
use Rattle.seedtree.specs.Way.Laws.{skipped-le, on_way-root, on_way-half, on_way-twice, on_way-next, on_way-node}
use Rattle.seedtree.specs.Opened.{opening, beside, opened-none, opened-more, opened-all}
use Rattle.lists.specs.Part.Laws.{lent-part, length-lent}
use Rattle.seedtree.proofs.opened_seeds.Goals as goal
use Rattle.seedtree.proofs.opened_seeds.Goals.{After-loop-k, After-skipped}

skipped-fits : (c : After-skipped) → c.loop-k.at + 16 * c.skipped.result ≤ length c.loop-k.seeds
skipped-fits c =
    omega (arith, c.skipped.ensures, skipped-le c.loop-k.way, c.loop-k.invariant.room)

last-level : (c : After-loop-k) → c.loop-k.k ≡ c.args.d
last-level c =
    omega arith

-- the place of the hidden leaf
last-place : (c : After-loop-k) → c.loop-k.at + 16 ≤ length c.loop-k.seeds
last-place c = omega (arith, c.loop-k.invariant.room, c.loop-k.invariant.on.leaf)

pub loop-k-init : goal.loop-k-init
loop-k-init c = let args = c.args in let shape = c.requires in
    let way-is = c.root_way-way.ensures in let whole : (root_way args.d args.leaf).size ≡ 2 ^ args.d = unfold root_way in refl in
    record {
      on = subst (OnWay args.d 0) (sym way-is) (on_way-root args.d args.leaf shape.is_leaf);
      long = refl;
      room = omega (arith, ap (λ (w : Way). w.size) way-is, whole, shape.size);
      rest = opened-none SHAKE256 args.prefix.now length-SHAKE256 args.d args.leaf args.siblings.now args.seeds.now shape.siblings
          shape.size
          ∙ ap (λ (w : Way). opening SHAKE256 args.prefix.now length-SHAKE256 args.d args.siblings.now 0 w args.seeds.now 0) (sym way-is);
    }

pub open_sibling-requires : goal.open_sibling-requires
open_sibling-requires c = let shape = c.requires in
    let d = c.args.d in let k = c.loop-k.k in let w = c.loop-k.way in let inv = c.loop-k.invariant in
    let less = c.loop-k-test.true in
    record {
      levels = omega (arith, shape.levels);
      node = on_way-node d k w less inv.on shape.levels;
      half = on_way-half d k w less inv.on;
      seed = length-lent (16 * k) 16 c.args.siblings.now (omega (arith, shape.siblings));
      room = omega (arith, on_way-twice d k w less inv.on, inv.room);
    }

pub overflow_mul-at : goal.overflow_mul-at
overflow_mul-at c = omega (arith, skipped-fits (goal.at.overflow_mul-at c).After-skipped)

pub overflow_add-at : goal.overflow_add-at
overflow_add-at c = omega (arith, skipped-fits (goal.at.overflow_add-at c).After-skipped, c.loop-k.invariant.long)

pub next-way-requires : goal.next-way-requires
next-way-requires c = omega (arith, on_way-node c.args.d c.loop-k.k c.loop-k.way c.loop-k-test.true c.loop-k.invariant.on c.requires.levels)

pub loop-k-preserved : goal.loop-k-preserved
loop-k-preserved c = let filled = c.open_sibling in let args = c.args in
    let prefix = args.prefix.now in let d = args.d in let k = c.loop-k.k in let w = c.loop-k.way in let seeds = c.loop-k.seeds in
    let s = args.siblings.now in let inv = c.loop-k.invariant in let less = c.loop-k-test.true in let begun-is = c.begin-nodes.ensures in
    let next-is : c.next-way.result ≡ next w = c.next-way.ensures in let halved : (next w).size ≡ w.size / 2 = unfold next in refl in
    let skipped-is : c.skipped.result ≡ skipped w = c.skipped.ensures in
    let seeds-is : filled.new.seeds ≡ put_at seeds (c.loop-k.at + 16 * (w.size / 2 - skipped w))
    (beside SHAKE256 prefix length-SHAKE256 d s k w) =
    filled.ensures prefix begun-is
    ∙ ap (λ (l : List ℕ). put_at seeds (c.loop-k.at + 16 * (w.size / 2 - skipped w))
    (laid (leaf_seeds SHAKE256 prefix (d - (k + 1)) (2 * w.node + (1 - side w)) l)))
    (lent-part s (16 * k) 16) in
    let kept : length filled.new.seeds ≡ length seeds = filled.auto.seeds in
    record {
      on = subst (OnWay d (k + 1)) (sym next-is) (on_way-next d k w less inv.on);
      long = kept ∙ inv.long;
      room = omega (arith, kept, ap (λ (w : Way). w.size) next-is, halved, skipped-is, skipped-le w, on_way-twice d k w less inv.on, inv.room);
      rest = inv.rest ∙ opened-more SHAKE256 prefix length-SHAKE256 d s k w seeds c.loop-k.at less inv.on c.requires.siblings inv.room
          ∙ sym (λ t. opening SHAKE256 prefix length-SHAKE256 d s (k + 1) (next-is t) (seeds-is t) (c.loop-k.at + 16 * skipped-is t));
    }

pub returns : goal.returns
returns c = let head = c.loop-k in let args = c.args in
    c.put_at.ensures ∙ sym (head.invariant.rest
    ∙ opened-all SHAKE256 args.prefix.now length-SHAKE256 args.d args.siblings.now head.k head.way head.seeds head.at (last-level (goal.at.returns c).After-loop-k))
