-- Four parts are written one after another, the second one byte longer than what is kept of it (`wanted-made`).
use Rattle.std.proofs.Common.{List, [], ap, ap₂, arith, length-take-le, refl, take, ℕ, ◌++◌, ◌+◌, ◌∙◌}
use Rattle.lists.specs.Part.Laws.{tail-back}
use Rattle.lists.specs.Zeroed.{zeroed}
use Rattle.layout.specs.Layout.{points_length}
use Rattle.messages.specs.Auxiliary.{wanted_for}
use Rattle.messages.proofs.Laws.Auxiliary.{length-q, length-u, left-u, wanted-made}
use Rattle.messages.proofs.auxiliary.wanted.Goals as goal

pub returns : goal.returns
unfolding wanted_for
returns c = let f = c.requires.0 in let put = c.put_at in
    let q = c.locator in let u = c.quotient in let v = c.products in let k : ℕ = c.args.p.k in
    let w : ℕ = c.args.p.w in let n = put.auto.out ∙ f.sized-out in
    let lo = left-u k w (points_length c.args.p) put.new.out q.new.out u.new.out n f.within.w-least q.auto.out
    u.auto.out in (
      wanted-made k w c.args.out.now put.new.out _ _ _ _ _ (take k c.args.x.now) q.new.out u.new.out v.new.out
          (length-take-le k c.args.x.now (omega (arith, f.within.k-most, f.sized-x)))
          (length-q k w (points_length c.args.p) put.new.out q.new.out [] n f.within.w-least q.auto.out)
          (length-u k w (points_length c.args.p) put.new.out q.new.out u.new.out n f.within.w-least q.auto.out
          u.auto.out)
          put.ensures refl refl (tail-back _ v.new.out (k + w + w) (omega (arith, lo, n)))
          ∙ ap₂ (λ (y z : List ℕ). take k c.args.x.now ++ (take w y ++ z)) q.ensures (ap₂ ◌++◌ u.ensures.0 v.ensures),
      u.ensures.1 ∙ ap (λ (n : ℕ). zeroed n c.args.work.now) f.sized-x,
    )
