-- The words become X^255 + 1 less X^m·G; divided by the complement they leave F but its leading one (`vanishing-made`).
use Rattle.std.proofs.Common.{arith, length, sym, take, ◌-◌, ◌≡◌}
use Rattle.interpolants.proofs.Laws.Shares.{length-low}
use Rattle.interpolants.proofs.Laws.Vanishing.{vanishing-made}
use Rattle.interpolants.proofs.vanishing.Goals as goal
use Rattle.interpolants.proofs.vanishing.Goals.{Start}

low : (c : Start) → length (take (255 - (length c.args.out.now)) c.args.g.now) ≡ 255 - (length c.args.out.now)
low c =
    let (some, few, eg) = c.requires in length-low ((length c.args.out.now)) few c.args.g.now eg

pub slice_bounds-add_share-end : goal.slice_bounds-add_share-end
slice_bounds-add_share-end c = sym (low (goal.at.slice_bounds-add_share-end c).Start)

pub slice_bounds-divide-end-2 : goal.slice_bounds-divide-end-2
slice_bounds-divide-end-2 c = sym (low (goal.at.slice_bounds-divide-end-2 c).Start)

pub returns : goal.returns
returns c = let (some, few, eg) = c.requires in
    vanishing-made ((length c.args.out.now)) some few c.args.g.now c.add_share.new.words c.divide.new.t _ eg (omega (arith, c.divide))
    c.add_share.ensures c.divide.ensures c.share.ensures
