-- The words become the power sums of the scaled rows; divided by the complement they leave zeros and S behind them (`share-made`).
use Rattle.std.proofs.Common.{ap, arith, drop, length, sym, take, ◌*◌, ◌∙◌, ◌≡◌}
use Rattle.interpolants.specs.Complement.{scales_of}
use Rattle.interpolants.proofs.Laws.Complement.{length-scales, scale-some, length-factors, factors-front, factors-end}
use Rattle.interpolants.proofs.Laws.Words.{length-words}
use Rattle.interpolants.proofs.Laws.Shares.{share-made}
use Rattle.interpolants.proofs.interpolate.Goals as goal
use Rattle.interpolants.proofs.interpolate.Goals.{Start}

-- the scales, and their number
front : (c : Start) → take c.args.m c.args.factors.now ≡ scales_of c.args.m
front c =
    let (la, most, sized, few, ef) = c.requires in factors-front c.args.m c.args.factors.now ef

many : (c : Start) → length (take c.args.m c.args.factors.now) ≡ c.args.m
many c =
    let front : take c.args.m c.args.factors.now ≡ scales_of c.args.m = let (la, most, sized, few, ef) = c.requires in factors-front c.args.m c.args.factors.now ef in
    ap length (front) ∙ length-scales c.args.m

size : (c : Start) → length c.args.factors.now ≡ 256
size c =
    let (la, most, sized, few, ef) = c.requires in ap length ef ∙ length-factors c.args.m few

pub slice_bounds-power_sums-end : goal.slice_bounds-power_sums-end
slice_bounds-power_sums-end c = sym (many (goal.at.slice_bounds-power_sums-end c).Start)

pub power_sums-requires : goal.power_sums-requires
power_sums-requires c = let (la, most, sized, few, ef) = c.requires in (
  record {
    few = most;
    sized = sized ∙ ap (◌*◌ c.args.n) (sym (many (goal.at.power_sums-requires c).Start));
    fits = omega (arith, many (goal.at.power_sums-requires c).Start);
    nonzero = λ i h. rw (front (goal.at.power_sums-requires c).Start) (scale-some c.args.m i (omega (arith, many (goal.at.power_sums-requires c).Start)) few);
  },
  la,
)

pub slice_bounds-divide-end : goal.slice_bounds-divide-end
slice_bounds-divide-end c = omega (arith, size (goal.at.slice_bounds-divide-end c).Start)

pub returns : goal.returns
returns c = let (la, most, sized, few, ef) = c.requires in let m = c.args.m in
    λ i h. share-made m few i _ c.power_sums.new.a c.divide.new.t _ (drop m c.args.factors.now) h (length-words _ _ m)
    (omega (arith, c.divide, c.power_sums)) (front (goal.at.returns c).Start) (factors-end m _ ef) (rw (many (goal.at.returns c).Start) at (c.power_sums.ensures i h)) c.divide.ensures
