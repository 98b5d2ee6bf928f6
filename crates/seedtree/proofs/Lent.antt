-- What a part `[a..a + n]` of a slice that is lent leaves when it comes back.
use mathlib.Core.Path.{◌≡◌}
use mathlib.Core.List.{List, ◌++◌}
use Prim.Native.Nat.{ℕ, ◌+◌, ◌-◌}
use native.Mathlib.Omega.{arith}
use lib.ListN.{length, take, drop}
use Rattle.lists.specs.Part.{put_at}
use Rattle.lists.specs.Part.Laws.{lent_back}

pub part-back : (w ys : List ℕ) (a n : ℕ) → length ys ≡ n → take a w ++ (ys ++ drop (a + n - a) (drop a w)) ≡ put_at w a ys
part-back w ys a n e = lent_back w ys a (a + n) (omega arith) (omega arith)
