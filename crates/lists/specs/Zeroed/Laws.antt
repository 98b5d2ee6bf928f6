-- The laws of `zeroed`.
--
-- zeroed-none, zeroed-more    a loop that zeroes d has come to `zeroed i d`
-- zeroed-all                  all of d zeroed
-- zeroed-front                the front `&mut w[..n]` was lent and came back as zeros
use Rattle.std.specs.Prelude.{◌≡◌, refl, ℕ, ◌+◌, ◌<◌, List, ◌++◌, length, drop, set, replicate}
use Rattle.std.proofs.Common.{append-nil}
use Rattle.std.proofs.Math.Seq.{drop-length}
use Rattle.std.proofs.lemmas.List.Edits.{fill_more}
use Rattle.lists.specs.Zeroed.{zeroed}

pub zeroed-none : (d : List ℕ) → d ≡ zeroed 0 d
unfolding zeroed
zeroed-none d = refl

pub zeroed-more : (i : ℕ) (d : List ℕ) → i < length d → set (zeroed i d) i 0 ≡ zeroed (i + 1) d
unfolding zeroed
zeroed-more i d h = fill_more i 0 d h

pub zeroed-all : (d : List ℕ) (n : ℕ) → length d ≡ n → zeroed n d ≡ replicate n 0
unfolding zeroed
zeroed-all d n e = rw (← e, drop-length) (append-nil (replicate (length d) 0))

pub zeroed-front : (w ys : List ℕ) (n : ℕ) → ys ≡ replicate n 0 → ys ++ drop n w ≡ zeroed n w
unfolding zeroed
zeroed-front w ys n e = rw e
