-- The test of the limits and the facts that it stands for.
--
-- within-test     from the facts to the test
-- test-within     from the test to the facts
use Rattle.std.specs.Prelude.{◌≡◌, true}
use Rattle.std.proofs.Common.{le-leb, lt-ltb, leb-true, ltb-true}
use Rattle.lists.specs.Checks.Laws.{all-at}
use Rattle.parameters.specs.declared.Parameters.{Parameters}
use Rattle.parameters.specs.Limits.{limits, within_limits, Within}

pub within-test : (p : Parameters) → Within p → within_limits p ≡ true
unfolding limits within_limits
within-test p h =
    simp (
      le-leb _ _ h.m-least,
      le-leb _ _ h.m-most,
      le-leb _ _ h.k-least,
      lt-ltb _ _ h.k-most,
      le-leb _ _ h.w-least,
      le-leb _ _ h.w-most,
      le-leb _ _ h.axes-least,
      le-leb _ _ h.axes-most,
      le-leb _ _ h.t-least,
      le-leb _ _ h.t-most,
    )

pub test-within : (p : Parameters) → within_limits p ≡ true → Within p
unfolding limits within_limits
test-within p e =
    let so = all-at (limits p) e in
    record {
      m-least = leb-true 2 p.m (so 0);
      m-most = leb-true p.m 255 (so 1);
      k-least = leb-true 1 p.k (so 2);
      k-most = ltb-true p.k p.m (so 3);
      w-least = leb-true 1 p.w (so 4);
      w-most = leb-true p.w p.m (so 5);
      axes-least = leb-true 1 p.axes (so 6);
      axes-most = leb-true p.axes 8 (so 7);
      t-least = leb-true 1 p.t (so 8);
      t-most = leb-true p.t 8 (so 9);
    }
