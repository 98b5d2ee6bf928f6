-- The count by its tests.
--
--   counted-many       more than nine shares
--   counted-unnamed    a set of another length
--   counted-outside, counted-within    the parameters p that the set names outside their limits, and within
use Rattle.std.specs.Prelude.{◌≡◌, true, false, List, ℕ, ◌≤◌, ◌<◌, length}
use Rattle.std.proofs.Math.Path.{sym, ap}
use Rattle.std.proofs.Common.{◌∙◌}
use borrow.Author.Tests.{le-leb, lt-leb, eq-eqb, ne_eqb}
use Rattle.parameters.specs.declared.Parameters.{Parameters}
use Rattle.parameters.specs.Limits.{within_limits}
use Rattle.parameters.specs.Set.{set_length, parameters_of}
use Rattle.values.specs.Products.{products_of}
use Rattle.bench_c.specs.Counted.{counted_for}

module _ (n : ℕ) (ns : List ℕ) where
  pub counted-many : 9 < n → 0 ≡ counted_for n ns
  unfolding counted_for
  counted-many h = rw (lt-leb n 9 h)

  pub counted-unnamed : n ≤ 9 → (length ns ≡ set_length → ⊥) → 0 ≡ counted_for n ns
  unfolding counted_for
  counted-unnamed h e = rw (le-leb n 9 h, ne_eqb (length ns) set_length e)

  module _ (few : n ≤ 9) (five : length ns ≡ set_length) (p : Parameters) (is : p ≡ parameters_of ns) where
    pub counted-outside : within_limits p ≡ false → 0 ≡ counted_for n ns
    unfolding counted_for
    counted-outside e = rw (le-leb n 9 few, eq-eqb (length ns) set_length five, sym (ap within_limits is) ∙ e)

    pub counted-within : (r : ℕ) → within_limits p ≡ true → r ≡ products_of p n → r ≡ counted_for n ns
    unfolding counted_for
    counted-within r e so =
        rw (le-leb n 9 few, eq-eqb (length ns) set_length five, sym (ap within_limits is) ∙ e) (so ∙ ap (λ (q : Parameters). products_of q n) is)
