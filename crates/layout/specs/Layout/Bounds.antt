-- Bounds on what the parameters give, within their limits: the maxima are what their names say.
--
-- levels-most, leaves-most   the levels of the seed tree; the leaves, so that a leaf's number is one byte
-- side-most, parties-most    the parties of an axis, and of all axes together
-- sums-most      the sums that the work area holds
-- sums-parties   no more than there are parties on all axes
-- sums-fit, sums-small   so they take no more room than it has, and are short
-- blocks-fit, blocks-most   and a row for each no more than the rows of all axes
-- total-fits     where the sum of all leaves ends among them, with n as the code has the length of a share
-- axis-most, rows-most   the rows of an axis, and those of all axes
-- opened-most    what an opening gives
-- share-most, aux-most   a share; aux
-- share-fits, siblings-fit   the work area has room for a share, and for the sibling seeds
-- matrix-most    the matrix
-- message5-most  message 5
-- work-most      the work area that a call zeroes
use Rattle.std.specs.Prelude.{◌≡◌, Bool, leb}
use Rattle.std.proofs.Common.{sym, ap, ◌∙◌, subst, add-mul, mul_assoc, mul_comm, mul-le-mul, pow_mono}
use Rattle.std.proofs.Math.Path.{subst⁻¹}
use Rattle.std.proofs.Math.Bool.{true, false, cond}
use Prim.Native.Nat.{ℕ, ◌+◌, ◌*◌, ◌-◌, ◌≤◌, ◌<◌}
use Rattle.std.proofs.Math.Nat.{mul-le-mul_left, mul-le-mul_right}
use native.Mathlib.Omega.{arith}
use Rattle.std.proofs.Math.Dec.{leb→le}
use Rattle.lists.specs.Computed.{below}
use Rattle.parameters.specs.declared.Parameters.{Parameters}
use Rattle.parameters.specs.Limits.{Within}
use Rattle.layout.specs.Layout.Laws.{side-others, total-lt, sum_fits}
use Rattle.layout.specs.Layout.{bits, side, others, sum_count, levels, leaves, is_last, y_length, matrix_length, values_length, row_length, axis_length, aux_length, share_length, siblings_length, sums_length, blocks_length, rows_length, opened_length, message5_length, work_length}
use Rattle.layout.specs.Maxima.{most_levels, most_leaves, most_side, most_parties, most_sums, most_matrix, longest_aux, longest_share, longest_sums, longest_row, most_blocks, most_rows, most_opened, longest_message5, most_work}

-- a matrix of n rows, with the most columns that it may have
small : ℕ → Bool
small n = leb (n * (255 - n)) most_matrix

module _ (p : Parameters) (h : Within p) where
  pub levels-most : levels p ≤ most_levels
  unfolding bits
  levels-most = omega (arith, h.axes-most)

  pub leaves-most : leaves p ≤ most_leaves
  leaves-most = pow_mono {j = most_levels} levels-most

  pub parties-most : side p * p.axes ≤ most_parties
  unfolding bits
  parties-most = omega (arith, h.axes-most)

  pub sums-most : sum_count p ≤ most_sums
  unfolding bits
  sums-most = omega (arith, h.axes-most)

  sums-parties : sum_count p ≤ side p * p.axes
  sums-parties =
      let e : others p * p.axes + 1 * p.axes ≡ side p * p.axes
      = sym (add-mul (others p) 1 p.axes) ∙ ap (λ (n : ℕ). n * p.axes) (omega (arith, side-others p)) in
      omega (arith, h.axes-least)

  pub sums-fit : sums_length p ≤ work_length p
  unfolding work_length
  sums-fit = mul-le-mul_right (share_length p) sums-parties

  pub blocks-fit : blocks_length p ≤ rows_length p
  blocks-fit =
      subst (λ (n : ℕ). blocks_length p ≤ n)
      (ap (λ (n : ℕ). n * row_length p) (mul_comm (side p) p.axes) ∙ mul_assoc p.axes (side p) (row_length p))
      (mul-le-mul_right (row_length p) sums-parties)

  pub side-most : side p ≤ most_side
  unfolding bits
  side-most = omega arith

  row-most : row_length p ≤ longest_row
  row-most = omega (arith, h.t-most)

  pub axis-most : axis_length p ≤ most_side * longest_row
  axis-most = mul-le-mul side-most row-most

  pub rows-most : rows_length p ≤ most_rows
  rows-most = mul-le-mul h.axes-most axis-most

  pub blocks-most : blocks_length p ≤ most_blocks
  blocks-most = mul-le-mul sums-most row-most

  pub opened-most : opened_length p ≤ most_opened
  opened-most = omega (arith, leaves-most, rows-most)

  pub share-most : share_length p ≤ longest_share
  share-most = omega arith

  pub aux-most : aux_length p ≤ longest_aux
  aux-most = omega arith

  share-least : 8 ≤ share_length p
  share-least = omega (arith, h.t-least)

  pub share-fits : share_length p ≤ work_length p
  share-fits = omega (arith, sums-fit, sum_fits p p.axes (total-lt p))

  pub siblings-fit : siblings_length p ≤ work_length p
  unfolding bits work_length
  siblings-fit = let e = mul-le-mul_right (2 * p.axes) (share-least) in omega arith

  pub sums-small : sums_length p ≤ longest_sums
  sums-small = mul-le-mul sums-most share-most

  pub total-fits : (n : ℕ) → n ≡ share_length p → (p.axes * n + n ≤ sums_length p) × (sums_length p ≤ longest_sums)
  total-fits n e = (subst⁻¹ (λ (k : ℕ). p.axes * k + k ≤ sums_length p) e (sum_fits p p.axes (total-lt p)), sums-small)

  pub matrix-most : matrix_length p ≤ most_matrix
  unfolding small
  matrix-most =
      let n : ℕ = y_length p in
      let o : n < 256 = omega arith in
      let e : n * (255 - n) ≤ most_matrix = leb→le (n * (255 - n)) most_matrix (below 256 small tt n o) in
      let l : n * p.k ≤ n * (255 - n) = mul-le-mul_left n (omega arith) in
      omega arith

  pub message5-most : (i : ℕ) → message5_length p i ≤ longest_message5
  unfolding message5_length
  message5-most i = either (is_last p i)
    where
      either : (last : Bool) → siblings_length p + 32 + values_length p + cond last 0 (aux_length p) ≤ longest_message5
      either true = omega (arith, levels-most, h.t-most)
      either false = omega (arith, levels-most, aux-most, h.t-most)

  pub work-most : side p * p.axes * share_length p ≤ most_work
  work-most = mul-le-mul parties-most share-most
