-- The laws of leaves and their places on the cube.
--
-- side-pos, leaves-pos     there is a party on every axis, and a leaf
-- side-is, leaves-is       'Side N = 2, n = 2^D leaves'
-- bits-least               a party of an axis takes a bit or more
-- others-pos, side-others  an axis has a party beside the last one
-- index-lt, total-lt       a party's sum is one of those that the work area holds, and so is that of all leaves, at index D
-- sum_fits                 a sum lies within the sums
-- digit-last               the last leaf is in the last party of every axis
-- digit-bit                at side 2 a digit is a bit of the leaf's number
-- coordinate-bit           'Coordinate j (1 to D) of a leaf is bit j−1 of its number, plus 1'
-- digit_lt                 a leaf's party on an axis is one of the side
-- digits-inj               leaves with the same digit on every axis are the same
-- is_last-true, is_last-false, is_last-last   the test for leaf n−1
-- work-is                  'never shorter than 2·D·(k+2w+12t)'
use Rattle.std.specs.Prelude.{◌≡◌, Bool, true, false, cond, ℕ, zero, suc, ◌+◌, ◌-◌, ◌*◌, ◌/◌, ◌%◌, ◌^◌, ◌<◌, ◌≤◌, eqb}
use Rattle.std.proofs.Math.Path.{refl, ap}
use Rattle.std.proofs.Common.{sym, ap₂, ◌∙◌, mul-zero, mul-suc, one-mul, mul-one, mul-add, mul-le-mul_right, pow_pos, pow_mono, shr_lt, shr-shr}
use Rattle.std.proofs.Math.Nat.{mod-lt}
use native.Mathlib.Omega.{arith}
use borrow.Author.Tests.{eqb-true, eq-eqb, ne_eqb}
use Rattle.std.proofs.Math.Arith.{digits_div, digits_mod}
use Rattle.std.proofs.Math.Dec.{lit<}
use Rattle.std.proofs.Math.Pow.{split, ones_split, ones_lt}
use Rattle.lists.specs.Part.Laws.{part-fits}
use Rattle.parameters.specs.declared.Parameters.{Parameters}
use Rattle.layout.specs.Layout.{bits, side, others, sum_count, sum_index, levels, leaves, digit, coordinate, is_last, share_length, sums_length, work_length}

module _ (p : Parameters) where
  pub side-pos : 0 < side p
  side-pos = pow_pos (bits p)

  pub leaves-pos : 0 < leaves p
  leaves-pos = pow_pos (levels p)

  pub side-is : side p ≡ 2
  unfolding bits
  side-is = refl

  pub leaves-is : leaves p ≡ 2 ^ p.axes
  unfolding bits
  leaves-is = ap (λ (n : ℕ). 2 ^ n) (one-mul p.axes)

  pub bits-least : 1 ≤ bits p
  unfolding bits
  bits-least = lit< tt

  side-two : 2 ≤ side p
  side-two = pow_mono {i = 1} bits-least

  pub others-pos : 1 ≤ others p
  others-pos = omega (arith, side-two)

  pub side-others : side p ≡ suc (others p)
  side-others = omega (arith, side-two)

  pub index-lt : (j c : ℕ) → j < p.axes → c < others p → sum_index p j c < sum_count p
  index-lt j c hj hc =
      let e : suc c * p.axes ≤ others p * p.axes = mul-le-mul_right p.axes hc in
      let o : cond (eqb c 0) 0 1 ≤ 1 = either (eqb c 0) in omega arith
    where
      either : (b : Bool) → cond b 0 1 ≤ 1
      either true = omega arith
      either false = omega arith

  pub total-lt : p.axes < sum_count p
  total-lt = let e : 1 * p.axes ≤ others p * p.axes = mul-le-mul_right p.axes others-pos in omega arith

  pub sum_fits : (q : ℕ) → q < sum_count p → q * share_length p + share_length p ≤ sums_length p
  sum_fits q h = part-fits q (sum_count p) (share_length p) h

  -- ---- digits

  pub digit_lt : (j i : ℕ) → digit p j i < side p
  unfolding digit
  digit_lt j i = mod-lt _ (pow_pos (bits p))

  pub digit-bit : (j i : ℕ) → digit p j i ≡ i / 2 ^ j % 2
  unfolding digit bits
  digit-bit j i = ap (λ (n : ℕ). i / 2 ^ n % 2) (one-mul j)

  pub coordinate-bit : (j i : ℕ) → coordinate p j i ≡ i / 2 ^ (j - 1) % 2 + 1
  unfolding coordinate
  coordinate-bit j i = ap (λ (n : ℕ). n + 1) (digit-bit (j - 1) i)

-- d digits of b bits each
digits_same : (b d i i' : ℕ) → i < 2 ^ (b * d) → i' < 2 ^ (b * d)
    → ((j : ℕ) → j < d → i / 2 ^ (b * j) % 2 ^ b ≡ i' / 2 ^ (b * j) % 2 ^ b) → i ≡ i'
digits_same b zero i i' h h' e = let z = rw mul-zero at h in let z' = rw mul-zero at h' in omega arith
digits_same b (suc d) i i' h h' e =
    sym (split i b)
    ∙ ap₂ (λ (x y : ℕ). x * 2 ^ b + y)
    (digits_same b d (i / 2 ^ b) (i' / 2 ^ b) (shr_lt (b * d) b (rw mul-suc at h)) (shr_lt (b * d) b (rw mul-suc at h'))
    (λ j l. rw (shr-shr i b (b * j), shr-shr i' b (b * j), next j) (e (suc j) (omega arith))))
    (sym (lowest i) ∙ e 0 (omega arith) ∙ lowest i')
    ∙ split i' b
  where
    next : (j : ℕ) → b + b * j ≡ b * suc j
    next j = omega arith

    lowest : (i : ℕ) → i / 2 ^ (b * 0) % 2 ^ b ≡ i % 2 ^ b
    lowest i = rw mul-zero (let e : i / 1 ≡ i = omega arith in ap (λ (x : ℕ). x % 2 ^ b) e)

-- all digits of b bits are the greatest in 2^(b·d) − 1
all_ones : (b j d : ℕ) → j < d → (2 ^ (b * d) - 1) / 2 ^ (b * j) % 2 ^ b ≡ 2 ^ b - 1
all_ones b j d h =
    ap (λ (n : ℕ). (2 ^ n - 1) / 2 ^ (b * j) % 2 ^ b) whole
    ∙ ap (λ (x : ℕ). x / 2 ^ (b * j) % 2 ^ b) (ones_split (b * k + b) (b * j))
    ∙ ap (λ (x : ℕ). x % 2 ^ b) (digits_div (2 ^ (b * k + b) - 1) (ones_lt (b * j)) ∙ ones_split (b * k) b)
    ∙ digits_mod (2 ^ (b * k) - 1) {m = 2 ^ b} {r = 2 ^ b - 1} (ones_lt b)
  where
    k : ℕ
    k = d - j - 1

    whole : b * d ≡ b * k + b + b * j
    whole = let e : d ≡ k + 1 + j = omega arith in ap (◌*◌ b) e ∙ mul-add b (k + 1) j ∙ ap (λ (n : ℕ). n + b * j) (mul-add b k 1 ∙ ap (◌+◌ (b * k)) (mul-one b))

module _ (p : Parameters) where
  pub digits-inj : (i i' : ℕ) → i < leaves p → i' < leaves p → ((j : ℕ) → j < p.axes → digit p j i ≡ digit p j i') → i ≡ i'
  unfolding digit
  digits-inj i i' h h' e = digits_same (bits p) p.axes i i' h h' e

  -- ---- leaf n−1

  pub digit-last : (j : ℕ) → j < p.axes → digit p j (leaves p - 1) ≡ others p
  unfolding digit
  digit-last j h = all_ones (bits p) j p.axes h

  pub is_last-true : (i : ℕ) → i ≡ leaves p - 1 → is_last p i ≡ true
  unfolding is_last
  is_last-true i e = eq-eqb i (leaves p - 1) e

  pub is_last-false : (i : ℕ) → (i ≡ leaves p - 1 → ⊥) → is_last p i ≡ false
  unfolding is_last
  is_last-false i e = ne_eqb i (leaves p - 1) e

  pub is_last-last : (i : ℕ) → is_last p i ≡ true → i ≡ leaves p - 1
  unfolding is_last
  is_last-last i e = eqb-true i (leaves p - 1) e

  pub work-is : work_length p ≡ 2 * p.axes * (p.k + 2 * p.w + 12 * p.t)
  unfolding work_length bits
  work-is = let e : share_length p ≡ p.k + 2 * p.w + 12 * p.t = omega arith in ap (◌*◌ (2 * p.axes)) e
