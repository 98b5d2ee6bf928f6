-- The laws of the two stages.
--
--   power_pos            no power of 03 is 0
--   power-next           the next exponent of a progression
--   get_d-times_each       an entry of a scaled vector
--   scaled_by-at          an entry and the logarithm of its scale
--   scaled_by-none        past the ends of the rows there is no entry
--   class_of             both stages of a class
--   power-sums-of        share i of what all classes add to zeros is the power sums of share i of the words
use Rattle.std.specs.Prelude.{◌≡◌, length, get_or, replicate}
use Rattle.std.proofs.Math.Path.{refl}
use Rattle.std.proofs.Common.{sym, ap, ◌∙◌, zero-add, mul-add, arith}
use mathlib.Core.List.{List, [], ◌∷◌}
use Prim.Native.Nat.{ℕ, zero, suc, ◌+◌, ◌-◌, ◌*◌, ◌/◌, ◌%◌, ◌≤◌, ◌<◌}
use Rattle.std.proofs.Math.ListN.{get_or-eq_default}
use Rattle.cube.specs.Sum.Laws.{sum-ext, sum-swap}
use Rattle.lists.specs.Xor.Laws.{positive}
use Rattle.lists.specs.Additive.{additive-zero}
use Rattle.bytefield.specs.Product.{◌⊗◌}
use Rattle.bytefield.specs.Product.Laws.{⊗-assoc, ⊗-zero, zero-⊗, ⊗-additive-l, one-⊗, ⊗-lt}
use Rattle.bytefield.specs.Powers.{power, power-add}
use Rattle.bytefield.proofs.Laws.Powers.{power-cycle}
use Rattle.packed.specs.Word.{scaled}
use Rattle.packed.specs.Word.Laws.{scaled-add, scaled-sum, scaled-scaled}
use Rattle.packed.specs.Share.{byte_at, share}
use Rattle.packed.specs.Share.Laws.{length-share, get_d-share, byte_at-scaled, byte_at-sum}
use Rattle.interpolants.specs.PowerSum.{times_each, entry_of, power_sum, PowerSums}
use Rattle.interpolants.specs.Sums.{xor_group, total, total_of, total-blocks, power_sum-total}
use Rattle.interpolants.specs.Words.{words_of}
use Rattle.interpolants.specs.Added.{Added, added-ext, added-zeros}
use Rattle.interpolants.specs.Classes.{scaled_by, progression, class_sum, class_term, class_sums}

-- ---- powers

-- 03 to the e and to the 254·e give 1 together
pub power_pos : (e : ℕ) → 0 < power e
power_pos e =
    let cycle : e + 254 * e ≡ 255 * e = omega arith in
    positive (power e) (λ h. let z : ◌≡◌ {A = ℕ} 1 0 = rw (cycle, power-cycle e, h, zero-⊗ (power (254 * e))) at (power-add e (254 * e)) in omega arith)

pub power-next : (k k' s e j : ℕ) → power k ≡ power (s + e * j) → power k' ≡ power (k + e) → power k' ≡ power (s + e * (j + 1))
power-next k k' s e j p q =
    let next : s + e * j + e ≡ s + e * (j + 1) = omega (arith, mul-add e j 1) in
    q ∙ power-add k e ∙ ap (λ (x : ℕ). x ⊗ power e) p ∙ sym (power-add (s + e * j) e) ∙ ap power next

-- ---- entries

pub get_d-times_each : (x w : List ℕ) (k : ℕ) → get_or (times_each x w) k 0 ≡ get_or x k 0 ⊗ get_or w k 0
unfolding times_each
get_d-times_each [] w k = sym (zero-⊗ (get_or w k 0))
get_d-times_each (a ∷ x) [] k = sym (⊗-zero (get_or (a ∷ x) k 0))
get_d-times_each (a ∷ x) (b ∷ w) zero = refl
get_d-times_each (a ∷ x) (b ∷ w) (suc k) = get_d-times_each x w k

-- f is the byte, x the entries of the rows there, s the logarithm of its scale
pub scaled_by-at : (rows w : List ℕ) (n e f x s : ℕ) → f ≡ power e → x ≡ entry_of (words_of rows n (length w)) f → power s ≡ entry_of w f
    → (o : ℕ) → progression x s e o ≡ progression (scaled_by rows n w e) 0 e o
unfolding scaled_by
scaled_by-at rows w n e f x s ef ex es o =
    rw (power-add s (e * o), ← scaled-scaled x (power s) (power (e * o)), ex, es, zero-add (e * o), ef) refl

-- past the ends of the rows
pub scaled_by-none : (rows w : List ℕ) (n e f : ℕ) → f ≡ power e → length w ≤ f - 1 → (o : ℕ) → progression (scaled_by rows n w e) 0 e o ≡ 0
unfolding scaled_by
scaled_by-none rows w n e f ef h o =
    let past : entry_of w (power e) ≡ 0 = get_or-eq_default w 0 (omega arith) in
    let v : ℕ = entry_of (words_of rows n (length w)) (power e) in
    rw (past, additive-zero (scaled v) (scaled-add v)) (additive-zero (λ v. scaled v (power (0 + e * o))) (scaled-sum (power (0 + e * o))))

-- ---- a class

-- c is what the first stage leaves
pub class_of : (x : ℕ → ℕ) (κ : ℕ) (c a d : List ℕ) → Added 17 (λ k. class_sum x κ (16 - k)) (replicate 17 0) c
    → Added 255 (λ k. progression (get_or c (16 - (254 - k) % 17) 0) 0 (17 * κ) ((254 - k) / 17)) a d → Added 255 (λ k. class_term x κ (254 - k)) a d
unfolding class_term
class_of x κ c a d ac ad =
    let back : (k : ℕ) → 16 - (16 - (254 - k) % 17) ≡ (254 - k) % 17 = λ k. omega arith in
    added-ext (λ k h. ap (λ (s : ℕ). progression s 0 (17 * κ) ((254 - k) / 17)) (added-zeros ac (16 - (254 - k) % 17) (omega arith)
    ∙ ap (class_sum x κ) (back k))) ad

-- ---- the exponents

exponents : (κ q o : ℕ) → power ((κ + 15 * q) * (o % 17)) ⊗ power (17 * κ * (o / 17)) ≡ power ((κ + 15 * q) * o)
exponents κ q o =
    let whole : o ≡ 17 * (o / 17) + o % 17 = omega arith in
    let apart : (d r : ℕ) → (κ + 15 * q) * (17 * d + r) ≡ 255 * (q * d) + ((κ + 15 * q) * r + 17 * κ * d) = λ d r. omega arith in
    let around = power-add (255 * (q * (o / 17))) ((κ + 15 * q) * (o % 17) + 17 * κ * (o / 17)) in
    rw (ap (◌*◌ (κ + 15 * q)) whole ∙ apart (o / 17) (o % 17), around, power-cycle (q * (o / 17)), power-add ((κ + 15 * q) * (o % 17)) (17 * κ * (o / 17)))
    (sym (one-⊗ _ (⊗-lt _ _)))

-- ---- the sums

module _ (i : ℕ) (small : i < 8) (rows w : List ℕ) (n : ℕ) where
  abbrev entries : List ℕ
  entries = times_each (share i (words_of rows n (length w))) w

  abbrev entry : ℕ → ℕ
  entry e = entry_of entries (power e)

  lane-scaled_by : (e : ℕ) → byte_at i (scaled_by rows n w e) ≡ entry e
  unfolding scaled_by
  lane-scaled_by e =
      let v : List ℕ = words_of rows n (length w) in
      rw (byte_at-scaled i (entry_of v (power e)) (entry_of w (power e)) small, get_d-times_each (share i v) w (power e - 1), get_d-share i v (power e - 1)) refl

  lane-term : (κ q o : ℕ) → byte_at i (progression (scaled_by rows n w (κ + 15 * q)) 0 (κ + 15 * q) (o % 17)) ⊗ power (17 * κ * (o / 17))
      ≡ entry (κ + 15 * q) ⊗ power ((κ + 15 * q) * o)
  lane-term κ q o =
      rw (zero-add ((κ + 15 * q) * (o % 17)), byte_at-scaled i (scaled_by rows n w (κ + 15 * q)) (power ((κ + 15 * q) * (o % 17))) small, lane-scaled_by (κ + 15 * q))
      (⊗-assoc (entry (κ + 15 * q)) _ _ ∙ ap (◌⊗◌ (entry (κ + 15 * q))) (exponents κ q o))

  lane-class : (κ o : ℕ) → byte_at i (class_term (scaled_by rows n w) κ o) ≡ total (λ q. entry (κ + 15 * q) ⊗ power ((κ + 15 * q) * o)) 17
  unfolding class_term class_sum
  lane-class κ o =
      let term : ℕ → ℕ = λ q. progression (scaled_by rows n w (κ + 15 * q)) 0 (κ + 15 * q) (o % 17) in
      rw (zero-add (17 * κ * (o / 17)), byte_at-scaled i (total term 17) (power (17 * κ * (o / 17))) small, total_of (byte_at i) (byte_at-sum i) term 17)
      (total_of (λ x. x ⊗ power (17 * κ * (o / 17))) (⊗-additive-l (power (17 * κ * (o / 17)))) (λ q. byte_at i (term q)) 17
      ∙ sum-ext xor_group _ _ 17 (λ q l. lane-term κ q o))

  power-sums-at : (o : ℕ) → byte_at i (class_sums (scaled_by rows n w) 15 o) ≡ power_sum entries o 255
  power-sums-at o =
      total_of (byte_at i) (byte_at-sum i) (λ κ. class_term (scaled_by rows n w) κ o) 15 ∙ sum-ext xor_group _ _ 15 (λ κ l. lane-class κ o)
      ∙ sum-swap xor_group (λ κ q. entry (κ + 15 * q) ⊗ power ((κ + 15 * q) * o)) 15 17
      ∙ total-blocks (λ e. entry e ⊗ power (e * o)) 15 17 ∙ sym (power_sum-total entries o 255)

  pub power-sums-of : (a : List ℕ) → length a ≡ 255 → Added 255 (λ k. class_sums (scaled_by rows n w) 15 (254 - k)) (replicate 255 0) a
      → PowerSums entries (share i a)
  power-sums-of a l d = record {
    count = length-share i a ∙ l;
    sum-at = λ j b. get_d-share i a j ∙ ap (byte_at i) (added-zeros d j b) ∙ power-sums-at (254 - j);
  }
