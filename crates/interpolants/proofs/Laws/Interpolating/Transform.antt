-- The polynomial whose coefficients are power sums: at each nonzero byte it has the entry of that byte, divided by the byte.
--
--   descending e k      f to the k − 1 down to f to the 0, where f is 03 to the e
--   sums c n k          the power sums over the first n powers of 03, of the exponents k − 1 down to 0
--   descending-apart    the value of 255 descending powers of f at another power of 03 is zero
--   descending-own      and at f itself it is f to the 254
--   sums-value          so the power sums have at z the entry of z times z to the 254
--   transform-value     which is the entry of z times the inverse of z, for any list of the power sums
use Rattle.std.specs.Prelude.{◌≡◌, refl, List, [], ◌∷◌, ℕ, zero, suc, ◌+◌, ◌-◌, ◌*◌, ◌≤◌, ◌<◌, length, get_or}
use Rattle.std.proofs.Common.{sym, ap, ap₂, ◌∙◌, not-suc-le-zero, le_of_suc-le-suc, arith, lit<, ext_get_or}
use Rattle.std.proofs.Math.Decide.{ℕ_discrete}
use Rattle.lists.specs.Xor.{◌⊕◌}
use Rattle.lists.specs.Xor.Laws.{⊕-self, zero-⊕, ⊕-apart, ⊕-lt}
use Rattle.algebra.specs.Polynomial.{eval}
use Rattle.bytefield.specs.Product.{◌⊗◌, byte_ops}
use Rattle.bytefield.specs.Product.Laws.{⊗-zero, bytefield}
use Rattle.bytefield.specs.Powers.{power, power-lt, power-add}
use Rattle.bytefield.proofs.Laws.Powers.{power-cycle, logs-small, logs_at}
use Rattle.bytefield.specs.Tables.{logs}
use Rattle.bytefield.specs.Inverse.{inverse}
use Rattle.bytefield.proofs.Laws.Inverse.{inverse-unique}
use Rattle.interpolants.specs.PowerSum.{entry_of, power_sum, PowerSums}
use Rattle.polynomial.specs.Bytes.{Bytes}
use Rattle.polynomial.specs.Bytes.Laws.{byte-eval}
use Rattle.interpolants.proofs.Laws.Cancel.{⊗-cancel, power-once}

descending : ℕ → ℕ → List ℕ
descending e zero = []
descending e (suc k) = power (e * k) ∷ descending e k

sums : List ℕ → ℕ → ℕ → List ℕ
sums c n zero = []
sums c n (suc k) = power_sum c k n ∷ sums c n k

-- ---- powers

pub power-more : (e k : ℕ) → power (e * suc k) ≡ power e ⊗ power (e * k)
power-more e k = let more : e * suc k ≡ e + e * k = omega arith in ap power more ∙ power-add e (e * k)

pub power-around : (e : ℕ) → power (e * 255) ≡ 1
power-around e = let turn : e * 255 ≡ 255 * e = omega arith in ap power turn ∙ power-cycle e

bytes-descending : (e k : ℕ) → Bytes (descending e k)
unfolding descending
bytes-descending e zero = tt
bytes-descending e (suc k) = (power-lt (e * k), bytes-descending e k)

-- ---- the value of descending powers

factored : (b e k : ℕ) → (power b ⊕ power e) ⊗ eval byte_ops (descending e k) (power b) ≡ power (b * k) ⊕ power (e * k)
unfolding descending eval
factored b e zero = ⊗-zero (power b ⊕ power e) ∙ sym (⊕-self (power 0)) ∙ ap₂ (λ (i j : ℕ). power i ⊕ power j) (omega arith) (omega arith)
factored b e (suc k) = rw (power-more b k, power-more e k) (step (power b) (power e) (power (e * k)) (power (b * k)) _ (factored b e k))
  where
    step : (z f fk zk v : ℕ) → (z ⊕ f) ⊗ v ≡ zk ⊕ fk → (z ⊕ f) ⊗ (fk ⊕ z ⊗ v) ≡ z ⊗ zk ⊕ f ⊗ fk
    step z f fk zk v h =
        let open_up : (z ⊕ f) ⊗ (fk ⊕ z ⊗ v) ≡ (z ⊕ f) ⊗ fk ⊕ z ⊗ ((z ⊕ f) ⊗ v) = simp bytefield in
        rw (open_up, h) (simp bytefield)

descending-apart : (b e : ℕ) → (power b ≡ power e → ⊥) → eval byte_ops (descending e 255) (power b) ≡ 0
descending-apart b e n =
    ⊗-cancel (power b ⊕ power e) (eval byte_ops (descending e 255) (power b)) 0
    (⊕-apart (power b) (power e) n) (⊕-lt 8 (power-lt b) (power-lt e)) (byte-eval (descending e 255) (power b) (bytes-descending e 255)) (lit< tt)
    (factored b e 255 ∙ ap₂ ◌⊕◌ (power-around b) (power-around e) ∙ ⊕-self 1 ∙ sym (⊗-zero (power b ⊕ power e)))

twice : ℕ → ℕ
twice zero = 0
twice (suc h) = suc (suc (twice h))

odd : (e h : ℕ) → eval byte_ops (descending e (suc (twice h))) (power e) ≡ power (e * twice h)
unfolding descending eval twice
odd e zero = simp bytefield
odd e (suc h) = rw (power-more e (twice h), odd e h) (simp bytefield)

descending-own : (e : ℕ) → eval byte_ops (descending e 255) (power e) ≡ power (e * 254)
unfolding twice
descending-own e = odd e 127

-- ---- the value of power sums

sums-more : (c : List ℕ) (n k z : ℕ)
    → eval byte_ops (sums c (suc n) k) z ≡ eval byte_ops (sums c n k) z ⊕ entry_of c (power n) ⊗ eval byte_ops (descending n k) z
unfolding sums descending eval power_sum
sums-more c n zero z = simp bytefield
sums-more c n (suc k) z =
    let step : (p a w u v : ℕ) → p ⊕ a ⊗ w ⊕ z ⊗ (u ⊕ a ⊗ v) ≡ p ⊕ z ⊗ u ⊕ a ⊗ (w ⊕ z ⊗ v) = λ p a w u v. simp bytefield in
    rw (sums-more c n k z) (step _ _ (power (n * k)) _ _)

sums_none : (c : List ℕ) (k z : ℕ) → eval byte_ops (sums c 0 k) z ≡ 0
unfolding sums eval power_sum
sums_none c zero z = refl
sums_none c (suc k) z = rw (sums_none c k z) (simp bytefield)

sums_apart : (c : List ℕ) (b n : ℕ) → b < 255 → n < 255 → (b ≡ n → ⊥)
    → eval byte_ops (sums c (suc n) 255) (power b) ≡ eval byte_ops (sums c n 255) (power b)
sums_apart c b n h k d = rw (sums-more c n 255 (power b), descending-apart b n (λ e. d (power-once b n h k e))) (simp bytefield)

sums-before : (c : List ℕ) (b n : ℕ) → b < 255 → n ≤ b → eval byte_ops (sums c n 255) (power b) ≡ 0
sums-before c b zero h k = sums_none c 255 (power b)
sums-before c b (suc n) h k = sums_apart c b n h (omega arith) (λ e. omega arith) ∙ sums-before c b n h (omega arith)

sums-value : (c : List ℕ) (b n : ℕ) → b < n → n ≤ 255 → eval byte_ops (sums c n 255) (power b) ≡ entry_of c (power b) ⊗ power (b * 254)
sums-value c b zero h k = absurd (not-suc-le-zero h)
sums-value c b (suc n) h k = go (ℕ_discrete b n) (sums-value c b n)
  where
    go : Dec (b ≡ n) → (b < n → n ≤ 255 → eval byte_ops (sums c n 255) (power b) ≡ entry_of c (power b) ⊗ power (b * 254))
        → eval byte_ops (sums c (suc n) 255) (power b) ≡ entry_of c (power b) ⊗ power (b * 254)
    go (yes e) ih = rw (← e) (rw (sums-more c b 255 (power b), sums-before c b b (omega arith) (omega arith), descending-own b) (zero-⊕ _))
    go (no d) ih = sums_apart c b n (omega arith) (omega arith) d ∙ ih (omega (arith, d)) (omega arith)

-- ---- lists of power sums

length-sums : (c : List ℕ) (n k : ℕ) → length (sums c n k) ≡ k
unfolding sums
length-sums c n zero = refl
length-sums c n (suc k) = ap suc (length-sums c n k)

sums_at : (c : List ℕ) (n k j : ℕ) → j ≤ k → get_or (sums c n (suc k)) j 0 ≡ power_sum c (k - j) n
unfolding sums
sums_at c n k zero h = ap (λ (o : ℕ). power_sum c o n) (omega arith)
sums_at c n zero (suc j) h = absurd (not-suc-le-zero h)
sums_at c n (suc k) (suc j) h = sums_at c n k j (le_of_suc-le-suc h) ∙ ap (λ (o : ℕ). power_sum c o n) (omega arith)

sums-all : (c t : List ℕ) → PowerSums c t → t ≡ sums c 255 255
sums-all c t p =
    ext_get_or 0 t (sums c 255 255) (p.count ∙ sym (length-sums c 255 255))
    (λ j h. let l = p.count in p.sum-at j (omega arith) ∙ sym (sums_at c 255 254 j (omega arith)))

pub transform-value : (c t : List ℕ) (z : ℕ) → PowerSums c t → 0 < z → z < 256 → eval byte_ops t z ≡ entry_of c z ⊗ inverse z
transform-value c t z p s h =
    let b : ℕ = get_or logs z 0 in
    let e : power b ≡ z = logs_at z s h in
    let w : power (b * 254) ≡ inverse z = inverse-unique z _ s h (power-lt (b * 254)) (rw e at (sym (power-more b 254) ∙ power-around b)) in
    rw (sums-all c t p) (rw e at (sums-value c b 255 (logs-small z s h) (omega arith))) ∙ ap (◌⊗◌ (entry_of c z)) w
