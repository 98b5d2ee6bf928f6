-- Sums of numbers by xor.
--
--   xor_group          the numbers with ⊕
--   total f n         f 0 ⊕ f 1 ⊕ .. ⊕ f (n − 1)
--   total-one         a sum of which one term is not zero
--   total_of          an additive function goes into a sum
--   total-append      a sum in two parts
--   total-blocks      a sum in n blocks of k terms each
--   power_sum-total    a power sum as a sum of this kind
use Rattle.std.specs.Prelude.{◌≡◌, refl, cond, List, ℕ, zero, suc, ◌+◌, ◌*◌, ◌<◌, eqb}
use Rattle.std.proofs.Common.{sym, ap, ◌∙◌, add-zero, add-suc, add_comm, mul-zero, mul-suc}
use Rattle.std.proofs.Math.Decide.{ℕ_discrete}
use Rattle.cube.specs.Group.{Group2}
use Rattle.cube.specs.Sum.{sum}
use Rattle.cube.specs.Sum.Laws.{cond-eq, cond-ne, sum-ext, sum-single}
use Rattle.lists.specs.Xor.{◌⊕◌}
use Rattle.lists.specs.Xor.Laws.{⊕-assoc, ⊕-comm, ⊕-zero, ⊕-self}
use Rattle.lists.specs.Additive.{Additive, additive-zero}
use Rattle.bytefield.specs.Product.{◌⊗◌}
use Rattle.bytefield.specs.Powers.{power}
use Rattle.interpolants.specs.PowerSum.{entry_of, power_sum}

abbrev pub xor_group : Group2 ℕ
xor_group = record { zero = 0; add = ◌⊕◌; add_assoc = ⊕-assoc; add_comm = ⊕-comm; add-zero = ⊕-zero; add-self = ⊕-self }

abbrev pub total : (ℕ → ℕ) → ℕ → ℕ
total f n = sum xor_group f n

pub total-one : (f : ℕ → ℕ) (k n : ℕ) → k < n → ((i : ℕ) → i < n → (k ≡ i → ⊥) → f i ≡ 0) → total f n ≡ f k
total-one f k n l z = sum-ext xor_group f _ n (λ i h. go i h (ℕ_discrete k i)) ∙ sum-single xor_group f k n l
  where
    go : (i : ℕ) → i < n → Dec (k ≡ i) → f i ≡ cond (eqb k i) (f i) 0
    go i h (yes e) = sym (cond-eq k i (f i) 0 e)
    go i h (no e) = z i h e ∙ sym (cond-ne k i (f i) 0 e)

pub total_of : (f : ℕ → ℕ) → Additive f → (g : ℕ → ℕ) (n : ℕ) → f (total g n) ≡ total (λ k. f (g k)) n
unfolding sum
total_of f h g zero = additive-zero f h
total_of f h g (suc n) = h (total g n) (g n) ∙ ap (λ (x : ℕ). x ⊕ f (g n)) (total_of f h g n)

pub total-append : (f : ℕ → ℕ) (a b : ℕ) → total f (a + b) ≡ total f a ⊕ total (λ k. f (k + a)) b
unfolding sum
total-append f a zero = ap (total f) (add-zero a) ∙ sym (⊕-zero (total f a))
total-append f a (suc b) = rw (add-suc a b, total-append f a b, add_comm b a) (⊕-assoc (total f a) (total (λ k. f (k + a)) b) (f (a + b)))

pub total-blocks : (f : ℕ → ℕ) (k n : ℕ) → total (λ q. total (λ r. f (r + k * q)) k) n ≡ total f (k * n)
unfolding sum
total-blocks f k zero = ap (total f) (sym (mul-zero k))
total-blocks f k (suc n) =
    ap (λ (x : ℕ). x ⊕ total (λ r. f (r + k * n)) k) (total-blocks f k n) ∙ sym (total-append f (k * n) k) ∙ ap (total f) (sym (mul-suc k n))

pub power_sum-total : (c : List ℕ) (o n : ℕ) → power_sum c o n ≡ total (λ e. entry_of c (power e) ⊗ power (e * o)) n
unfolding power_sum sum
power_sum-total c o zero = refl
power_sum-total c o (suc n) = ap (λ (x : ℕ). x ⊕ entry_of c (power n) ⊗ power (n * o)) (power_sum-total c o n)
