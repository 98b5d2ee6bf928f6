-- What is added to the entries of a list.
--
--   Added n g c d      d is c with g k added to each entry k below n
--   spaced l o step g n k
--                      what entry k of l entries gets, where g 0, g 1 and so on, n of them, are added to the entries of the exponents o, o + step
--                      and so on: the last entry is that of exponent 0
--   added_none         nothing is added
--   added-at           one entry is added to
--   added_then         two additions one after the other are one
--   added-ext          what is added may be put otherwise
--   added-zeros        what is added to zeros
--   added-first, -next  the terms of a sum are added one after the other
--   spaced-one         every exponent of 17 in turn
--   spaced-rows        the exponents of 255 in 17 turns, each by steps of 17
use Rattle.std.specs.Prelude.{◌≡◌, refl, cond, List, ℕ, ◌+◌, ◌-◌, ◌*◌, ◌/◌, ◌%◌, ◌<◌, eqb, length, get_or, set, replicate}
use Rattle.std.proofs.Common.{sym, ap, ◌∙◌, add-one, arith, get_or-set_same, get_or-set_other}
use Rattle.std.proofs.Math.Decide.{ℕ_discrete}
use Rattle.std.proofs.lemmas.List.{get_or-replicate}
use Rattle.cube.specs.Sum.{sum}
use Rattle.cube.specs.Sum.Laws.{cond-eq, cond-ne, sum-zero}
use Rattle.lists.specs.Xor.{◌⊕◌}
use Rattle.lists.specs.Xor.Laws.{⊕-assoc, ⊕-zero, zero-⊕}
use Rattle.interpolants.specs.Sums.{xor_group, total, total-one}

pub record Added (n : ℕ) (g : ℕ → ℕ) (c d : List ℕ) : Type 0 where
  pub added : (k : ℕ) → k < n → get_or d k 0 ≡ get_or c k 0 ⊕ g k

abbrev pub spaced : ℕ → ℕ → ℕ → (ℕ → ℕ) → ℕ → ℕ → ℕ
spaced l o step g n k = total (λ j. cond (eqb (l - 1 - (o + step * j)) k) (g j) 0) n

pub added_none : {n : ℕ} {g : ℕ → ℕ} (c : List ℕ) → ((k : ℕ) → g k ≡ 0) → Added n g c c
added_none {n} {g} c z = record { added = λ k h. sym (ap (◌⊕◌ (get_or c k 0)) (z k) ∙ ⊕-zero (get_or c k 0)) }

pub added-at : (n : ℕ) (c : List ℕ) (p x q y : ℕ) → p < length c → p ≡ q → x ≡ y → Added n (λ k. cond (eqb q k) y 0) c (set c p (get_or c p 0 ⊕ x))
added-at n c p x q y h ep ex = rw (← ep, ← ex) record { added = λ k l. go k (ℕ_discrete p k) }
  where
    go : (k : ℕ) → Dec (p ≡ k) → get_or (set c p (get_or c p 0 ⊕ x)) k 0 ≡ get_or c k 0 ⊕ cond (eqb p k) x 0
    go k (yes q) = rw (cond-eq p k x 0 q, ← q) (get_or-set_same c p (get_or c p 0 ⊕ x) 0 h)
    go k (no q) = rw (cond-ne p k x 0 q, ⊕-zero (get_or c k 0)) (get_or-set_other c p k (get_or c p 0 ⊕ x) 0 (λ e. q (sym e)))

pub added_then : {n : ℕ} {g h : ℕ → ℕ} {c d e : List ℕ} → Added n g c d → Added n h d e → Added n (λ k. g k ⊕ h k) c e
added_then {n} {g} {h} {c} {d} {e} p q =
    record { added = λ k l. q.added k l ∙ ap (λ (x : ℕ). x ⊕ h k) (p.added k l) ∙ ⊕-assoc (get_or c k 0) (g k) (h k) }

pub added-ext : {n : ℕ} {g h : ℕ → ℕ} {c d : List ℕ} → ((k : ℕ) → k < n → g k ≡ h k) → Added n g c d → Added n h c d
added-ext {n} {g} {h} {c} e p = record { added = λ k l. p.added k l ∙ ap (◌⊕◌ (get_or c k 0)) (e k l) }

pub added-zeros : {n : ℕ} {g : ℕ → ℕ} {d : List ℕ} → Added n g (replicate n 0) d → (k : ℕ) → k < n → get_or d k 0 ≡ g k
added-zeros {n} {g} p k h = p.added k h ∙ ap (λ (x : ℕ). x ⊕ g k) (get_or-replicate n k 0 0 h) ∙ zero-⊕ (g k)

-- ---- a sum, term by term

module _ (n : ℕ) (f : ℕ → ℕ → ℕ) where
  pub added-first : (c : List ℕ) → Added n (λ k. total (λ q. f q k) 0) c c
  unfolding sum
  added-first c = added_none c (λ k. refl)

  pub added_next : {q : ℕ} {c d e : List ℕ} → Added n (λ k. total (λ q. f q k) q) c d → Added n (f q) d e → Added n (λ k. total (λ q. f q k) (q + 1)) c e
  unfolding sum
  added_next {q} p r = rw (add-one q) (added_then p r)

-- ---- every exponent once

pub spaced-one : (g : ℕ → ℕ) (k : ℕ) → k < 17 → spaced 17 0 1 g 17 k ≡ g (16 - k)
spaced-one g k h =
    total-one (λ j. cond (eqb (16 - (0 + 1 * j)) k) (g j) 0) (16 - k) 17 (omega arith) (λ j l n. cond-ne _ k (g j) 0 (λ q. n (omega arith)))
    ∙ cond-eq _ k (g (16 - k)) 0 (omega arith)

pub spaced-rows : (g : ℕ → ℕ → ℕ) (k : ℕ) → k < 255 → total (λ o. spaced 255 o 17 (g o) 15 k) 17 ≡ g ((254 - k) % 17) ((254 - k) / 17)
spaced-rows g k h =
    let o : ℕ = (254 - k) % 17 in
    let j : ℕ = (254 - k) / 17 in
    total-one (λ o. spaced 255 o 17 (g o) 15 k) o 17 (omega arith)
    (λ p l n. sum-zero xor_group _ 15 (λ i b. cond-ne (254 - (p + 17 * i)) k (g p i) 0 (λ q. n (omega arith))))
    ∙ total-one (λ i. cond (eqb (254 - (o + 17 * i)) k) (g o i) 0) j 15 (omega arith) (λ i l n. cond-ne (254 - (o + 17 * i)) k (g o i) 0 (λ q. n (omega arith)))
    ∙ cond-eq (254 - (o + 17 * j)) k (g o j) 0 (omega arith)
