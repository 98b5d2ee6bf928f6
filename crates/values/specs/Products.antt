-- How many products of the points field the announcement of several shares makes.
--
-- evaluations_at p n   the evaluations at one position: one for each coefficient of S, Q and P of n shares and of F, and one for each power
-- products_at p n      at one position: those, ε times F(r), and for each share ε·Q(r), and ε·F(r) times P(r)
-- products_of p n      at all positions
-- evaluation-few, evaluations-few, products-few    there are few: in one evaluation, in those at one position, at several positions
-- products-turn       a position more
use Rattle.std.specs.Prelude.{◌≡◌, ℕ, ◌+◌, ◌*◌, ◌≤◌}
use Rattle.std.proofs.Common.{sym, ap, ◌∙◌, mul-le-mul, suc-mul, add-one, arith}
use Rattle.parameters.specs.declared.Parameters.{Parameters}
use Rattle.parameters.specs.Limits.{Within}

abbrev pub evaluations_at : Parameters → ℕ → ℕ
evaluations_at p n = p.m * (n + 1 + 1) + 2 * (p.w * (n + 1))

abbrev pub products_at : Parameters → ℕ → ℕ
products_at p n = evaluations_at p n + 1 + 2 * n

abbrev pub products_of : Parameters → ℕ → ℕ
products_of p n = p.t * products_at p n

evaluation-few : (len n : ℕ) → len ≤ 255 → n ≤ 16 → len * (n + 1) ≤ 4335
evaluation-few len n h k = let l : n + 1 ≤ 17 = omega arith in mul-le-mul h l

pub evaluations-few : (p : Parameters) (n : ℕ) → Within p → n ≤ 15 → evaluations_at p n ≤ 13005
evaluations-few p n w h =
    let a = evaluation-few p.m (n + 1) w.m-most (omega arith) in
    let b = evaluation-few p.w n (omega arith) (omega arith) in omega arith

pub products-few : (p : Parameters) (n l : ℕ) → Within p → n ≤ 15 → l ≤ 8 → l * products_at p n ≤ 8 * 13036
products-few p n l w h k = let c : products_at p n ≤ 13036 = omega (arith, evaluations-few p n w h) in mul-le-mul k c

pub products-turn : (p : Parameters) (n l made next : ℕ) → made ≡ l * products_at p n → next ≡ made + products_at p n → next ≡ (l + 1) * products_at p n
products-turn p n l made next e en =
    en ∙ ap (λ (k : ℕ). k + products_at p n) e ∙ sym (ap (λ (k : ℕ). k * products_at p n) (add-one l) ∙ suc-mul l (products_at p n))
