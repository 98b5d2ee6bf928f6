-- Families given by number, put into lists.
--
-- joined f n     f 0 ‖ f 1 ‖ .. ‖ f (n−1)
-- listed f n     the list f 0, f 1, .. , f (n−1)
-- those f l      the elements of l that pass the test f, in their order
-- least f n      the least number below n that passes the test f, or n where none does
use Rattle.std.specs.Prelude.{Bool, cond, List, [], ◌∷◌, ◌++◌, ℕ, zero, suc, ltb}

unfoldable pub joined : (ℕ → List ℕ) → ℕ → List ℕ
joined f zero = []
joined f (suc n) = joined f n ++ f n

unfoldable pub listed : {A : Type 0} → (ℕ → A) → ℕ → List A
listed f zero = []
listed f (suc n) = listed f n ++ (f n ∷ [])

unfoldable pub those : {A : Type 0} → (A → Bool) → List A → List A
those f [] = []
those f (a ∷ l) = cond (f a) (a ∷ those f l) (those f l)

unfoldable pub least : (ℕ → Bool) → ℕ → ℕ
least f zero = 0
least f (suc n) = cond (ltb (least f n) n) (least f n) (cond (f n) n (suc n))
