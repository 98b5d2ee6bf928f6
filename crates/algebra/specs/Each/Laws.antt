-- Laws of what specs/Each.antt defines.
--
use Rattle.std.specs.Prelude.{List, [], ◌∷◌, map, ℕ, zero, suc, ◌<◌, length, get_or}
use Rattle.std.proofs.Common.{zero-le, suc-le-suc, le_of_suc-le-suc, not-suc-le-zero}
use Rattle.algebra.specs.Each.{Each}

-- ---- laws of Each
pub each_all : {A : Type 0} {P : A → Type 0} → ((x : A) → P x) → (xs : List A) → Each P xs
each_all f [] = tt
each_all f (x ∷ xs) = (f x, each_all f xs)

pub each_map : {A : Type 0} {P Q : A → Type 0} → ((x : A) → P x → Q x) → (xs : List A) → Each P xs → Each Q xs
each_map f [] h = tt
each_map f (x ∷ xs) h = (f x h.0, each_map f xs h.1)

pub each-map₂ : {A : Type 0} {P Q S : A → Type 0} → ((x : A) → P x → Q x → S x) → (xs : List A) → Each P xs → Each Q xs → Each S xs
each-map₂ f [] h k = tt
each-map₂ f (x ∷ xs) h k = (f x h.0 k.0, each-map₂ f xs h.1 k.1)

pub each-of-map : {A B : Type 0} (P : B → Type 0) (f : A → B) (xs : List A) → Each P (map f xs) → Each (λ x. P (f x)) xs
each-of-map P f [] h = tt
each-of-map P f (x ∷ xs) h = (h.0, each-of-map P f xs h.1)

pub each-to-map : {A B : Type 0} (P : B → Type 0) (f : A → B) (xs : List A) → Each (λ x. P (f x)) xs → Each P (map f xs)
each-to-map P f [] h = tt
each-to-map P f (x ∷ xs) h = (h.0, each-to-map P f xs h.1)

-- ---- by index
pub each_from : {A : Type 0} (P : A → Type 0) (d : A) (xs : List A) → ((i : ℕ) → i < length xs → P (get_or xs i d)) → Each P xs
each_from P d [] h = tt
each_from P d (x ∷ xs) h = (h 0 (suc-le-suc zero-le), each_from P d xs (λ i l. h (suc i) (suc-le-suc l)))

pub each_at : {A : Type 0} (P : A → Type 0) (d : A) (xs : List A) → Each P xs → (i : ℕ) → i < length xs → P (get_or xs i d)
each_at P d [] h i l = absurd (not-suc-le-zero l)
each_at P d (x ∷ xs) h zero l = h.0
each_at P d (x ∷ xs) h (suc i) l = each_at P d xs h.1 i (le_of_suc-le-suc l)
