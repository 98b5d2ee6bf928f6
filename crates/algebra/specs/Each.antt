-- What holds of each element of a list, and lists without repeats.
--
--   Each P xs          P holds of every element of xs
--   NotIn x ys         x is no element of ys
--   Disjoint xs ys     no element of xs is one of ys
--   Distinct xs        no two elements of xs are equal
use Rattle.std.specs.Prelude.{◌≡◌, List, [], ◌∷◌}
pub mod Laws

abbrev pub Each : {A : Type 0} → (A → Type 0) → List A → Type 0
Each P [] = Unit {0}
Each P (x ∷ xs) = P x × Each P xs

abbrev pub NotIn : {A : Type 0} → A → List A → Type 0
NotIn x ys = Each (λ y. y ≡ x → ⊥) ys

abbrev pub Disjoint : {A : Type 0} → List A → List A → Type 0
Disjoint xs ys = Each (λ x. NotIn x ys) xs

abbrev pub Distinct : {A : Type 0} → List A → Type 0
Distinct [] = Unit {0}
Distinct (x ∷ xs) = Each (λ y. y ≡ x → ⊥) xs × Distinct xs
