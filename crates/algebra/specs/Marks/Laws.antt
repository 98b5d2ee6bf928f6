-- Laws of what specs/Marks.antt defines.
--
--   each-pick, -leave, distinct-pick, -leave     what holds of the list holds of both
--   pick-apart       in a list without repeats no element that is picked is among those that are left
use Rattle.std.specs.Prelude.{◌≡◌, refl, Bool, true, false, List, [], ◌∷◌, map, suc, ◌+◌, length}
use Rattle.std.proofs.Common.{sym, ap, arith}
use Rattle.algebra.specs.Each.{Each, Disjoint, Distinct}
use Rattle.algebra.specs.Each.Laws.{each-map₂}
use Rattle.algebra.specs.Marks.{leave, marked, pick}

-- ---- lengths
pub length-pick : {A : Type 0} (bs : List Bool) (xs : List A) → length bs ≡ length xs → length (pick bs xs) ≡ marked bs
unfolding pick marked
length-pick [] xs e = refl
length-pick (b ∷ bs) [] e = absurd (omega (arith, e))
length-pick (true ∷ bs) (x ∷ xs) e = ap suc (length-pick bs xs (omega (arith, e)))
length-pick (false ∷ bs) (x ∷ xs) e = length-pick bs xs (omega (arith, e))

pub length-leave : {A : Type 0} (bs : List Bool) (xs : List A) → length bs ≡ length xs → length (leave bs xs) + marked bs ≡ length xs
unfolding leave marked
length-leave [] [] e = refl
length-leave [] (x ∷ xs) e = absurd (omega (arith, e))
length-leave (b ∷ bs) [] e = absurd (omega (arith, e))
length-leave (true ∷ bs) (x ∷ xs) e = let r = length-leave bs xs (omega (arith, e)) in omega arith
length-leave (false ∷ bs) (x ∷ xs) e = let r = length-leave bs xs (omega (arith, e)) in omega arith

-- ---- what holds of the list holds of what is picked and of what is left
pub each-pick : {A : Type 0} (P : A → Type 0) (bs : List Bool) (xs : List A) → Each P xs → Each P (pick bs xs)
unfolding pick
each-pick P [] xs h = tt
each-pick P (b ∷ bs) [] h = tt
each-pick P (true ∷ bs) (x ∷ xs) h = (h.0, each-pick P bs xs h.1)
each-pick P (false ∷ bs) (x ∷ xs) h = each-pick P bs xs h.1

pub distinct-pick : {A : Type 0} (bs : List Bool) (xs : List A) → Distinct xs → Distinct (pick bs xs)
unfolding pick
distinct-pick [] xs h = tt
distinct-pick (b ∷ bs) [] h = tt
distinct-pick (true ∷ bs) (x ∷ xs) h = (each-pick (λ y. y ≡ x → ⊥) bs xs h.0, distinct-pick bs xs h.1)
distinct-pick (false ∷ bs) (x ∷ xs) h = distinct-pick bs xs h.1

pub each-leave : {A : Type 0} (P : A → Type 0) (bs : List Bool) (xs : List A) → Each P xs → Each P (leave bs xs)
unfolding leave
each-leave P [] xs h = h
each-leave P (b ∷ bs) [] h = tt
each-leave P (true ∷ bs) (x ∷ xs) h = each-leave P bs xs h.1
each-leave P (false ∷ bs) (x ∷ xs) h = (h.0, each-leave P bs xs h.1)

pub distinct-leave : {A : Type 0} (bs : List Bool) (xs : List A) → Distinct xs → Distinct (leave bs xs)
unfolding leave
distinct-leave [] xs h = h
distinct-leave (b ∷ bs) [] h = tt
distinct-leave (true ∷ bs) (x ∷ xs) h = distinct-leave bs xs h.1
distinct-leave (false ∷ bs) (x ∷ xs) h = (each-leave (λ y. y ≡ x → ⊥) bs xs h.0, distinct-leave bs xs h.1)

pub pick-apart : {A : Type 0} (bs : List Bool) (xs : List A) → Distinct xs → Disjoint (pick bs xs) (leave bs xs)
unfolding pick leave
pick-apart [] xs h = tt
pick-apart (b ∷ bs) [] h = tt
pick-apart (true ∷ bs) (x ∷ xs) h = (each-leave (λ y. y ≡ x → ⊥) bs xs h.0, pick-apart bs xs h.1)
pick-apart (false ∷ bs) (x ∷ xs) h =
    each-map₂ (λ y n l. ((λ e. n (sym e)), l)) (pick bs xs) (each-pick (λ y. y ≡ x → ⊥) bs xs h.0) (pick-apart bs xs h.1)

-- ---- functions go over
pub map-pick : {A B : Type 0} (h : A → B) (bs : List Bool) (xs : List A) → map h (pick bs xs) ≡ pick bs (map h xs)
unfolding pick
map-pick h [] xs = refl
map-pick h (b ∷ bs) [] = refl
map-pick h (true ∷ bs) (x ∷ xs) = ap (◌∷◌ (h x)) (map-pick h bs xs)
map-pick h (false ∷ bs) (x ∷ xs) = map-pick h bs xs

pub map-leave : {A B : Type 0} (h : A → B) (bs : List Bool) (xs : List A) → map h (leave bs xs) ≡ leave bs (map h xs)
unfolding leave
map-leave h [] xs = refl
map-leave h (b ∷ bs) [] = refl
map-leave h (true ∷ bs) (x ∷ xs) = map-leave h bs xs
map-leave h (false ∷ bs) (x ∷ xs) = ap (◌∷◌ (h x)) (map-leave h bs xs)
