-- Interpolation at the points fs in two sweeps over one slice: upwards to the coefficients of Newton's form, downwards to those of the polynomial.
--
--   newton_form fs ys     the coefficients of Newton's form: y, then those of the slopes
--   expanded fs ds       from Newton's form to the coefficients
--   Passed fs j x x₀     the first sweep has passed j of the values x₀ and left x
--   Expanded fs j x x₀   the second sweep has come down to place j of x₀ and left x
--   both-sweeps          one after the other they give the polynomial through the values
use Rattle.std.specs.Prelude.{◌≡◌, refl, List, [], ◌∷◌, ◌++◌, ℕ, zero, suc, ◌+◌, ◌-◌, ◌≤◌, ◌<◌, length, take, drop, get_or}
use Rattle.std.proofs.Common.{sym, ap, ap₂, ◌∙◌, append-nil, not-suc-le-zero, le_of_eq, add-one, arith, drop_of_length-le, take_all, drop-cons, take-suc, take_at, drop_at, length-take-le}
use Rattle.std.proofs.Math.Seq.{take-length, append_snoc}
use Rattle.algebra.specs.Polynomial.{expand, slopes, interpolate}
use Rattle.bytefield.specs.Product.{byte_ops}
use Rattle.bytefield.specs.Inverse.{inverse}

front : (l : List ℕ) (j : ℕ) → j < length l → drop j l ≡ get_or l j 0 ∷ drop (j + 1) l
front l j h = drop-cons l j 0 h ∙ ap (λ (i : ℕ). get_or l j 0 ∷ drop i l) (sym (add-one j))

unfoldable pub newton_form : List ℕ → List ℕ → List ℕ
newton_form [] ys = []
newton_form (f ∷ fs) [] = []
newton_form (f ∷ fs) (y ∷ ys) = y ∷ newton_form fs (slopes byte_ops inverse f y fs ys)

unfoldable pub expanded : List ℕ → List ℕ → List ℕ
expanded [] ds = []
expanded (f ∷ fs) [] = []
expanded (f ∷ fs) (d ∷ ds) = expand byte_ops f (d ∷ expanded fs ds)

pub expanded-newton : (fs ys : List ℕ) → expanded fs (newton_form fs ys) ≡ interpolate byte_ops inverse fs ys
unfolding expanded newton_form interpolate
expanded-newton [] ys = refl
expanded-newton (f ∷ fs) [] = refl
expanded-newton (f ∷ fs) (y ∷ ys) = ap (λ (l : List ℕ). expand byte_ops f (y ∷ l)) (expanded-newton fs (slopes byte_ops inverse f y fs ys))

-- ---- upwards
abbrev pub Passed : List ℕ → ℕ → List ℕ → List ℕ → Type 0
Passed fs j x x₀ = take j x ++ newton_form (drop j fs) (drop j x) ≡ newton_form fs x₀

pub newton-turn : (fs : List ℕ) (j f y : ℕ) (x x₀ z p : List ℕ) → j < length fs → j < length x → f ≡ get_or fs j 0 → y ≡ get_or x j 0 → p ≡ take (j + 1) x ++ z
    → z ≡ slopes byte_ops inverse f y (drop (j + 1) fs) (drop (j + 1) x) → Passed fs j x x₀ → Passed fs (j + 1) p x₀
unfolding newton_form
newton-turn fs j f y x x₀ z p k h ef ey ep ez e =
    let t : length (take (j + 1) x) ≡ j + 1 = length-take-le (j + 1) x (omega arith) in
    let a : take (j + 1) p ≡ take j x ++ (get_or x j 0 ∷ []) = ap (take (j + 1)) ep ∙ take_at (take (j + 1) x) z (j + 1) t ∙ ap (λ (i : ℕ). take i x) (add-one j) ∙ take-suc x j 0 h in
    let b : drop (j + 1) p ≡ slopes byte_ops inverse (get_or fs j 0) (get_or x j 0) (drop (j + 1) fs) (drop (j + 1) x)
    = ap (drop (j + 1)) ep ∙ drop_at (take (j + 1) x) z (j + 1) t ∙ ez ∙ ap₂ (λ (g v : ℕ). slopes byte_ops inverse g v (drop (j + 1) fs) (drop (j + 1) x)) ef ey in
    ap₂ (λ (l m : List ℕ). l ++ newton_form (drop (j + 1) fs) m) a b ∙ append_snoc (take j x) (get_or x j 0) _
    ∙ sym (ap₂ (λ (l m : List ℕ). take j x ++ newton_form l m) (front fs j k) (front x j h)) ∙ e

pub newton-end : (fs : List ℕ) (j : ℕ) (x x₀ : List ℕ) → length fs ≤ j → length x ≤ j → Passed fs j x x₀ → x ≡ newton_form fs x₀
unfolding newton_form
newton-end fs j x x₀ k h e =
    sym (append-nil x) ∙ ap₂ (λ (l m : List ℕ). l ++ newton_form m (drop j x)) (sym (take_all j x h)) (sym (drop_of_length-le fs k)) ∙ e

-- ---- downwards
abbrev pub Expanded : List ℕ → ℕ → List ℕ → List ℕ → Type 0
Expanded fs j x x₀ = x ≡ take j x₀ ++ expanded (drop j fs) (drop j x₀)

pub expanded-start : (fs x : List ℕ) → length fs ≡ length x → Expanded fs (length x) x x
unfolding expanded
expanded-start fs x l =
    sym (ap (λ (m : List ℕ). take (length x) x ++ expanded m (drop (length x) x)) (drop_of_length-le fs (le_of_eq l)) ∙ append-nil (take (length x) x) ∙ take-length x)

pub expanded-turn : (fs : List ℕ) (j f : ℕ) (x x₀ p z : List ℕ) → 0 < j → j ≤ length fs → j ≤ length x₀ → f ≡ get_or fs (j - 1) 0 → p ≡ take (j - 1) x ++ z
    → z ≡ expand byte_ops f (drop (j - 1) x) → Expanded fs j x x₀ → Expanded fs (j - 1) p x₀
unfolding expanded
expanded-turn fs j f x x₀ p z o k h ef ep ez e =
    let i : ℕ = j - 1 in
    let n : j ≡ i + 1 = omega arith in
    let l : length (take i x₀) ≡ i = length-take-le i x₀ (omega arith) in
    let r : List ℕ = expanded (drop (i + 1) fs) (drop (i + 1) x₀) in
    let g : x ≡ take i x₀ ++ (get_or x₀ i 0 ∷ r)
    = e ∙ ap (λ (a : ℕ). take a x₀ ++ expanded (drop a fs) (drop a x₀)) n
    ∙ ap (λ (q : List ℕ). q ++ r) (ap (λ (a : ℕ). take a x₀) (add-one i) ∙ take-suc x₀ i 0 (omega arith)) ∙ append_snoc (take i x₀) (get_or x₀ i 0) r in
    ep
    ∙ ap₂ (λ (a b : List ℕ). a ++ b) (ap (take i) g ∙ take_at (take i x₀) (get_or x₀ i 0 ∷ r) i l)
    (ez ∙ ap₂ (expand byte_ops) ef (ap (drop i) g ∙ drop_at (take i x₀) (get_or x₀ i 0 ∷ r) i l))
    ∙ sym (ap₂ (λ (q m : List ℕ). take i x₀ ++ expanded q m) (front fs i (omega arith)) (front x₀ i (omega arith)))

pub expanded-end : (fs : List ℕ) (j : ℕ) (x x₀ : List ℕ) → j ≤ 0 → Expanded fs j x x₀ → x ≡ expanded fs x₀
expanded-end fs zero x x₀ h e = e
expanded-end fs (suc j) x x₀ h e = absurd (not-suc-le-zero h)

-- ---- both sweeps
pub both-sweeps : (fs x y z : List ℕ) → y ≡ newton_form fs x → z ≡ expanded fs y → z ≡ interpolate byte_ops inverse fs x
both-sweeps fs x y z ey ez = ez ∙ ap (expanded fs) ey ∙ expanded-newton fs x
