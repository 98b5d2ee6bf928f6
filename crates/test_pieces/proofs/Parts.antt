-- The next part of a slice absorbed, and the next part of a slice filled.
use mathlib.Core.Path.{◌≡◌, sym, ap, ◌∙◌}
use mathlib.Core.List.{List, ◌++◌, append_assoc}
use Prim.Native.Nat.{ℕ, ◌+◌, ◌-◌, ◌≤◌}
use native.Mathlib.Omega.{arith}
use lib.ListN.{length, take, drop, length-append, length-drop}
use lib.Seq.{take-add, take_at, drop_at, drop-drop}
use Rattle.shake256.specs.declared.Sponge.{Sponge}
use Rattle.shake256.specs.Stream.{absorbed, after, squeezed}
use Rattle.shake256.proofs.Sponges.{absorbed-append, squeezed-add, after-add, length-squeezed}

to : (i e : ℕ) → i ≤ e → i + (e - i) ≡ e
to i e h = omega arith

pub absorbed-part : (s t : Sponge) (m : List ℕ) (i e : ℕ) → i ≤ e → t ≡ absorbed s (take i m) → absorbed t (take (e - i) (drop i m)) ≡ absorbed s (take e m)
absorbed-part s t m i e h is = ap (λ (z : Sponge). absorbed z (take (e - i) (drop i m))) is
    ∙ sym (absorbed-append s (take i m) (take (e - i) (drop i m)))
    ∙ ap (absorbed s) (sym (take-add i (e - i) m) ∙ ap (λ (n : ℕ). take n m) (to i e h))

pub after-part : (s t : Sponge) (i e : ℕ) → i ≤ e → t ≡ after s i → after t (e - i) ≡ after s e
after-part s t i e h is = ap (λ (z : Sponge). after z (e - i)) is ∙ sym (after-add s i (e - i)) ∙ ap (after s) (to i e h)

pub squeezed-part : (s t : Sponge) (o d : List ℕ) (i e : ℕ) → i ≤ e → t ≡ after s i → o ≡ squeezed s i ++ drop i d
    → take i o ++ (squeezed t (e - i) ++ drop (e - i) (drop i o)) ≡ squeezed s e ++ drop e d
squeezed-part s t o d i e h t-is o_is = (λ j. take i (o_is j) ++ (squeezed (t-is j) (e - i) ++ drop (e - i) (drop i (o_is j))))
    ∙ (λ j. take_at (squeezed s i) (drop i d) i (length-squeezed s i) j
    ++ (squeezed (after s i) (e - i) ++ drop (e - i) (drop_at (squeezed s i) (drop i d) i (length-squeezed s i) j)))
    ∙ sym (append_assoc (squeezed s i) (squeezed (after s i) (e - i)) (drop (e - i) (drop i d)))
    ∙ (λ j. sym (squeezed-add s i (e - i)) j ++ drop-drop (e - i) i d j) ∙ ap (λ (n : ℕ). squeezed s n ++ drop n d) (to i e h)

pub length_front : (s : Sponge) (d : List ℕ) (e : ℕ) → e ≤ length d → length (squeezed s e ++ drop e d) ≡ length d
length_front s d e h = length-append (squeezed s e) (drop e d) ∙ omega (arith, length-squeezed s e, length-drop e d)
