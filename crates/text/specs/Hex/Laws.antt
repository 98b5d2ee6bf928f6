-- The laws of hex text.
--
-- length-hex_text       two digits a byte
-- hex_text-append       the hex of joined bytes is joined hex
-- hex_text-more         a loop that writes one byte more
use Rattle.std.specs.Prelude.{◌≡◌, refl, ℕ, ◌+◌, ◌*◌, ◌/◌, ◌%◌, ◌<◌, List, [], ◌∷◌, ◌++◌, length, take, get_or, set}
use Rattle.std.proofs.Common.{sym, ap, ◌∙◌, add-one, arith, take-suc, length-take-le}
use Rattle.std.proofs.lemmas.List.Edits.{sets}
use Rattle.text.specs.Put.{sets-append}
use Rattle.text.specs.Hex.{hex_digit, hex_text}

pub length-hex_text : (s : List ℕ) → length (hex_text s) ≡ 2 * length s
unfolding hex_text
length-hex_text [] = refl
length-hex_text (b ∷ s) = let e = length-hex_text s in omega arith

pub hex_text-append : (a b : List ℕ) → hex_text (a ++ b) ≡ hex_text a ++ hex_text b
unfolding hex_text
hex_text-append [] b = refl
hex_text-append (x ∷ a) b = ap (λ (l : List ℕ). hex_digit (x / 16) ∷ hex_digit (x % 16) ∷ l) (hex_text-append a b)

pub hex_text-more : (d : List ℕ) (at : ℕ) (s : List ℕ) (i : ℕ) → i < length s
    → set (set (sets d at (hex_text (take i s))) (at + 2 * i) (hex_digit (get_or s i 0 / 16))) (at + 2 * i + 1) (hex_digit (get_or s i 0 % 16))
    ≡ sets d at (hex_text (take (i + 1) s))
unfolding hex_text
hex_text-more d at s i h =
    let b : ℕ = get_or s i 0 in
    let k : length (hex_text (take i s)) ≡ 2 * i = length-hex_text (take i s) ∙ ap (λ (n : ℕ). 2 * n) (length-take-le i s (omega arith)) in
    let e : take (i + 1) s ≡ take i s ++ (b ∷ []) = ap (λ (n : ℕ). take n s) (add-one i) ∙ take-suc s i 0 h in
    ap (λ (n : ℕ). set (set (sets d at (hex_text (take i s))) (at + 2 * i) (hex_digit (b / 16))) n (hex_digit (b % 16))) (add-one (at + 2 * i))
    ∙ ap (λ (n : ℕ). sets (sets d at (hex_text (take i s))) (at + n) (hex_digit (b / 16) ∷ hex_digit (b % 16) ∷ [])) (sym k)
    ∙ sym (sets-append d at (hex_text (take i s)) (hex_text (b ∷ [])))
    ∙ ap (λ (t : List ℕ). sets d at t) (sym (hex_text-append (take i s) (b ∷ [])) ∙ ap hex_text (sym e))
