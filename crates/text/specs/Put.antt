-- Writes into a list, element by element and one behind the other.
--
-- put_at-sets       a write is its elements' stores one after the other
-- put_at-join       two writes, the second behind the first, are one write
use Rattle.std.specs.Prelude.{◌≡◌, ℕ, suc, ◌+◌, ◌≤◌, List, [], ◌∷◌, ◌++◌, length, take, drop, set}
use Rattle.std.proofs.Common.{sym, ap, ◌∙◌, add-zero, add-suc, suc-add, arith, append_assoc, length-append}
use Rattle.std.proofs.lemmas.List.Edits.{sets, sets-eq}
use Rattle.std.proofs.Math.Seq.{length-sets}
use Rattle.lists.specs.Part.{put_at}

pub put_at-sets : (d : List ℕ) (at : ℕ) (s : List ℕ) → at + length s ≤ length d → sets d at s ≡ put_at d at s
unfolding put_at
put_at-sets d at s h = sets-eq s d at h ∙ append_assoc (take at d) s (drop (at + length s) d)

pub sets-append : (d : List ℕ) (at : ℕ) (a b : List ℕ) → sets d at (a ++ b) ≡ sets (sets d at a) (at + length a) b
sets-append d at [] b = ap (λ (k : ℕ). sets d k b) (sym (add-zero at))
sets-append d at (x ∷ a) b =
    sets-append (set d at x) (suc at) a b ∙ ap (λ (k : ℕ). sets (sets (set d at x) (suc at) a) k b) (suc-add at (length a) ∙ sym (add-suc at (length a)))

pub put_at-join : (d : List ℕ) (at : ℕ) (a b : List ℕ) → at + length a + length b ≤ length d
    → put_at (put_at d at a) (at + length a) b ≡ put_at d at (a ++ b)
put_at-join d at a b h =
    let e : length (sets d at a) ≡ length d = length-sets d at a in
    let k : at + length (a ++ b) ≤ length d = rw (length-append a b) (omega arith) in
    ap (λ (z : List ℕ). put_at z (at + length a) b) (sym (put_at-sets d at a (omega arith)))
    ∙ sym (put_at-sets (sets d at a) (at + length a) b (omega arith)) ∙ sym (sets-append d at a b) ∙ put_at-sets d at (a ++ b) k
