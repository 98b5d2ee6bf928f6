-- The vector, part after part: x_A is written, H'x_A behind it, and y is added there.
--
--   vector-fits      the rows that are asked for are in the matrix
--   vector-made      what the three steps leave
use Rattle.std.specs.Prelude.{◌≡◌, List, ◌++◌, ℕ, ◌+◌, ◌-◌, ◌*◌, ◌≤◌, length, take, drop}
use Rattle.std.proofs.Common.{ap, ap₂, ◌∙◌, arith, length-append, length-drop}
use Rattle.std.proofs.Math.Seq.{take-append_seam, drop-append_seam}
use Rattle.lists.specs.Part.{put_at}
use Rattle.lists.specs.Part.Laws.{tail-part, tail-back}
use Rattle.lists.specs.Sum.{xor_list}
use Rattle.relation.specs.Key.{rows, vector_of}

pub vector-fits : (p xa y : List ℕ) (n : ℕ) → length p ≡ length xa + length y → length y * length xa ≤ n
    → length (take (length p - length xa) (drop (length xa) p)) * length xa ≤ n
vector-fits p xa y n l h =
    let e : length (take (length p - length xa) (drop (length xa) p)) ≡ length y = ap length (tail-part p (length xa)) ∙ length-drop (length xa) p ∙ omega arith in
    rw e h

pub vector-made : (h y xa x p z q u : List ℕ) → length x ≡ length xa + length y → p ≡ put_at x 0 xa
    → z ≡ rows (length (take (length p - length xa) (drop (length xa) p))) h xa
    → q ≡ take (length xa) p ++ (z ++ drop (length p - length xa) (drop (length xa) p))
    → u ≡ xor_list (take (length q - length xa) (drop (length xa) q)) y
    → take (length xa) q ++ (u ++ drop (length q - length xa) (drop (length xa) q)) ≡ vector_of h y xa
unfolding put_at vector_of
vector-made h y xa x p z q u l ep ez eq eu =
    let k : ℕ = length xa in
    let f : p ≡ xa ++ drop (0 + k) x = ep in
    let a : take k p ≡ xa = ap (take k) f ∙ take-append_seam xa (drop (0 + k) x) in
    let d : drop k p ≡ drop (0 + k) x = ap (drop k) f ∙ drop-append_seam xa (drop (0 + k) x) in
    let n : length (take (length p - k) (drop k p)) ≡ length y
    = ap length (tail-part p k ∙ d) ∙ length-drop (0 + k) x ∙ omega arith in
    let m : k ≤ length p = omega (arith, ap length f, length-append xa (drop (0 + k) x)) in
    let g : q ≡ xa ++ z = eq ∙ tail-back p z k m ∙ ap (λ (r : List ℕ). r ++ z) a in
    let o : k ≤ length q = omega (arith, ap length g, length-append xa z) in
    tail-back q u k o
    ∙ ap₂ (λ (r s : List ℕ). r ++ s) (ap (take k) g ∙ take-append_seam xa z)
    (eu ∙ ap (λ (r : List ℕ). xor_list r y) (tail-part q k ∙ ap (drop k) g ∙ drop-append_seam xa z ∙ ez ∙ ap (λ (i : ℕ). rows i h xa) n))
