-- A list added at a place of another, and to one of several blocks of one size: block q is the part of that size from index q * size on.
--
-- xor_at-zeros        an addition at a place is a sum with zeros before it
-- xor_at-nil          an addition of nothing
-- xor_at-inner        an addition further on is one of more zeros
-- part-added         a list added at the start of a part that is at least as long
-- part-kept          any other block
-- xor_at-joined       a list added to block q of joined lists
use Rattle.std.specs.Prelude.{◌≡◌, cond, List, [], ◌++◌, ℕ, ◌+◌, ◌*◌, ◌≤◌, ◌<◌, eqb, length, take, drop, replicate}
use Rattle.std.proofs.Common.{sym, ap, ap₂, ◌∙◌, append-nil, append_assoc, arith, eq-eqb, ne_eqb, length-append, take-append-drop, drop-drop, length-take-le}
use Rattle.std.proofs.Math.Decide.{dec_lt, ℕ_discrete}
use Rattle.std.proofs.lemmas.List.{length-replicate, replicate-append-replicate}
use Rattle.lists.specs.Part.{part, put_at}
use Rattle.lists.specs.Part.Laws.{length_part, part-whole, part-append-right, part-fits, part-put_at-before, part-put_at-behind}
use Rattle.lists.specs.Sum.{xor_list, xor_at}
use Rattle.lists.specs.Sum.Laws.{xor_list-append, xor_list-nil, xor_list-zeros, part-xor_list, length-xor_list, length-xor_at}
use Rattle.exchange.specs.Sequences.{joined}
use Rattle.exchange.proofs.Sequences.Laws.{part-joined, joined-parts, joined-ext, length-joined}

-- ---- a list added

pub xor_at-zeros : (d : List ℕ) (at : ℕ) (s : List ℕ) → at + length s ≤ length d → xor_at d at s ≡ xor_list d (replicate at 0 ++ s)
unfolding part xor_at put_at
xor_at-zeros d at s fits =
    ap (λ (n : ℕ). take at d ++ (sum ++ drop (at + n) d)) long
    ∙ ap₂ ◌++◌ (sym zeros) (ap (◌++◌ sum) rest ∙ sym back)
    ∙ sym (xor_list-append (take at d) (replicate at 0) (drop at d) s (before ∙ sym (length-replicate at 0)))
    ∙ ap (λ (l : List ℕ). xor_list l (replicate at 0 ++ s)) (take-append-drop at d)
  where
    k : ℕ
    k = length s

    before : length (take at d) ≡ at
    before = length-take-le at d (omega arith)

    size : length (part d at k) ≡ k
    size = length_part d at k fits

    sum : List ℕ
    sum = xor_list (part d at k) s

    long : length sum ≡ k
    long = length-xor_list (part d at k) s (omega (arith, size)) ∙ size

    zeros : xor_list (take at d) (replicate at 0) ≡ take at d
    zeros = xor_list-zeros (take at d) at (omega (arith, before))

    rest : drop (at + k) d ≡ xor_list (drop k (drop at d)) []
    rest = sym (xor_list-nil (drop k (drop at d)) ∙ drop-drop k at d)

    back : xor_list (drop at d) s ≡ sum ++ xor_list (drop k (drop at d)) []
    back =
        ap₂ xor_list (sym (take-append-drop k (drop at d))) (sym (append-nil s))
        ∙ xor_list-append (part d at k) s (drop k (drop at d)) [] size

pub xor_at-nil : (d : List ℕ) (at : ℕ) → at ≤ length d → xor_at d at [] ≡ d
xor_at-nil d at h =
    xor_at-zeros d at [] (omega arith) ∙ ap (xor_list d) (append-nil (replicate at 0)) ∙ xor_list-zeros d at h

pub xor_at-inner : (d : List ℕ) (a b : ℕ) (s : List ℕ) → a + b + length s ≤ length d → xor_at d (a + b) s ≡ xor_at d a (replicate b 0 ++ s)
xor_at-inner d a b s fits =
    xor_at-zeros d (a + b) s fits
    ∙ ap (xor_list d) (ap (λ (l : List ℕ). l ++ s) (sym (replicate-append-replicate a b 0)) ∙ append_assoc (replicate a 0) (replicate b 0) s)
    ∙ sym (xor_at-zeros d a (replicate b 0 ++ s) (omega (arith, length-append (replicate b 0) s, length-replicate {A = ℕ} b 0)))

pub part-added : (d : List ℕ) (at : ℕ) (s : List ℕ) (n : ℕ) → length s ≤ n → at + n ≤ length d → part (xor_at d at s) at n ≡ xor_list (part d at n) s
part-added d at s n h fits =
    ap (λ (l : List ℕ). part l at n) (xor_at-zeros d at s (omega arith))
    ∙ part-xor_list d (replicate at 0 ++ s) at n
    ∙ ap (xor_list (part d at n)) (behind ∙ part-whole s n h)
  where
    behind : part (replicate at 0 ++ s) at n ≡ part s 0 n
    behind =
        let e : at ≡ length {A = ℕ} (replicate at 0) + 0 = omega (arith, length-replicate {A = ℕ} at 0) in
        ap (λ (k : ℕ). part (replicate at 0 ++ s) k n) e ∙ part-append-right (replicate at 0) s 0 n

-- block q' lies before block q, or behind it
pub part-kept : (d : List ℕ) (s : List ℕ) (size n q q' : ℕ) → length s ≤ size → length d ≡ n * size → q < n → q' < n → (q' ≡ q → ⊥)
    → part (xor_at d (q * size) s) (q' * size) size ≡ part d (q' * size) size
unfolding xor_at
part-kept d s size n q q' h e l l' differ = go (dec_lt q' q)
  where
    sum : List ℕ
    sum = xor_list (part d (q * size) (length s)) s

    inside : q * size + size ≤ n * size
    inside = part-fits q n size l

    long : length sum ≡ length s
    long =
        let k = inside in
        let z : length (part d (q * size) (length s)) ≡ length s = length_part d (q * size) (length s) (omega arith) in
        length-xor_list (part d (q * size) (length s)) s (omega arith) ∙ z

    go : Dec (q' < q) → part (put_at d (q * size) sum) (q' * size) size ≡ part d (q' * size) size
    go (yes a) =
        let k = inside in
        part-put_at-before d (q * size) sum (omega (arith, long)) (q' * size) size (part-fits q' q size a)
    go (no a) =
        let k = inside in
        let z = part-fits q q' size (omega arith) in
        part-put_at-behind d (q * size) sum (omega (arith, long)) (q' * size) size (omega (arith, long))

pub xor_at-joined : (f : ℕ → List ℕ) (size n : ℕ) (s : List ℕ) (q : ℕ) → ((i : ℕ) → i < n → length (f i) ≡ size) → length s ≤ size → q < n
    → xor_at (joined f n) (q * size) s ≡ joined (λ i. cond (eqb i q) (xor_list (f i) s) (f i)) n
xor_at-joined f size n s q sized h l =
    joined-parts (xor_at (joined f n) (q * size) s) size n (length-xor_at (joined f n) (q * size) s (omega (arith, long, part-fits q n size l)) ∙ long)
    ∙ joined-ext (λ i. part (xor_at (joined f n) (q * size) s) (i * size) size) (λ i. cond (eqb i q) (xor_list (f i) s) (f i)) n (λ i k. block i k (ℕ_discrete i q))
  where
    long : length (joined f n) ≡ n * size
    long = length-joined f n size sized

    block : (i : ℕ) → i < n → Dec (i ≡ q) → part (xor_at (joined f n) (q * size) s) (i * size) size ≡ cond (eqb i q) (xor_list (f i) s) (f i)
    block i k (yes e) =
        rw (eq-eqb i q e)
        (ap (λ (j : ℕ). part (xor_at (joined f n) (j * size) s) (i * size) size) (sym e)
        ∙ part-added (joined f n) (i * size) s size h (omega (arith, long, part-fits i n size k))
        ∙ ap (λ (l : List ℕ). xor_list l s) (part-joined f size n sized i k))
    block i k (no e) = rw (ne_eqb i q e) (part-kept (joined f n) s size n q i h long l k e ∙ part-joined f size n sized i k)
