-- Bytes taken and given one by one are FIPS 202's blocks: a block added to the state, the padding, absorbing, squeezing.
use mathlib.Core.Path.{refl, sym, ap, ◌≡◌, ◌∙◌}
use mathlib.Core.Logic.{⊎_elim}
use mathlib.Core.List.{List, [], ◌++◌, ◌∷◌}
use Prim.Native.Nat.{ℕ, zero, suc, ◌+◌, ◌-◌, ◌*◌, ◌/◌, ◌%◌, ◌^◌, ◌≤◌, ◌<◌}
use native.Mathlib.Nat.{zero-mul, add-zero, eq-zero-or-pos}
use native.Mathlib.Numerals.{add-one}
use native.Mathlib.Omega.{arith}
use lib.Bits.{bit_xor, xor_zero_r}
use lib.ListN.{length, take, drop, get_or, set, replicate, length-append, length-replicate, length-drop, length-take, take-append-drop, drop_of_length-le}
use lib.Seq.{set-set, set-get_or, set_at, get_or_at, append_snoc, length-take-le, take-append-add, take-append-le}
use Rattle.fips.specs.Permutation.{keccak_f}
use Rattle.keccak.proofs.Lengths.{length-keccak_f}
use Rattle.fips.specs.Parameters.{rate, domain, final}
use Rattle.fips.specs.Bytes.{word, byte_at, bytes_at}
use Rattle.shake256.specs.Bytes.{xor_at, xor_bytes}
use Rattle.fips.specs.Shake256.{pad, added, absorb, squeeze}
use Rattle.shake256.specs.declared.Sponge.{Sponge}
use Rattle.shake256.specs.Stream.{ready, put, absorbed, finished, squeezed}
use Rattle.shake256.proofs.Xor.{xor_assoc}
use Rattle.shake256.proofs.Lanes.{one_more, set-read, xor_bytes-lane, xor_bytes-append}
use Rattle.shake256.proofs.Sponges.{mk, absorbed-append, absorbed-ready, absorbed-run, ready-full, ready-room, ready_at, ready-absorbed, after_run, squeezed-add, squeezed-ready, squeezed-run, length-bytes_at}

-- ---- a block added to the state

added-nothing : (S : List ℕ) → added S [] ≡ S
unfolding added word
added-nothing [] = refl
added-nothing (a ∷ S) = (λ i. xor_zero_r a i ∷ added-nothing S i)

-- the lanes from lane k on, the first k being p
added-from : (p S P : List ℕ) (k : ℕ) → length p ≡ k → length P ≤ 8 * length S → xor_bytes (p ++ S) (8 * k) P ≡ p ++ added S P
unfolding added xor_bytes
added-from p [] [] k e h = refl
added-from p [] (v ∷ P) k e h = absurd (omega arith)
added-from p (a ∷ S) P k e h = ap (xor_bytes (p ++ (a ∷ S)) (8 * k)) (sym (take-append-drop 8 P))
    ∙ xor_bytes-append (p ++ (a ∷ S)) (8 * k) (take 8 P) (drop 8 P) ∙ ap (λ (l : List ℕ). xor_bytes l (8 * k + length (take 8 P)) (drop 8 P))
    (xor_bytes-lane (p ++ (a ∷ S)) k (take 8 P) (simp length-take (omega arith))
    ∙ (λ i. set (p ++ (a ∷ S)) k (bit_xor (get_or_at p a S 0 k e i) (word (take 8 P)))) ∙ set_at p a S (bit_xor a (word (take 8 P))) k e
    ∙ sym (append_snoc p (bit_xor a (word (take 8 P))) S)) ∙ rest (bit_xor a (word (take 8 P)))
    (λ more. added-from (p ++ (bit_xor a (word (take 8 P)) ∷ [])) S (drop 8 P) (k + 1) (longer (bit_xor a (word (take 8 P)))) (simp length-drop (omega arith)))
    ∙ append_snoc p (bit_xor a (word (take 8 P))) (added S (drop 8 P))
  where
    longer : (b : ℕ) → length (p ++ (b ∷ [])) ≡ k + 1
    longer b = length-append p (b ∷ []) ∙ ap (λ (n : ℕ). n + 1) e

    next : 8 ≤ length P → 8 * k + length (take 8 P) ≡ 8 * (k + 1)
    next more = omega (arith, length-take-le 8 P more)

    rest : (b : ℕ) → (8 ≤ length P → xor_bytes ((p ++ (b ∷ [])) ++ S) (8 * (k + 1)) (drop 8 P) ≡ (p ++ (b ∷ [])) ++ added S (drop 8 P))
        → xor_bytes ((p ++ (b ∷ [])) ++ S) (8 * k + length (take 8 P)) (drop 8 P) ≡ (p ++ (b ∷ [])) ++ added S (drop 8 P)
    rest b later = ⊎_elim
        (λ short. let none : drop 8 P ≡ [] = drop_of_length-le P {i = 8} (omega arith) in
        ap (xor_bytes ((p ++ (b ∷ [])) ++ S) (8 * k + length (take 8 P))) none
        ∙ ap (λ (l : List ℕ). (p ++ (b ∷ [])) ++ l) (sym (ap (added S) none ∙ added-nothing S)))
        (λ long. let more : 8 ≤ length P = omega arith in ap (λ (j : ℕ). xor_bytes ((p ++ (b ∷ [])) ++ S) j (drop 8 P)) (next more) ∙ later more)
        (eq-zero-or-pos (length P - 7))

added_is : (S P : List ℕ) → length P ≤ 8 * length S → xor_bytes S 0 P ≡ added S P
added_is S P h = added-from [] S P 0 refl h

-- ---- the padding

xor_at-zero : (a : List ℕ) (i : ℕ) → xor_at a i 0 ≡ a
xor_at-zero a i = ap (λ (v : ℕ). set a (i / 8) (bit_xor (get_or a (i / 8) 0) v)) (zero-mul (2 ^ (8 * (i % 8))))
    ∙ ap (set a (i / 8)) (xor_zero_r (get_or a (i / 8) 0)) ∙ set-get_or a (i / 8) 0

xor-zeros : (a : List ℕ) (i k : ℕ) (vs : List ℕ) → xor_bytes a i (replicate k 0 ++ vs) ≡ xor_bytes a (i + k) vs
unfolding xor_bytes
xor-zeros a i zero vs = ap (λ (j : ℕ). xor_bytes a j vs) (sym (add-zero i))
xor-zeros a i (suc k) vs = ap (λ (b : List ℕ). xor_bytes b (i + 1) (replicate k 0 ++ vs)) (xor_at-zero a i) ∙ xor-zeros a (i + 1) k vs
    ∙ ap (λ (j : ℕ). xor_bytes a j vs) (one_more i k)

xor_at-twice : (a : List ℕ) (i v w : ℕ)
    → xor_at (xor_at a i v) i w ≡ set a (i / 8) (bit_xor (get_or a (i / 8) 0) (bit_xor (v * 2 ^ (8 * (i % 8))) (w * 2 ^ (8 * (i % 8)))))
xor_at-twice a i v w = set-set a (i / 8) _ _
    ∙ set-read a (i / 8) (bit_xor (get_or a (i / 8) 0) (v * 2 ^ (8 * (i % 8)))) (λ y. bit_xor y (w * 2 ^ (8 * (i % 8))))
    ∙ ap (set a (i / 8)) (xor_assoc (get_or a (i / 8) 0) (v * 2 ^ (8 * (i % 8))) (w * 2 ^ (8 * (i % 8))))

-- the padding of the last q bytes of a block: its first and its last byte
xor-pad : (a : List ℕ) (n q : ℕ) → n + q ≡ rate → 0 < q → xor_bytes a n (pad q) ≡ xor_at (xor_at a n domain) (rate - 1) final
unfolding xor_bytes
xor-pad a n zero e h = absurd (omega arith)
xor-pad a n (suc zero) e h = let last : n ≡ rate - 1 = omega arith in
    ap (λ (j : ℕ). xor_at a j (bit_xor domain final)) last
    ∙ sym (ap (λ (j : ℕ). xor_at (xor_at a j domain) (rate - 1) final) last ∙ xor_at-twice a (rate - 1) domain final)
xor-pad a n (suc (suc k)) e h = let at_last : (n + 1) + k ≡ rate - 1 = omega arith in
    xor-zeros (xor_at a n domain) (n + 1) k (final ∷ []) ∙ ap (λ (j : ℕ). xor_at (xor_at a n domain) j final) at_last

pub length-pad : (q : ℕ) → length (pad q) ≡ q
length-pad zero = refl
length-pad (suc zero) = refl
length-pad (suc (suc k)) = ap suc (simp (length-append, length-replicate) (add-one k))

-- to finish is to absorb the padding
pub finished-pad : (s : Sponge) → finished s ≡ absorbed s (pad (rate - (ready s).at))
unfolding finished
finished-pad s =
    let t = ready s in let q = rate - t.at in let below : t.at < rate = ready_at s in let full : t.at + q ≡ rate = omega arith in
    let long : length (pad q) ≡ q = length-pad q in
    sym (absorbed-ready s (pad q) (omega (arith, long)) ∙ absorbed-run t.lanes t.at (pad q) (omega (arith, long))
    ∙ (λ i. mk (xor-pad t.lanes t.at q full (omega arith) i) ((ap (λ (k : ℕ). t.at + k) long ∙ full) i)))

-- ---- the place in the block

put-at : (s : Sponge) (v : ℕ) → (ready (put s v)).at ≡ ((ready s).at + 1) % rate
put-at s v = let below : (ready s).at < rate = ready_at s in let l = xor_at (ready s).lanes (ready s).at v in
    ⊎_elim (λ e. ap (λ (z : Sponge). z.at) (ready-full l ((ready s).at + 1) (omega arith)) ∙ omega arith)
    (λ e. ap (λ (z : Sponge). z.at) (ready-room l ((ready s).at + 1) (omega arith)) ∙ omega arith) (eq-zero-or-pos (rate - 1 - (ready s).at))

pub absorbed-at : (s : Sponge) (m : List ℕ) → (ready (absorbed s m)).at ≡ ((ready s).at + length m) % rate
unfolding absorbed
absorbed-at s [] = let below : (ready s).at < rate = ready_at s in omega arith
absorbed-at s (v ∷ m) = absorbed-at (put s v) m ∙ omega (arith, put-at s v, ready_at s)

-- ---- blocks in

pub absorbed-blocks : (k : ℕ) (P S : List ℕ) → length P ≡ rate * k → length S ≡ 25 → ready (absorbed (mk S 0) P) ≡ mk (absorb k P S) 0
unfolding absorbed absorb
absorbed-blocks zero [] S e h = refl
absorbed-blocks zero (v ∷ P) S e h = absurd (omega arith)
absorbed-blocks (suc k) P S e h = let one : length (take rate P) ≡ rate = length-take-le rate P (omega arith) in
    let x = xor_bytes S 0 (take rate P) in
    ap (λ (l : List ℕ). ready (absorbed (mk S 0) l)) (sym (take-append-drop rate P)) ∙ ap ready (absorbed-append (mk S 0) (take rate P) (drop rate P)
    ∙ ap (λ (z : Sponge). absorbed z (drop rate P)) (absorbed-run S 0 (take rate P) (omega (arith, one))))
    ∙ ready-absorbed (mk x (0 + length (take rate P))) (drop rate P)
    ∙ ap (λ (z : Sponge). ready (absorbed z (drop rate P))) (ready-full x (0 + length (take rate P)) (omega (arith, one)))
    ∙ ap (λ (l : List ℕ). ready (absorbed (mk (keccak_f l) 0) (drop rate P))) (added_is S (take rate P) (omega (arith, one)))
    ∙ absorbed-blocks k (drop rate P) (keccak_f (added S (take rate P))) (simp length-drop (omega arith)) (length-keccak_f (added S (take rate P)))

-- ---- blocks out

take-bytes_at : (S : List ℕ) (i n r : ℕ) → n ≤ r → take n (bytes_at S i r) ≡ bytes_at S i n
take-bytes_at S i zero r h = refl
take-bytes_at S i (suc n) zero h = absurd (omega arith)
take-bytes_at S i (suc n) (suc r) h = ap (λ (l : List ℕ). byte_at S i ∷ l) (take-bytes_at S (suc i) n r (omega arith))

pub squeezed-blocks : (k n : ℕ) (S : List ℕ) → n ≤ rate * k → squeezed (mk S 0) n ≡ take n (squeeze k S)
unfolding squeezed squeeze
squeezed-blocks zero zero S h = refl
squeezed-blocks zero (suc n) S h = absurd (omega arith)
squeezed-blocks (suc k) n S h = ⊎_elim
    (λ last. let within : n ≤ rate = omega arith in squeezed-run S 0 n (omega arith)
    ∙ sym (take-append-le n (bytes_at S 0 rate) (squeeze k (keccak_f S)) (omega (arith, length-bytes_at S 0 rate)) ∙ take-bytes_at S 0 n rate within))
    (λ more. let left = n - rate in let sum : n ≡ rate + left = omega arith in ap (squeezed (mk S 0)) sum ∙ squeezed-add (mk S 0) rate left
    ∙ (λ i. squeezed-run S 0 rate (omega arith) i ++ (ap (λ (z : Sponge). squeezed z left) (after_run S 0 rate (omega arith)) ∙ squeezed-ready (mk S rate) left
    ∙ squeezed-blocks k left (keccak_f S) (omega arith)) i)
    ∙ sym (ap (λ (m : ℕ). take m (bytes_at S 0 rate ++ squeeze k (keccak_f S))) (sum ∙ ap (λ (m : ℕ). m + left) (sym (length-bytes_at S 0 rate)))
    ∙ take-append-add (bytes_at S 0 rate) (squeeze k (keccak_f S)) left)) (eq-zero-or-pos (n - rate))
