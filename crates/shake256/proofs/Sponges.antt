-- Laws of the sponge that takes and gives bytes: pieces, and runs of bytes within a block.
use mathlib.Core.Path.{refl, sym, ap, ◌≡◌, ◌∙◌}
use mathlib.Core.Logic.{⊎_elim}
use mathlib.Core.List.{List, [], ◌++◌, ◌∷◌}
use Prim.Native.Nat.{ℕ, zero, suc, ◌+◌, ◌-◌, ◌≤◌, ◌<◌}
use native.Mathlib.Nat.{zero-add, add-zero, suc-add, eq-zero-or-pos}
use native.Mathlib.Numerals.{add-one}
use native.Mathlib.Omega.{arith}
use borrow.Author.Tests.{le-leb, lt-leb}
use lib.ListN.{length}
use Rattle.fips.specs.Permutation.{keccak_f}
use Rattle.fips.specs.Parameters.{rate}
use Rattle.fips.specs.Bytes.{byte_at, bytes_at}
use Rattle.shake256.specs.Bytes.{xor_at, xor_bytes}
use Rattle.shake256.specs.declared.Sponge.{Sponge}
use Rattle.shake256.specs.Stream.{ready, put, absorbed, next, after, squeezed}
use Rattle.shake256.proofs.Lanes.{one_more}

abbrev pub mk : List ℕ → ℕ → Sponge
mk l n = record { lanes = l; at = n }

-- ---- pieces

pub absorbed-append : (s : Sponge) (x y : List ℕ) → absorbed s (x ++ y) ≡ absorbed (absorbed s x) y
unfolding absorbed
absorbed-append s [] y = refl
absorbed-append s (v ∷ x) y = absorbed-append (put s v) x y

pub squeezed-add : (s : Sponge) (m n : ℕ) → squeezed s (m + n) ≡ squeezed s m ++ squeezed (after s m) n
unfolding squeezed after
squeezed-add s zero n = rw zero-add
squeezed-add s (suc m) n = rw suc-add (ap (λ (l : List ℕ). byte_at (ready s).lanes (ready s).at ∷ l) (squeezed-add (next s) m n))

pub after-add : (s : Sponge) (m n : ℕ) → after s (m + n) ≡ after (after s m) n
unfolding after
after-add s zero n = rw zero-add
after-add s (suc m) n = rw suc-add (after-add (next s) m n)

pub length-squeezed : (s : Sponge) (n : ℕ) → length (squeezed s n) ≡ n
unfolding squeezed
length-squeezed s zero = refl
length-squeezed s (suc n) = ap suc (length-squeezed (next s) n)

-- ---- room in the block

pub ready-full : (l : List ℕ) (n : ℕ) → rate ≤ n → ready (mk l n) ≡ mk (keccak_f l) 0
ready-full l n h = rw (le-leb rate n h)

pub ready-room : (l : List ℕ) (n : ℕ) → n < rate → ready (mk l n) ≡ mk l n
ready-room l n h = rw (lt-leb rate n h)

room : (s : Sponge) → ((ready s).at < rate) × (ready (ready s) ≡ ready s)
room s = ⊎_elim full free (eq-zero-or-pos (rate - s.at))
  where
    full : rate - s.at ≡ 0 → ((ready s).at < rate) × (ready (ready s) ≡ ready s)
    full e = let h : rate ≤ s.at = omega arith in
        let is = ready-full s.lanes s.at h in (omega (arith, ap (λ (z : Sponge). z.at) is), ap ready is ∙ sym is)

    free : 0 < rate - s.at → ((ready s).at < rate) × (ready (ready s) ≡ ready s)
    free e = let h : s.at < rate = omega arith in
        let is = ready-room s.lanes s.at h in (omega (arith, ap (λ (z : Sponge). z.at) is), ap ready is)

pub ready_at : (s : Sponge) → (ready s).at < rate
ready_at s = (room s).0

-- a sponge that is made ready takes and gives the same bytes
pub ready-absorbed : (s : Sponge) (vs : List ℕ) → ready (absorbed s vs) ≡ ready (absorbed (ready s) vs)
unfolding absorbed
ready-absorbed s [] = sym (room s).1
ready-absorbed s (v ∷ vs) = ap (λ (z : Sponge). ready (absorbed (mk (xor_at z.lanes z.at v) (z.at + 1)) vs)) (sym (room s).1)

pub absorbed-ready : (s : Sponge) (vs : List ℕ) → 0 < length vs → absorbed s vs ≡ absorbed (ready s) vs
unfolding absorbed
absorbed-ready s [] h = absurd (omega arith)
absorbed-ready s (v ∷ vs) h = ap (λ (z : Sponge). absorbed (mk (xor_at z.lanes z.at v) (z.at + 1)) vs) (sym (room s).1)

pub squeezed-ready : (s : Sponge) (n : ℕ) → squeezed s n ≡ squeezed (ready s) n
unfolding squeezed
squeezed-ready s zero = refl
squeezed-ready s (suc n) = ap (λ (z : Sponge). byte_at z.lanes z.at ∷ squeezed (mk z.lanes (z.at + 1)) n) (sym (room s).1)

pub after-ready : (s : Sponge) (n : ℕ) → 0 < n → after s n ≡ after (ready s) n
unfolding after
after-ready s zero h = absurd (omega arith)
after-ready s (suc n) h = ap (λ (z : Sponge). after (mk z.lanes (z.at + 1)) n) (sym (room s).1)

-- ---- runs of bytes within a block

pub absorbed-run : (l : List ℕ) (n : ℕ) (vs : List ℕ) → n + length vs ≤ rate → absorbed (mk l n) vs ≡ mk (xor_bytes l n vs) (n + length vs)
unfolding absorbed xor_bytes
absorbed-run l n [] h = ap (mk l) (sym (add-zero n))
absorbed-run l n (v ∷ vs) h = ap (λ (z : Sponge). absorbed (mk (xor_at z.lanes z.at v) (z.at + 1)) vs) (ready-room l n (omega arith))
    ∙ absorbed-run (xor_at l n v) (n + 1) vs (omega arith) ∙ ap (mk (xor_bytes (xor_at l n v) (n + 1) vs)) (one_more n (length vs))

pub squeezed-run : (l : List ℕ) (n r : ℕ) → n + r ≤ rate → squeezed (mk l n) r ≡ bytes_at l n r
unfolding squeezed
squeezed-run l n zero h = refl
squeezed-run l n (suc r) h = ap (λ (z : Sponge). byte_at z.lanes z.at ∷ squeezed (mk z.lanes (z.at + 1)) r) (ready-room l n (omega arith))
    ∙ ap (λ (vs : List ℕ). byte_at l n ∷ vs) (squeezed-run l (n + 1) r (omega arith) ∙ ap (λ (k : ℕ). bytes_at l k r) (add-one n))

pub after_run : (l : List ℕ) (n r : ℕ) → n + r ≤ rate → after (mk l n) r ≡ mk l (n + r)
unfolding after
after_run l n zero h = ap (mk l) (sym (add-zero n))
after_run l n (suc r) h = ap (λ (z : Sponge). after (mk z.lanes (z.at + 1)) r) (ready-room l n (omega arith))
    ∙ after_run l (n + 1) r (omega arith) ∙ ap (mk l) (one_more n r)

pub length-bytes_at : (l : List ℕ) (i n : ℕ) → length (bytes_at l i n) ≡ n
length-bytes_at l i zero = refl
length-bytes_at l i (suc n) = ap suc (length-bytes_at l (suc i) n)
