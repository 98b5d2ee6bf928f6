-- Parts of one size, one after another in a slice.
--
-- within-blocks, next-block, length-block   part i lies within, the next part starts behind it, and how long it is when lent
-- Blocks f size d q i          the first i parts of d, of one size, are f 0 to f (i−1) by now
-- blocks-none, -turn, -end     they are written from the front on, each into its lent part
-- joined-split, blocks_more    the same for several parts at once
use Rattle.std.specs.Prelude.{◌≡◌, refl, List, ◌++◌, ℕ, zero, suc, ◌+◌, ◌-◌, ◌*◌, ◌≤◌, ◌<◌, length, take, drop}
use Rattle.std.proofs.Common.{sym, ap₂, ◌∙◌, append_assoc, append-nil, suc-mul, zero-mul, one-mul, add-mul, mul-le-mul_right, add-one, length-append}
use Rattle.std.proofs.Math.Path.{ap}
use native.Mathlib.Omega.{arith}
use Rattle.lists.specs.Part.{put_at}
use Rattle.lists.specs.Part.Laws.{lent_back, part-fits, put_at-put_at, put_at-whole}
pub use Rattle.lists.specs.Part.Laws.{length-lent as length-block}
use Rattle.exchange.specs.Sequences.{joined}

pub within-blocks : (i n size a m : ℕ) → i < n → a ≡ i * size → m ≡ n * size → a + size ≤ m
within-blocks i n size a m l ea em = let f = part-fits i n size l in omega arith

pub next-block : (i size a : ℕ) → a ≡ i * size → a + size ≡ (i + 1) * size
next-block i size a e = let f = suc-mul i size in ap (λ (m : ℕ). m + size) e ∙ sym (ap (λ (m : ℕ). m * size) (add-one i) ∙ f)

-- ---- blocks

pub record Blocks (f : ℕ → List ℕ) (size : ℕ) (d q : List ℕ) (i : ℕ) : Type 0 where
  pub sized : length (joined f i) ≡ i * size
  pub written : q ≡ put_at d 0 (joined f i)

pub blocks-none : (f : ℕ → List ℕ) (size : ℕ) (d : List ℕ) → Blocks f size d d 0
unfolding put_at joined
blocks-none f size d = record { sized = sym (zero-mul size); written = refl }

pub joined-split : (f : ℕ → List ℕ) (i c : ℕ) → joined f (i + c) ≡ joined f i ++ joined (λ j. f (i + j)) c
unfolding joined
joined-split f i zero = let e : i + 0 ≡ i = omega arith in ap (joined f) e ∙ sym (append-nil (joined f i))
joined-split f i (suc c) =
    let e : i + suc c ≡ suc (i + c) = omega arith in rw (e, joined-split f i c) (append_assoc (joined f i) (joined (λ j. f (i + j)) c) (f (i + c)))

module _ (f : ℕ → List ℕ) (size n : ℕ) (d : List ℕ) (room : length d ≡ n * size) where
  -- u is what is left in the part of q that starts at b
  pub blocks_more : (q u : List ℕ) (i c b z : ℕ) → i + c ≤ n → b ≡ i * size → z ≡ c * size → length u ≡ z → u ≡ joined (λ j. f (i + j)) c → Blocks f size d q i
      → Blocks f size d (take b q ++ (u ++ drop (b + z - b) (drop b q))) (i + c)
  blocks_more q u i c b z l eb ez lu eu g =
      let e = g.sized in
      let a = add-mul i c size in
      let m = mul-le-mul_right size l in
      let y : z ≡ b + z - b = omega arith in
      record {
        sized = ap length (joined-split f i c) ∙ length-append (joined f i) _ ∙ ap₂ ◌+◌ e (ap length (sym eu) ∙ lu ∙ ez) ∙ sym a;
        written = lent_back q u b (b + z) (omega arith) (lu ∙ y)
            ∙ rw (g.written, eb, ← e, joined-split f i c, ← eu) (put_at-put_at d (joined f i) u (omega arith));
      }

  pub blocks-turn : (q u : List ℕ) (i b : ℕ) → i < n → b ≡ i * size → length u ≡ size → u ≡ f i → Blocks f size d q i
      → Blocks f size d (take b q ++ (u ++ drop (b + size - b) (drop b q))) (i + 1)
  unfolding joined
  blocks-turn q u i b l eb lu eu g =
      let z : i ≡ i + 0 = omega arith in
      blocks_more q u i 1 b size (omega arith) eb (sym (one-mul size)) lu (eu ∙ ap f z) g

  pub blocks_end : (q : List ℕ) (i : ℕ) → i ≡ n → Blocks f size d q i → q ≡ joined f n
  blocks_end q i e g = g.written ∙ put_at-whole d (joined f i) (g.sized ∙ ap (λ (j : ℕ). j * size) e ∙ sym room) ∙ ap (joined f) e
