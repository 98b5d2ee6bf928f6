-- Blocks of points that are filled position after position.
--
-- Filled f d at n           the first n points of the block of d from place at on are f 0 to f (n−1)
-- length-point              a point written keeps the length
-- filled-keep, filled_more  a point written outside of them, and one written next
-- filled-block              a filled block
use Rattle.std.specs.Prelude.{◌≡◌, refl, ◌⊎◌, List, ◌++◌, ℕ, zero, suc, ◌+◌, ◌*◌, ◌≤◌, ◌<◌, length, take, drop}
use Rattle.std.proofs.Common.{sym, ap, ap₂, ◌∙◌, inl, inr, arith, drop-drop, take-add}
use Rattle.std.proofs.Math.Decide.{ℕ_discrete}
use Rattle.lists.specs.Part.{part, put_at}
use Rattle.lists.specs.Part.Laws.{length-put_at, part-put_at-same, part-put_at-before, part-put_at-behind}
use Rattle.tower.specs.Field.{Point, bytes_of}
use Rattle.exchange.specs.Sequences.{joined}
use Rattle.exchange.specs.Reading.{encode}
use Rattle.exchange.proofs.Reading.Laws.{length-bytes_of}

abbrev pub Filled : (ℕ → Point) → List ℕ → ℕ → ℕ → Type 0
Filled f d at n = (i : ℕ) → i < n → part d (at + 4 * i) 4 ≡ bytes_of (f i)

module _ (d : List ℕ) (q : ℕ) (x : Point) (fits : q + 4 ≤ length d) where
  room : q + length (bytes_of x) ≤ length d
  room = let e = length-bytes_of x in omega arith

  pub length-point : length (put_at d q (bytes_of x)) ≡ length d
  length-point = length-put_at d q (bytes_of x) room

  module _ (f : ℕ → Point) (at n : ℕ) where
    pub filled-keep : (q + 4 ≤ at) ⊎ (at + 4 * n ≤ q) → Filled f d at n → Filled f (put_at d q (bytes_of x)) at n
    filled-keep (inl before) h i l =
        part-put_at-behind d q (bytes_of x) room (at + 4 * i) 4 (let e = length-bytes_of x in omega arith) ∙ h i l
    filled-keep (inr behind) h i l = part-put_at-before d q (bytes_of x) room (at + 4 * i) 4 (omega arith) ∙ h i l

    pub filled_more : q ≡ at + 4 * n → x ≡ f n → Filled f d at n → Filled f (put_at d q (bytes_of x)) at (n + 1)
    filled_more e ex h i l = go (ℕ_discrete i n)
      where
        go : Dec (i ≡ n) → part (put_at d q (bytes_of x)) (at + 4 * i) 4 ≡ bytes_of (f i)
        go (yes o) =
            let k : at + 4 * i ≡ q = omega arith in
            ap₂ (part (put_at d q (bytes_of x))) k (sym (length-bytes_of x)) ∙ part-put_at-same d q (bytes_of x) room ∙ ap bytes_of (ex ∙ ap f (sym o))
        go (no o) = part-put_at-before d q (bytes_of x) room (at + 4 * i) 4 (omega arith) ∙ h i (omega arith)

pub filled-block : (f : ℕ → Point) (d : List ℕ) (at n : ℕ) → Filled f d at n → part d at (4 * n) ≡ encode f n
unfolding part encode joined
filled-block f d at zero h = refl
filled-block f d at (suc n) h =
    let e : 4 * suc n ≡ 4 * n + 4 = omega arith in
    ap (λ (m : ℕ). take m (drop at d)) e ∙ take-add (4 * n) 4 (drop at d)
    ∙ ap₂ ◌++◌ (filled-block f d at n (λ i l. h i (omega arith))) (ap (take 4) (drop-drop (4 * n) at d) ∙ h n (omega arith))
