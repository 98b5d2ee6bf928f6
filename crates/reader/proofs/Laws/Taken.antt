-- The laws of what a reader takes.
--
-- part-lesser, behind-lesser   a part as long as what is left or as out, whichever is less, is all that is taken
-- behind-inside      a reader stays within its message
-- length_taken       out keeps its length
-- taken-whole, behind-whole   out is filled where that much is left
use Rattle.std.specs.Prelude.{◌≡◌, ℕ, ◌+◌, ◌-◌, ◌≤◌, min, List, length, take, drop}
use Rattle.std.proofs.Common.{sym, ◌∙◌, length-take, length-drop, take_all}
use Rattle.std.proofs.Math.Path.{ap}
use Rattle.std.proofs.Math.Decide.{dec_le}
use native.Mathlib.Omega.{arith}
use Rattle.lists.specs.Part.{part}
use Rattle.lists.specs.Part.Laws.{length_part, length-put_at, put_at-whole}
use Rattle.reader.specs.Taken.{taken, behind}

length-min : (m : List ℕ) (at n : ℕ) → length (part m at n) ≡ min n (length m - at)
unfolding part
length-min m at n = length-take n (drop at m) ∙ ap (min n) (length-drop at m)

take-lesser : (d : List ℕ) (n : ℕ) → take (min (length d) n) d ≡ take n d
take-lesser d n = go (dec_le n (length d))
  where
    go : Dec (n ≤ length d) → take (min (length d) n) d ≡ take n d
    go (yes h) = let e : min (length d) n ≡ n = omega arith in ap (λ (k : ℕ). take k d) e
    go (no h) = take_all (min (length d) n) d (omega arith) ∙ sym (take_all n d (omega arith))

-- the left side is what the borrow checker has
pub part-lesser : (m : List ℕ) (at n e : ℕ) → e ≡ at + min (length m - at) n → take (e - at) (drop at m) ≡ part m at n
unfolding part
part-lesser m at n e h =
    let l = length-drop at m in
    let k : e - at ≡ min (length (drop at m)) n = omega arith in
    ap (λ (i : ℕ). take i (drop at m)) k ∙ take-lesser (drop at m) n

module _ (m : List ℕ) (at : ℕ) (out : List ℕ) where
  pub behind-lesser : (e : ℕ) → e ≡ at + min (length m - at) (length out) → e ≡ behind m at out
  unfolding behind
  behind-lesser e h = let l = length-min m at (length out) in omega arith

  pub behind-inside : at ≤ length m → behind m at out ≤ length m
  unfolding behind
  behind-inside h = let e = length-min m at (length out) in omega arith

  fits : 0 + length (part m at (length out)) ≤ length out
  fits = let e = length-min m at (length out) in omega arith

  pub length_taken : length (taken m at out) ≡ length out
  unfolding taken
  length_taken = length-put_at out 0 (part m at (length out)) fits

  module _ (h : at + length out ≤ length m) where
    pub taken-whole : taken m at out ≡ part m at (length out)
    unfolding taken
    taken-whole = put_at-whole out (part m at (length out)) (length_part m at (length out) h)

    pub behind-whole : behind m at out ≡ at + length out
    unfolding behind
    behind-whole = ap (λ (n : ℕ). at + n) (length_part m at (length out) h)
