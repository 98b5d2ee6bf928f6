-- The laws of a leaf's share as hashed.
--
-- drawn_length-le       no leaf takes more than a whole share
-- Front, drawn-front   the front of a buffer that a share was drawn into
-- take-drawn           what stands there
-- drawn_share-is        a drawn share is what layer 3 gives, in the leaf's length
-- length-drawn_share, drawn_share-short   its length, which is at most that of a share
use Rattle.std.specs.Prelude.{◌≡◌, refl, Bool, true, false, cond, length, take}
use Rattle.std.proofs.Common.{sym, ◌∙◌, arith, length-take-le, take_at}
use mathlib.Core.List.{List, [], ◌++◌, append-nil}
use Prim.Native.Nat.{ℕ, ◌≤◌}
use Rattle.lists.specs.Part.{put_at}
use Rattle.shake256.specs.Fips.{SHAKE256}
use Rattle.shake256.proofs.Laws.{length-SHAKE256}
use Rattle.parameters.specs.declared.Parameters.{Parameters}
use Rattle.layout.specs.Layout.{is_last, share_length, at_x}
use Rattle.exchange.specs.Strings.{string3}
use Rattle.exchange.specs.Leaf.{share}
use Rattle.leaves.specs.States.{state_at}
use Rattle.parties.specs.Drawn.{drawn_length, drawn_share}

pub drawn_length-le : (p : Parameters) (i : ℕ) → drawn_length p i ≤ share_length p
unfolding drawn_length
drawn_length-le p i = go (is_last p i)
  where
    go : (t : Bool) → cond t (at_x p) (share_length p) ≤ share_length p
    go true = omega arith
    go false = omega arith

pub record Front (p : Parameters) (n : ℕ) (d : List ℕ) : Type 0 where
  pub there : n ≤ length d
  pub long : length (take n d) ≡ n
  pub short : length (take n d) ≤ share_length p

pub drawn-front : (p : Parameters) (i n : ℕ) (d : List ℕ) → n ≡ drawn_length p i → share_length p ≤ length d → Front p n d
drawn-front p i n d e room =
    let h = drawn_length-le p i in
    let k : length (take n d) ≡ n = length-take-le n d (omega arith) in
    record { there = omega arith; long = k; short = omega arith }

module _ (p : Parameters) (prefix states : List ℕ) (i : ℕ) where
  pub drawn_share-is : drawn_share p prefix states i ≡ SHAKE256 (string3 prefix i (take 16 (state_at states i))) (drawn_length p i)
  unfolding drawn_share share drawn_length
  drawn_share-is = go (is_last p i)
    where
      bytes : ℕ → List ℕ
      bytes n = SHAKE256 (string3 prefix i (take 16 (state_at states i))) n

      go : (t : Bool) → cond t (bytes (at_x p) ++ []) (bytes (share_length p)) ≡ bytes (cond t (at_x p) (share_length p))
      go true = append-nil (bytes (at_x p))
      go false = refl

  pub length-drawn_share : length (drawn_share p prefix states i) ≡ drawn_length p i
  length-drawn_share = rw drawn_share-is (length-SHAKE256 (string3 prefix i (take 16 (state_at states i))) (drawn_length p i))

pub drawn_share-short : (p : Parameters) (prefix states : List ℕ) (i : ℕ) → length (drawn_share p prefix states i) ≤ share_length p
drawn_share-short p prefix states i = omega (arith, length-drawn_share p prefix states i, drawn_length-le p i)

pub take-drawn : (p : Parameters) (prefix states : List ℕ) (i n : ℕ) (d : List ℕ) → n ≡ drawn_length p i
    → take n (put_at d 0 (drawn_share p prefix states i)) ≡ drawn_share p prefix states i
unfolding put_at
take-drawn p prefix states i n d e = take_at (drawn_share p prefix states i) _ n (length-drawn_share p prefix states i ∙ sym e)
