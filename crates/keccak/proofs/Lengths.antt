-- A permuted state has 25 lanes, whatever went in.
use mathlib.Core.Path.{◌≡◌}
use mathlib.Core.List.{List}
use Prim.Native.Nat.{ℕ}
use lib.ListN.{length, length-set}
use Rattle.fips.specs.Steps.{χ, ι}
use Rattle.fips.specs.Permutation.{round, rounds, keccak_f}

pub length-keccak_f : (a : List ℕ) → length (keccak_f a) ≡ 25
unfolding keccak_f rounds round ι χ
length-keccak_f a = simp length-set
