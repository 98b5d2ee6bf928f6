-- What one turn of the loops over a slice does, for the contracts of the functions that do it.
--
--   Taken n r s S T   the first r bytes of s are xored into the state S from byte n of the block on, which gives T
--   Given n r S o p   r bytes of the state S, from byte n of the block on, are stored at the front of o, which gives p
use Rattle.std.specs.Prelude.{ℕ, ◌+◌, ◌≤◌, ◌<◌, ◌≡◌, List, ◌++◌, length, take, drop}
use Rattle.fips.specs.Parameters.{rate}
use Rattle.fips.specs.Bytes.{bytes_at}
use Rattle.shake256.specs.Bytes.{xor_bytes}

pub record Taken (n r : ℕ) (s S T : List ℕ) : Type 0 where
  pub some : 0 < r
  pub within : r ≤ length s
  pub room : n + r ≤ rate
  pub is : T ≡ xor_bytes S n (take r s)

pub record Given (n r : ℕ) (S o p : List ℕ) : Type 0 where
  pub some : 0 < r
  pub within : r ≤ length o
  pub room : n + r ≤ rate
  pub is : p ≡ bytes_at S n r ++ drop r o
