-- SHAKE256 as FIPS 202 defines it, in blocks, on strings of bytes (the definition that the contracts cite).
--
--   pad q            the q bytes after a message: 1111, then pad10*1                                  6.2, 5.1; B.2, Table 6
--   padded M         P = M ‖ 1111 ‖ pad10*1: whole blocks                                             Algorithm 8, step 1
--   zeros            S = 0^b                                                                          step 5
--   added S P        S ⊕ (P ‖ 0^c): each lane with the word of its eight bytes; lanes past P stay     step 6
--   absorb k P S     the first k blocks of P absorbed, from the state S                               steps 4 and 6
--   squeeze k S      Trunc_r(S) ‖ Trunc_r(f(S)) ‖ .. : k blocks                                       steps 7, 8 and 10
--   enough n         the number of blocks at which step 9 stops: n / rate rounded up
--                    (for n = 0 the standard squeezes one block and keeps none of it)
--   SHAKE256 M n     n bytes of output for the message M: SHAKE256(M, 8n)                             6.2, Algorithm 8
use Rattle.std.specs.Prelude.{ℕ, zero, suc, ◌+◌, ◌-◌, ◌/◌, ◌%◌, List, [], ◌∷◌, ◌++◌, length, take, drop, replicate}
use Rattle.fips.specs.Steps.{◌⊕◌}
use Rattle.fips.specs.Permutation.{keccak_f}
use Rattle.fips.specs.Parameters.{rate, domain, final}
use Rattle.fips.specs.Bytes.{word, bytes_at}

abbrev pub pad : ℕ → List ℕ
pad zero = []
pad (suc zero) = (domain ⊕ final) ∷ []
pad (suc (suc k)) = domain ∷ (replicate k 0 ++ (final ∷ []))

abbrev pub padded : List ℕ → List ℕ
padded M = M ++ pad (rate - length M % rate)

abbrev pub zeros : List ℕ
zeros = replicate 25 0

unfoldable pub added : List ℕ → List ℕ → List ℕ
added [] P = []
added (a ∷ S) P = (a ⊕ word (take 8 P)) ∷ added S (drop 8 P)

unfoldable pub absorb : ℕ → List ℕ → List ℕ → List ℕ
absorb zero P S = S
absorb (suc k) P S = absorb k (drop rate P) (keccak_f (added S (take rate P)))

unfoldable pub squeeze : ℕ → List ℕ → List ℕ
squeeze zero S = []
squeeze (suc k) S = bytes_at S 0 rate ++ squeeze k (keccak_f S)

abbrev pub enough : ℕ → ℕ
enough n = (n + (rate - 1)) / rate

unfoldable pub SHAKE256 : List ℕ → ℕ → List ℕ
SHAKE256 M n = take n (squeeze (enough n) (absorb (length (padded M) / rate) (padded M) zeros))
