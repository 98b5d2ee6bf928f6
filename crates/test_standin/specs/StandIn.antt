-- A stand-in for SHAKE256 that is cheap to compute, and weakened forms of it under which unequal strings have one digest.
-- The definitions of the exchange take any hash; compare/reference has this one under its feature `stand_in`.
--
-- hex n v            the n bytes that are written as the hexadecimal number v, first byte first
-- absorb s a         the state after the string s, from the state a
-- emitted a n        n bytes from the state a
-- stand_in s n        n bytes of the hash of s
-- weak layer s n     the same, but a string of this layer counts as its layer byte alone: any two of them have one digest
-- weak_leaves s n     weak at layer 4; and of layer 2 seeds depend on the layer byte alone, rho on the string, so that leaves
--                    with equal shares can have unequal strings
use Rattle.std.specs.Prelude.{cond, List, [], ◌∷◌, ◌++◌, ℕ, zero, suc, ◌+◌, ◌*◌, ◌/◌, ◌%◌, ◌^◌, eqb, drop}

unfoldable pub hex : ℕ → ℕ → List ℕ
hex zero v = []
hex (suc n) v = v / 256 ^ n % 256 ∷ hex n v

unfoldable pub absorb : List ℕ → ℕ → ℕ
absorb [] a = a
absorb (x ∷ s) a = absorb s ((a * 31 + x + 1) % 65521)

unfoldable pub emitted : ℕ → ℕ → List ℕ
emitted a zero = []
emitted a (suc n) = a / 7 % 256 ∷ emitted ((a * 75 + 74) % 65537) n

unfoldable pub stand_in : List ℕ → ℕ → List ℕ
stand_in s n = emitted (absorb s 7) n

unfoldable pub weak : ℕ → List ℕ → ℕ → List ℕ
weak layer [] n = stand_in [] n
weak layer (l ∷ s) n = cond (eqb l layer) (stand_in (l ∷ []) n) (stand_in (l ∷ s) n)

unfoldable pub weak_leaves : List ℕ → ℕ → List ℕ
weak_leaves [] n = stand_in [] n
weak_leaves (l ∷ s) n = cond (eqb l 2) (stand_in (l ∷ []) 16 ++ drop 16 (stand_in (l ∷ s) n)) (weak 4 (l ∷ s) n)
