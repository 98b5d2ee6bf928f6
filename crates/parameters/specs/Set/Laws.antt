-- The laws of the set.
--
-- length-numbers     the numbers of parameters are a set
-- parameters-back    the parameters that their numbers name are the parameters again
-- numbers-back       the numbers of the parameters that a set names are the set again
use Rattle.std.specs.Prelude.{◌≡◌, refl, List, [], ◌∷◌, ℕ, length}
use Rattle.std.proofs.Common.{arith}
use Rattle.parameters.specs.declared.Parameters.{Parameters}
use Rattle.parameters.specs.Set.{set_length, numbers_of, parameters_of}

pub length-numbers : (p : Parameters) → length (numbers_of p) ≡ set_length
length-numbers p = refl

pub parameters-back : (p : Parameters) → parameters_of (numbers_of p) ≡ p
parameters-back p = refl

pub numbers-back : (ns : List ℕ) → length ns ≡ set_length → numbers_of (parameters_of ns) ≡ ns
numbers-back [] e = absurd (omega arith)
numbers-back (m ∷ []) e = absurd (omega arith)
numbers-back (m ∷ k ∷ []) e = absurd (omega arith)
numbers-back (m ∷ k ∷ w ∷ []) e = absurd (omega arith)
numbers-back (m ∷ k ∷ w ∷ d ∷ []) e = absurd (omega arith)
numbers-back (m ∷ k ∷ w ∷ d ∷ t ∷ []) e = refl
numbers-back (m ∷ k ∷ w ∷ d ∷ t ∷ n ∷ ns) e = absurd (omega arith)
