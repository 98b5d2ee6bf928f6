-- The lengths that the calls ask of the slices that they are lent, one test each: number 2, 'a lent slice of wrong length'.
--
-- key_lengths        matrix, y and work area: 'a work area may be longer, never shorter than 2·D·(k+2w+12t)'
-- begin_lengths      the prover's begin
-- points_lengths     the prover's points
-- leaf_lengths       the prover's leaf; 'For a leaf not below n, message 5's longer length counts'
-- opening_lengths    the verifier's opening
-- leaves_below p is  number 4: all hidden leaves are below n
use Rattle.std.specs.Prelude.{Bool, List, [], ◌∷◌, map, ℕ, eqb, leb, ltb, length}
use Rattle.lists.specs.Checks.{all_true}
use Rattle.parameters.specs.declared.Parameters.{Parameters}
use Rattle.layout.specs.Layout.{leaves, work_length, y_length, matrix_length}
use Rattle.layout.specs.Runs.{message1_length, messages2_length, messages3_length, messages5_length}
use Rattle.exchange.specs.Values.{Key}

abbrev pub key_lengths : Parameters → Key → List ℕ → List Bool
key_lengths p key work =
    eqb (length key.matrix) (matrix_length p) ∷ eqb (length key.y) (y_length p) ∷ leb (work_length p) (length work) ∷ []

abbrev pub begin_lengths : Parameters → ℕ → List ℕ → List ℕ → List ℕ → Key → List ℕ → List ℕ → List Bool
begin_lengths p runs x_a salt root key work out =
    eqb (length x_a) p.k ∷ eqb (length salt) 32 ∷ eqb (length root) 16 ∷ eqb (length out) (message1_length runs) ∷ key_lengths p key work

abbrev pub points_lengths : Parameters → ℕ → List ℕ → Key → List ℕ → List ℕ → List Bool
points_lengths p runs m2 key work out = eqb (length m2) (messages2_length p runs) ∷ eqb (length out) (messages3_length runs) ∷ key_lengths p key work

abbrev pub leaf_lengths : Parameters → ℕ → List ℕ → Key → List ℕ → List ℕ → List Bool
leaf_lengths p runs is key work out = eqb (length is) runs ∷ eqb (length out) (messages5_length p is) ∷ key_lengths p key work

abbrev pub opening_lengths : Parameters → List ℕ → List ℕ → Key → List ℕ → List Bool
opening_lengths p is m5 key work = eqb (length m5) (messages5_length p is) ∷ key_lengths p key work

unfoldable pub leaves_below : Parameters → List ℕ → Bool
leaves_below p is = all_true (map (λ i. ltb i (leaves p)) is)
