-- Pairs of openings of two runs by an honest prover under the stand-in hash, at m 2, k 1, w 1, t 1 and any number of axes. Run 1 is the one whose
-- points are counted.
--
-- p d, key, x_a, x, salt, root   parameters, key, its secret part, the vector, and what the exchanges start with
-- m1 d, h d                 message 1, the same in all, and h of run 1
-- message2 r ε              the point r and the multiplier ε, both bytes: run 1's part of message 2
-- messages2 r ε             message 2; run 0 has the point 16 and the multiplier 1
-- opened d r ε i u          the prover's messages for this message 2, with leaf i hidden in run 0 and leaf u in run 1
-- pair d r ε u u'           two openings of it that hide leaf 0 in run 0, and leaves u and u' in run 1
-- idle d r ε                two openings of it that hide leaves 0 and 1 in run 0, and leaf 0 in run 1: it counts for nothing
use Rattle.std.specs.Prelude.{List, [], ◌∷◌, ◌++◌, ℕ, replicate}
use Rattle.lists.specs.Part.{part}
use Rattle.parameters.specs.declared.Parameters.{Parameters}
use Rattle.relation.specs.Key.{vector_of}
use Rattle.layout.specs.Runs.{digest_place}
use Rattle.exchange.specs.Values.{Key}
use Rattle.runs.specs.Messages.{message1}
use Rattle.runs.specs.Opening.{Transcript}
use Rattle.claims.specs.Weight.{Pair}
use Rattle.test_standin.specs.StandIn.{stand_in}
use Rattle.test_claims.specs.Honest.{sent_by}
pub mod Laws
pub mod Free

abbrev pub p : ℕ → Parameters
p d = record { m = 2; k = 1; w = 1; axes = d; t = 1 }

abbrev pub key : Key
key = record { matrix = 1 ∷ []; y = 5 ∷ [] }

abbrev pub x_a : List ℕ
x_a = 5 ∷ []

-- 5, 0
abbrev pub x : List ℕ
x = vector_of key.matrix key.y x_a

abbrev pub salt : List ℕ
salt = replicate 32 7

abbrev pub root : List ℕ
root = replicate 16 9

abbrev pub message2 : ℕ → ℕ → List ℕ
message2 r ε = r ∷ 0 ∷ 0 ∷ 0 ∷ ε ∷ 0 ∷ 0 ∷ 0 ∷ []

abbrev pub messages2 : ℕ → ℕ → List ℕ
messages2 r ε = message2 16 1 ++ message2 r ε

module _ (d : ℕ) where
  unfoldable pub m1 : List ℕ
  m1 = message1 stand_in (p d) 2 x salt root

  unfoldable pub h : List ℕ
  h = part m1 (digest_place 1) 32

  unfoldable pub opened : ℕ → ℕ → ℕ → ℕ → Transcript
  opened r ε i u = sent_by (p d) 2 key salt root (messages2 r ε) (i ∷ u ∷ []) x

  unfoldable pub pair : ℕ → ℕ → ℕ → ℕ → Pair
  pair r ε u u' = record { one = opened r ε 0 u; other = opened r ε 0 u' }

  unfoldable pub idle : ℕ → ℕ → Pair
  idle r ε = record { one = opened r ε 0 0; other = opened r ε 1 0 }
