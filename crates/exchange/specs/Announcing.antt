-- What the parties of an axis announce, from the sums of their disclosed leaves: for prover and verifier alike.
--
-- Hidden                the party that holds the hidden leaf on the axis, or `side p` where none does, and that leaf's own α and β:
--                       'The hidden leaf's own α and β have none' of the constants
-- none p                no leaf is hidden
-- party_alpha, party_beta   'The verifier's party that holds the hidden leaf sums its disclosed leaves, adds that leaf's α and β'
-- formula_v              v by the formula; 'α̂ and β̂ are the sums over the parties of the axis'
-- party_v                the party that holds the hidden leaf 'takes the v that makes the axis sum zero'
-- announced_by           α, β and v of all parties; s c is the sum of the disclosed leaves of party c
use Rattle.std.specs.Prelude.{cond, List, ℕ, eqb}
use Rattle.tower.specs.Field.{Point}
use Rattle.parameters.specs.declared.Parameters.{Parameters}
use Rattle.layout.specs.Layout.{side}
use Rattle.exchange.specs.Reading.{◌⊞◌, 𝟎}
use Rattle.exchange.specs.Values.{Key, alpha, beta, part_v}
use Rattle.exchange.specs.Parties.{Announced, sums}

pub record Hidden : Type 0 where
  pub party : ℕ
  pub α : ℕ → Point
  pub β : ℕ → Point

abbrev pub none : Parameters → Hidden
none p = record { party = side p; α = λ l. 𝟎; β = λ l. 𝟎 }

module _ (p : Parameters) (key : Key) (m2 : List ℕ) (s : ℕ → List ℕ) (hidden : Hidden) where
  unfoldable pub party_alpha : ℕ → ℕ → Point
  party_alpha c l = alpha p key m2 (eqb c 0) (s c) l ⊞ cond (eqb c hidden.party) (hidden.α l) 𝟎

  unfoldable pub party_beta : ℕ → ℕ → Point
  party_beta c l = beta p key m2 (eqb c 0) (s c) l ⊞ cond (eqb c hidden.party) (hidden.β l) 𝟎

  unfoldable pub formula_v : ℕ → ℕ → Point
  formula_v c l = part_v p key m2 (eqb c 0) (s c) (sums (λ c. party_alpha c l) (side p)) (sums (λ c. party_beta c l) (side p)) l

  unfoldable pub party_v : ℕ → ℕ → Point
  party_v c l = cond (eqb c hidden.party) (sums (λ c. cond (eqb c hidden.party) 𝟎 (formula_v c l)) (side p)) (formula_v c l)

  abbrev pub announced_by : Announced
  announced_by = record { α = party_alpha; β = party_beta; v = party_v }
