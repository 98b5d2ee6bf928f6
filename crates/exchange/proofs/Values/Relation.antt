-- The relation that v stands for, of a share s with the constants: s is the sum of all leaves' shares where it is used.
--
-- Relation p key m2 s l     'ε(SQ − PF)(r) = c − ab' at position l
-- total_v p key m2 s l       v of s, its own α and β being α̂ and β̂
-- total_v-zero, total_v-relation   v is zero exactly where the relation holds
use Rattle.std.specs.Prelude.{◌≡◌, true, List, ℕ}
use Rattle.algebra.specs.Ring.{Ring2}
use Rattle.algebra.specs.Ring.Laws.{ring, combine}
use Rattle.tower.specs.Field.{Point}
use Rattle.parameters.specs.declared.Parameters.{Parameters}
use Rattle.exchange.specs.Reading.{points, value, ◌⊞◌, ◌⊠◌, 𝟎}
use Rattle.exchange.specs.Values.{Key, q_of, p_of, F, a_of, b_of, c_of, point_of, multiplier_of, s_of, alpha, beta, part_v}

-- ---- over any ring

module _ {K : Type 0} (R : Ring2 K) (e q s p f a b c : K) where
  infixl 60 ◌+K◌
  infixl 70 ◌*K◌
  open R use {zero as 𝟘, one as 𝟙, add as ◌+K◌, mul as ◌*K◌}

  -- c + ε·F·P + α̂·b + β̂·a + α̂·β̂ with α̂ = ε·Q + a and β̂ = S + b
  abbrev v-of : K
  v-of = c +K e *K (f *K p) +K (e *K q +K a) *K b +K (s +K b) *K a +K (e *K q +K a) *K (s +K b)

  zero-when : e *K (s *K q +K p *K f) ≡ c +K a *K b → v-of ≡ 𝟘
  zero-when h = combine R 𝟙 _ _ h (simp (ring, R))

  zero-then : v-of ≡ 𝟘 → e *K (s *K q +K p *K f) ≡ c +K a *K b
  zero-then h = combine R 𝟙 _ _ h (simp (ring, R))

-- ---- of a share

module _ (p : Parameters) (key : Key) (m2 s : List ℕ) (l : ℕ) where
  abbrev pub Relation : Type 0
  Relation =
      multiplier_of p m2 l
      ⊠ (value (s_of p key true s) (point_of p m2 l) ⊠ value (q_of p true s) (point_of p m2 l)
      ⊞ value (p_of p s) (point_of p m2 l) ⊠ value (F p) (point_of p m2 l))
      ≡ c_of p s l ⊞ a_of p s l ⊠ b_of p s l

  abbrev pub total_v : Point
  total_v = part_v p key m2 true s (alpha p key m2 true s l) (beta p key m2 true s l) l

  pub total_v-zero : Relation → total_v ≡ 𝟎
  unfolding alpha beta part_v
  total_v-zero = zero-when points.base _ _ _ _ _ _ _ _

  pub total_v-relation : total_v ≡ 𝟎 → Relation
  unfolding alpha beta part_v
  total_v-relation = zero-then points.base _ _ _ _ _ _ _ _
