-- The comparison as a chain of questions: layer 7, then the first axis, then layer 5, then the first leaf opened in both.
--
-- row_chain, leaf_chain   the answer, from what is found at layers 7 and 6, and at 5 and 4; j and i are the first axis and the first leaf,
--                    d and n where there is none
-- differs_at l n      the two strings at layer l and number n differ
-- extract-chain      what the extractor answers is this chain
use Rattle.std.specs.Prelude.{◌≡◌, Bool, ◌&&◌, not, cond, ℕ, ◌+◌, ltb}
use Rattle.std.proofs.Math.Path.{refl, ap}
use Rattle.std.proofs.Common.{◌∙◌}
use mathlib.Core.List.{List, [], ◌∷◌}
use Rattle.lists.specs.Equal.{eq_list}
use Rattle.parameters.specs.declared.Parameters.{Parameters}
use Rattle.layout.specs.Layout.{leaves}
use Rattle.exchange.specs.Sequences.{listed, those, least}
use Rattle.exchange.proofs.Sequences.Laws.{those-append}
use Rattle.exchange.specs.Values.{Key}
use Rattle.exchange.specs.Opening.{Exchange}
use Rattle.exchange.specs.Extractor.{Finding, unequal, states, opened_in_both, compared, axis, output, string_at, unequal_at, finding, extract}
use Rattle.extractor.specs.Head.{head_or, head_or-append, head_or-those, head_or-listed, those-those}

unfoldable pub row_chain : Bool → ℕ → ℕ → Finding → Finding
row_chain seven j d otherwise = cond seven (unequal 7 0) (cond (ltb j d) (unequal 6 (j + 1)) otherwise)

unfoldable pub leaf_chain : Bool → ℕ → ℕ → Finding → Finding
leaf_chain five i n otherwise = cond five (unequal 5 0) (cond (ltb i n) (unequal 4 i) otherwise)

module _ (hash : List ℕ → ℕ → List ℕ) (p : Parameters) (key : Key) (e e' : Exchange) where
  unfoldable pub differs_at : ℕ → ℕ → Bool
  differs_at l n = not (eq_list (string_at hash p key e l n) (string_at hash p key e' l n))

  abbrev differs : ℕ × ℕ → Bool
  differs n = differs_at n.0 n.1

  abbrev named : ℕ × ℕ → Finding
  named n = unequal n.0 n.1

  abbrev otherwise : Finding
  otherwise = states (axis p e e') (output hash p e e')

  found-head : (l : List (ℕ × ℕ)) → finding hash p key e e' l ≡ head_or named otherwise l
  unfolding finding head_or
  found-head [] = refl
  found-head (n ∷ l) = refl

  abbrev axes : List (ℕ × ℕ)
  axes = listed (λ j. (6, j + 1)) p.axes

  abbrev all : List (ℕ × ℕ)
  all = listed (λ i. (4, i)) (leaves p)

  abbrev both : ℕ × ℕ → Bool
  both n = opened_in_both e.leaf e'.leaf n.1

  -- layers 5 and 4
  leaves-chain : head_or named otherwise (those differs ((5, 0) ∷ those both all))
      ≡ cond (differs_at 5 0) (unequal 5 0)
      (cond (ltb (least (λ i. opened_in_both e.leaf e'.leaf i && differs_at 4 i) (leaves p)) (leaves p))
      (unequal 4 (least (λ i. opened_in_both e.leaf e'.leaf i && differs_at 4 i) (leaves p))) otherwise)
  leaves-chain =
      head_or-those named differs otherwise (5, 0) (those both all)
      ∙ ap (cond (differs_at 5 0) (unequal 5 0))
      (ap (head_or named otherwise) (those-those both differs all)
      ∙ head_or-listed named (λ n. both n && differs n) otherwise (λ i. (4, i)) (leaves p))

  pub extract-chain : extract hash p key e e'
      ≡ row_chain (differs_at 7 0) (least (λ j. differs_at 6 (j + 1)) p.axes) p.axes
      (leaf_chain (differs_at 5 0) (least (λ i. opened_in_both e.leaf e'.leaf i && differs_at 4 i) (leaves p)) (leaves p) otherwise)
  unfolding extract unequal_at compared row_chain leaf_chain differs_at
  extract-chain =
      found-head (those differs (compared p e e'))
      ∙ ap (head_or named otherwise) (those-append differs ((7, 0) ∷ axes) ((5, 0) ∷ those both all))
      ∙ head_or-append named otherwise (those differs ((7, 0) ∷ axes)) (those differs ((5, 0) ∷ those both all))
      ∙ ap (λ (rest : Finding). head_or named rest (those differs ((7, 0) ∷ axes))) leaves-chain
      ∙ head_or-those named differs _ (7, 0) axes
      ∙ ap (cond (differs_at 7 0) (unequal 7 0)) (head_or-listed named differs _ (λ j. (6, j + 1)) p.axes)
