-- Layer 4's strings compared part by part.
--
-- eq_list-append                        joined lists, the first ones of one length
-- leaf_apart, leaf_last, leaf-other    what is hashed of a leaf: the state, and aux where it is leaf n−1
use Rattle.std.specs.Prelude.{◌≡◌, refl, Bool, true, false, ◌&&◌, cond, List, [], ◌∷◌, ◌++◌, ℕ, ◌+◌, ◌*◌, ◌≤◌, eqb, length}
use Rattle.std.proofs.Math.Path.{sym}
use Rattle.std.proofs.Common.{◌∙◌, arith}
use Rattle.lists.specs.Part.Laws.{length_part}
use Rattle.lists.specs.Equal.{eq_list}
use Rattle.parameters.specs.declared.Parameters.{Parameters}
use Rattle.layout.specs.Layout.{is_last}
use Rattle.extractor.specs.Comparison.{state_at, leaf_at}

pub eq_list-append : (a b x y : List ℕ) → length a ≡ length b → eq_list (a ++ x) (b ++ y) ≡ (eq_list a b && eq_list x y)
unfolding eq_list
eq_list-append [] [] x y h = refl
eq_list-append [] (d ∷ b) x y h = absurd (omega arith)
eq_list-append (c ∷ a) [] x y h = absurd (omega arith)
eq_list-append (c ∷ a) (d ∷ b) x y h = go (eqb c d) (eq_list-append a b x y (omega arith))
  where
    go : (t : Bool) → eq_list (a ++ x) (b ++ y) ≡ (eq_list a b && eq_list x y) → (t && eq_list (a ++ x) (b ++ y)) ≡ ((t && eq_list a b) && eq_list x y)
    go true e = e
    go false e = refl

module _ (p : Parameters) (states aux others aux' : List ℕ) (i : ℕ) (h : 32 * i + 32 ≤ length states) (h' : 32 * i + 32 ≤ length others) where
  parts : eq_list (leaf_at p states aux i) (leaf_at p others aux' i)
      ≡ (eq_list (state_at states i) (state_at others i) && eq_list (cond (is_last p i) aux []) (cond (is_last p i) aux' []))
  unfolding leaf_at
  parts =
      eq_list-append (state_at states i) (state_at others i) (cond (is_last p i) aux []) (cond (is_last p i) aux' [])
      (length_part states (32 * i) 32 h ∙ sym (length_part others (32 * i) 32 h'))

  pub leaf_apart : eq_list (state_at states i) (state_at others i) ≡ false → false ≡ eq_list (leaf_at p states aux i) (leaf_at p others aux' i)
  leaf_apart e = sym (parts ∙ rw e)

  module _ (e : eq_list (state_at states i) (state_at others i) ≡ true) where
    pub leaf_last : is_last p i ≡ true → eq_list aux aux' ≡ eq_list (leaf_at p states aux i) (leaf_at p others aux' i)
    leaf_last l = sym (parts ∙ rw (e, l))

    pub leaf-other : is_last p i ≡ false → true ≡ eq_list (leaf_at p states aux i) (leaf_at p others aux' i)
    unfolding eq_list
    leaf-other l = sym (parts ∙ rw (e, l))
