-- A state carried through a text, byte by byte.
--
-- fold f s t       the state after the bytes of t, from s on
-- fold-append      a text scanned in two pieces: first a, then b from the state that a left
-- fold-keeps       what every byte keeps, the whole text keeps
-- fold-map         a state held within another goes on by its own steps
use Rattle.std.specs.Prelude.{◌≡◌, refl, ℕ, List, [], ◌∷◌, ◌++◌}
use Rattle.std.proofs.Common.{ap, ◌∙◌}

module _ {S : Type 0} (f : S → ℕ → S) where
  abbrev pub fold : S → List ℕ → S
  fold s [] = s
  fold s (x ∷ t) = fold (f s x) t

  pub fold-append : (s : S) (a b : List ℕ) → fold s (a ++ b) ≡ fold (fold s a) b
  fold-append s [] b = refl
  fold-append s (x ∷ a) b = fold-append (f s x) a b

  pub fold-keeps : (P : S → Type 0) → ((s : S) (x : ℕ) → P s → P (f s x)) → (s : S) (t : List ℕ) → P s → P (fold s t)
  fold-keeps P k s [] p = p
  fold-keeps P k s (x ∷ t) p = fold-keeps P k (f s x) t (k s x p)

pub fold-map : {S T : Type 0} (g : S → T) (f : S → ℕ → S) (f' : T → ℕ → T) → ((s : S) (x : ℕ) → f' (g s) x ≡ g (f s x)) → (s : S) (t : List ℕ)
    → fold f' (g s) t ≡ g (fold f s t)
fold-map g f f' k s [] = refl
fold-map g f f' k s (x ∷ t) = ap (λ z. fold f' z t) (k s x) ∙ fold-map g f f' k (f s x) t
