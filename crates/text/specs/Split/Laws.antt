-- A state carried through parted text goes from piece to piece.
--
-- parted c stop byte       one byte: `stop` at the parting byte c, `byte` at any other
-- through stop byte s p q  the piece p from s on, then for each piece of q `stop` and the piece
-- through-keeps            what every byte and every `stop` keeps, the walk keeps
-- fold-split               a fold by `parted` is a walk through the pieces
use Rattle.std.specs.Prelude.{◌≡◌, ℕ, Bool, true, false, cond, eqb}
use Rattle.std.proofs.Math.Path.{refl}
use Rattle.std.proofs.Common.{◌∙◌}
use mathlib.Core.List.{List, [], ◌∷◌}
use Rattle.text.specs.Fold.{fold, fold-keeps}
use Rattle.text.specs.Split.{first_of, rest_of, first, rest}

module _ {S : Type 0} (c : ℕ) (stop : S → S) (byte : S → ℕ → S) where
  abbrev pub parted : S → ℕ → S
  parted s x = cond (eqb x c) (stop s) (byte s x)

module _ {S : Type 0} (stop : S → S) (byte : S → ℕ → S) where
  abbrev pub through : S → List ℕ → List (List ℕ) → S
  through s p [] = fold byte s p
  through s p (p' ∷ q) = through (stop (fold byte s p)) p' q

  pub through-keeps : (P : S → Type 0) → ((s : S) → P s → P (stop s)) → ((s : S) (x : ℕ) → P s → P (byte s x))
      → (s : S) (p : List ℕ) (q : List (List ℕ)) → P s → P (through s p q)
  through-keeps P k l s p [] h = fold-keeps byte P l s p h
  through-keeps P k l s p (p' ∷ q) h = through-keeps P k l (stop (fold byte s p)) p' q (k (fold byte s p) (fold-keeps byte P l s p h))

module _ {S : Type 0} (c : ℕ) (stop : S → S) (byte : S → ℕ → S) where
  step-split : (b : Bool) (s : S) (x : ℕ) (p : List ℕ) (q : List (List ℕ))
      → through stop byte (cond b (stop s) (byte s x)) p q ≡ through stop byte s (first_of b x p) (rest_of b p q)
  step-split true s x p q = refl
  step-split false s x p [] = refl
  step-split false s x p (p' ∷ q) = refl

  pub fold-split : (s : S) (t : List ℕ) → fold (parted c stop byte) s t ≡ through stop byte s (first c t) (rest c t)
  unfolding first rest
  fold-split s [] = refl
  fold-split s (x ∷ t) = fold-split (parted c stop byte s x) t ∙ step-split (eqb x c) s x (first c t) (rest c t)
