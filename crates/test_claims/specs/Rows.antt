-- Of strings in rows and columns: those of one column that are unequal have two digests, by computation.
--
-- string a c       the string of the row a in column c, and its digest
-- row cs a         those in all columns of a list
-- rows_of cs rs     the rows of a list
-- apart s t        unequal strings have two digests, in all columns of two rows
-- separated rows   any two rows are apart
-- two-digests      where rows are separated, unequal strings of one column have two digests
use Rattle.std.specs.Prelude.{◌≡◌, Bool, ◌&&◌, not, List, [], ◌∷◌, ℕ}
use Rattle.std.proofs.Math.Path.{refl}
use Rattle.std.proofs.Math.Bool.{true, false, cond}
use Rattle.std.proofs.lemmas.Bool.{not-true}
use Rattle.lists.specs.Checks.Laws.{and_left, and_right}
use Rattle.lists.specs.Equal.{eq_list}
use Rattle.lists.specs.Equal.Laws.{eq_list-true, eq_list-false}
use Rattle.claims.specs.Weight.{In, here, later}

unfoldable pub every : {A : Type 0} → (A → Bool) → List A → Bool
every f [] = true
every f (a ∷ l) = f a && every f l

every_in : {A : Type 0} (f : A → Bool) (l : List A) → every f l ≡ true → (a : A) → In a l → f a ≡ true
unfolding every
every_in {A = A} f [] e a i = elim i [ ]
every_in f (b ∷ l) e a here = and_left (f b) (every f l) e
every_in f (b ∷ l) e a (later i) = every_in f l (and_right (f b) (every f l) e) a i

-- unequal strings have two digests
abbrev differ : List ℕ × List ℕ → List ℕ × List ℕ → Bool
differ a b = cond (eq_list a.0 b.0) true (not (eq_list a.1 b.1))

unfoldable pub apart : List (List ℕ × List ℕ) → List (List ℕ × List ℕ) → Bool
apart [] t = true
apart (a ∷ s) [] = true
apart (a ∷ s) (b ∷ t) = differ a b && apart s t

unfoldable pub separated : List (List (List ℕ × List ℕ)) → Bool
separated rows = every (λ s. every (apart s) rows) rows

module _ (hash : List ℕ → ℕ → List ℕ) {A C : Type 0} (f : A → C → List ℕ) where
  unfoldable pub string : A → C → List ℕ × List ℕ
  string a c = hashed (f a c)
    where
      hashed : List ℕ → List ℕ × List ℕ
      hashed s = (s, hash s 32)

  unfoldable pub row : List C → A → List (List ℕ × List ℕ)
  row [] a = []
  row (c ∷ cs) a = string a c ∷ row cs a

  unfoldable pub rows_of : List C → List A → List (List (List ℕ × List ℕ))
  rows_of cs [] = []
  rows_of cs (a ∷ rs) = row cs a ∷ rows_of cs rs

  in_rows : (cs : List C) {a : A} {rs : List A} → In a rs → In (row cs a) (rows_of cs rs)
  unfolding rows_of
  in_rows cs here = here
  in_rows cs (later i) = later (in_rows cs i)

  in-column : (a a' : A) (cs : List C) → apart (row cs a) (row cs a') ≡ true → (c : C) → In c cs
      → (f a c ≡ f a' c → ⊥) → hash (f a c) 32 ≡ hash (f a' c) 32 → ⊥
  unfolding row apart string
  in-column a a' [] h c i = elim i [ ]
  in-column a a' (b ∷ cs) h c here = go (eq_list (f a c) (f a' c)) refl (and_left (differ (string a c) (string a' c)) (apart (row cs a) (row cs a')) h)
    where
      go : (t : Bool) → eq_list (f a c) (f a' c) ≡ t → cond t true (not (eq_list (hash (f a c) 32) (hash (f a' c) 32))) ≡ true
          → (f a c ≡ f a' c → ⊥) → hash (f a c) 32 ≡ hash (f a' c) 32 → ⊥
      go true q k n d = n (eq_list-true _ _ q)
      go false q k n d = eq_list-false _ _ (not-true _ k) d
  in-column a a' (b ∷ cs) h c (later i) =
      in-column a a' cs (and_right (differ (string a b) (string a' b)) (apart (row cs a) (row cs a')) h) c i

  pub two-digests : (cs : List C) (rs : List A) → separated (rows_of cs rs) ≡ true → (a a' : A) → In a rs → In a' rs → (c : C) → In c cs
      → (f a c ≡ f a' c → ⊥) → hash (f a c) 32 ≡ hash (f a' c) 32 → ⊥
  unfolding separated
  two-digests cs rs test a a' i i' c k =
      in-column a a' cs
      (every_in (apart (row cs a)) (rows_of cs rs) (every_in (λ s. every (apart s) (rows_of cs rs)) (rows_of cs rs) test (row cs a) (in_rows cs i))
      (row cs a') (in_rows cs i')) c k
