-- The strings that the extractor compares in a run, and the first two that are unequal.
--
-- Alike e e'               what two accepted openings of one run have in common, whose hidden leaves differ
-- at-member, member-at     the same membership, of places and of the library
-- stands-before            an element m of a list stands before any element a that stands past it
-- Equal, OneDigest         the two strings at a place are equal, or have one digest
-- digest-4 to digest-7, one-digest   equal strings of layer 7 hold equal digests of layer 6, and equal strings of layer 5 equal digests of layer 4;
--                          acceptance gives one digest at layers 7 and 5
-- first-unequal            the first unequal pair of the run
-- AllEqual                 no two strings that are compared are unequal
-- none_then, none-when     exactly then there is no unequal pair
-- same-leaves, same-axis, same-commitments   what it says of leaves, axes and commitments
use Rattle.std.specs.Prelude.{◌≡◌, refl, Bool, not, ℕ, ◌+◌, ◌<◌, length}
use Rattle.std.proofs.Math.Path.{sym, ap}
use Rattle.std.proofs.Common.{◌∙◌, subst, ⊎_elim, arith}
use mathlib.Core.List.Memᴰ
use mathlib.Core.List.{List, [], ◌∷◌, ◌++◌, Memᴰ}
use Rattle.std.proofs.lemmas.Bool.{not-true, not-false}
use Rattle.lists.specs.Equal.{eq_list}
use Rattle.lists.specs.Equal.Laws.{eq_list-true, eq_list-false, eq_list-of}
use Rattle.parameters.specs.declared.Parameters.{Parameters}
use Rattle.layout.specs.Layout.{leaves}
use Rattle.exchange.specs.Sequences.{listed}
use Rattle.exchange.proofs.Sequences.Laws.{listed-mem, those-none, none-those, those-first}
use Rattle.exchange.specs.Values.{Key}
use Rattle.exchange.specs.Opening.{Exchange, leaf_commitment, Accepted}
use Rattle.exchange.proofs.Opening.Laws.{commitment-disclosed}
use Rattle.exchange.specs.Extractor.{compared, string_at, unequal_at}
use Rattle.exchange.proofs.Extractor.Laws.{Compared, at_response, at_axis, at_commitment, at_leaf, upper, lower, compared_is, mem-compared, compared-mem, string-6}
use Rattle.claims.specs.Words.{At, here, later}
use Rattle.claims.proofs.Extraction.Strings.{axis_string_of, commitments-same, digests-same}
use Rattle.claims.proofs.Extraction.Leaves.{Matched, SameLeaves}

pub record Alike (hash : List ℕ → ℕ → List ℕ) (p : Parameters) (key : Key) (e e' : Exchange) : Type 0 where
  pub matched : Matched p e e'
  pub same-h : e.h ≡ e'.h
  pub same-message3 : e.message3 ≡ e'.message3
  pub accepted : Accepted hash p e key
  pub accepted' : Accepted hash p e' key

-- ---- membership

pub at-member : {run layer number : ℕ} {ps : List (ℕ × (ℕ × ℕ))} → At run layer number ps → Memᴰ (run, (layer, number)) ps
at-member here = Memᴰ.head refl
at-member (later a) = Memᴰ.tail (at-member a)

pub member-at : (run layer number : ℕ) (ps : List (ℕ × (ℕ × ℕ))) → Memᴰ (run, (layer, number)) ps → At run layer number ps
member-at run layer number [] m = absurd (Memᴰ.not-nil m)
member-at run layer number (q ∷ ps) m =
    ⊎_elim (λ e. subst (λ (z : ℕ × (ℕ × ℕ)). At run layer number (z ∷ ps)) e here) (λ k. later (member-at run layer number ps k)) (Memᴰ.cases_cons m)

pub stands-before : {A : Type 0} (front : List A) (m : A) (back earlier : List A) (a : A) (rest : List A)
    → front ++ (m ∷ back) ≡ earlier ++ (a ∷ rest) → (Memᴰ a front → ⊥) → (a ≡ m → ⊥) → Memᴰ m earlier
stands-before [] m back [] a rest e n d = absurd (let q : a ≡ m = cc in d q)
stands-before [] m back (x ∷ earlier) a rest e n d = let q : m ≡ x = cc in Memᴰ.head q
stands-before (y ∷ front) m back [] a rest e n d = absurd (let q : a ≡ y = cc in n (Memᴰ.head q))
stands-before (y ∷ front) m back (x ∷ earlier) a rest e n d =
    let q : front ++ (m ∷ back) ≡ earlier ++ (a ∷ rest) = cc in
    Memᴰ.tail (stands-before front m back earlier a rest q (λ k. n (Memᴰ.tail k)) d)

other-layer : (a b n n' : ℕ) → (a ≡ b → ⊥) → ◌≡◌ {A = ℕ × ℕ} (a, n) (b, n') → ⊥
other-layer a b n n' h q = h (ap (λ (z : ℕ × ℕ). z.0) q)

-- layer 4 is past layers 7 and 6
not-upper : (p : Parameters) (e e' : Exchange) (i : ℕ) → Memᴰ (4, i) (upper p e e') → ⊥
not-upper p e e' i m =
    ⊎_elim (λ q. other-layer 4 7 i 0 (λ z. omega arith) q)
    (λ k. let f = listed-mem (λ j. (6, j + 1)) p.axes (4, i) k in other-layer 4 6 i (f.0 + 1) (λ z. omega arith) f.2) (Memᴰ.cases_cons m)

-- ---- strings

module _ (hash : List ℕ → ℕ → List ℕ) (hash-length : (s : List ℕ) (n : ℕ) → length (hash s n) ≡ n) (p : Parameters) (key : Key)
    (e e' : Exchange) (alike : Alike hash p key e e') where
  abbrev matched : Matched p e e'
  matched = alike.matched

  -- layer 6's string of axis j, counted from 0
  abbrev axis_of : Exchange → ℕ → List ℕ
  axis_of = axis_string_of hash hash-length p e e' matched.same-prefix key

  unfoldable pub Equal : ℕ × ℕ → Type 0
  Equal a = string_at hash p key e a.0 a.1 ≡ string_at hash p key e' a.0 a.1

  differs : ℕ × ℕ → Bool
  differs a = not (eq_list (string_at hash p key e a.0 a.1) (string_at hash p key e' a.0 a.1))

  -- ---- one digest

  unfoldable pub OneDigest : ℕ × ℕ → Type 0
  OneDigest a = hash (string_at hash p key e a.0 a.1) 32 ≡ hash (string_at hash p key e' a.0 a.1) 32

  pub digest-7 : OneDigest (7, 0)
  unfolding OneDigest string_at
  digest-7 = alike.accepted.response ∙ alike.same-message3 ∙ sym alike.accepted'.response

  pub digest-5 : OneDigest (5, 0)
  unfolding OneDigest string_at
  digest-5 = alike.accepted.commitment ∙ alike.same-h ∙ sym alike.accepted'.commitment

  pub digest-6 : Equal (7, 0) → (j : ℕ) → j < p.axes → OneDigest (6, j + 1)
  unfolding OneDigest
  digest-6 q j l =
      ap (λ (s : List ℕ). hash s 32) (string-6 hash p key e j)
      ∙ digests-same hash hash-length p e e' matched.same-prefix key (unfold Equal string_at in q) j l
      ∙ sym (ap (λ (s : List ℕ). hash s 32) (string-6 hash p key e' j))

  pub digest-4 : Equal (5, 0) → (i : ℕ) → i < leaves p → (i ≡ e.leaf → ⊥) → (i ≡ e'.leaf → ⊥) → OneDigest (4, i)
  unfolding OneDigest string_at
  digest-4 q i l n n' =
      sym (commitment-disclosed hash p e i n)
      ∙ commitments-same hash hash-length p e e' matched.same-prefix matched.length5 matched.length5' (unfold Equal string_at in q) i l
      ∙ commitment-disclosed hash p e' i n'

  -- the strings at a place that is compared have one digest, where those of the places before it are equal
  pub one-digest : (a : ℕ × ℕ) (earlier rest : List (ℕ × ℕ)) → compared p e e' ≡ earlier ++ (a ∷ rest) → Compared p e e' a
      → ((b : ℕ × ℕ) → Memᴰ b earlier → Equal b) → OneDigest a
  one-digest a earlier rest q at_response equal = digest-7
  one-digest a earlier rest q (at_axis j l) equal =
      digest-6 (equal (7, 0) (stands-before [] (7, 0) (listed (λ j. (6, j + 1)) p.axes ++ ((5, 0) ∷ lower p e e')) earlier (6, j + 1) rest
      (sym (compared_is p e e') ∙ q) Memᴰ.not-nil (other-layer 6 7 (j + 1) 0 (λ z. omega arith)))) j l
  one-digest a earlier rest q at_commitment equal = digest-5
  one-digest a earlier rest q (at_leaf i l n n') equal =
      digest-4 (equal (5, 0) (stands-before (upper p e e') (5, 0) (lower p e e') earlier (4, i) rest
      (sym (compared_is p e e') ∙ q) (not-upper p e e' i) (other-layer 4 5 i 0 (λ z. omega arith)))) i l n n'

  pub first-unequal : (a : ℕ × ℕ) (rest : List (ℕ × ℕ)) → unequal_at hash p key e e' ≡ a ∷ rest → (Equal a → ⊥) × OneDigest a
  unfolding unequal_at differs
  first-unequal a rest q =
      let f = those-first differs (compared p e e') a rest q in (
        unfold Equal in eq_list-false _ _ (not-true _ f.passes),
        one-digest a f.before f.after f.is (compared-mem p e e' a (rw f.is (Memᴰ.append_right f.before (Memᴰ.head refl))))
            (λ b m. unfold Equal in eq_list-true _ _ (not-false _ (f.fail b m))),
      )

  -- ---- none is unequal

  abbrev pub AllEqual : Type 0
  AllEqual = (a : ℕ × ℕ) → Memᴰ a (compared p e e') → Equal a

  pub none_then : unequal_at hash p key e e' ≡ [] → AllEqual
  unfolding unequal_at Equal differs
  none_then q a m = eq_list-true _ _ (not-false _ (none-those differs (compared p e e') q a m))

  pub none-when : AllEqual → unequal_at hash p key e e' ≡ []
  unfolding unequal_at Equal differs
  none-when h = those-none differs (compared p e e') (λ a m. rw (eq_list-of _ _ (h a m)))

  pub same-leaves : AllEqual → SameLeaves hash hash-length p e e' matched
  same-leaves h i l n n' = unfold Equal string_at in h (4, i) (mem-compared p e e' (4, i) (at_leaf i l n n'))

  pub same-axis : AllEqual → (j : ℕ) → j < p.axes → axis_of e j ≡ axis_of e' j
  unfolding Equal
  same-axis h j l = sym (string-6 hash p key e j) ∙ h (6, j + 1) (mem-compared p e e' (6, j + 1) (at_axis j l)) ∙ string-6 hash p key e' j

  pub same-commitments : AllEqual → (i : ℕ) → i < leaves p → leaf_commitment hash p e i ≡ leaf_commitment hash p e' i
  same-commitments h =
      commitments-same hash hash-length p e e' matched.same-prefix matched.length5 matched.length5'
      (unfold Equal string_at in h (5, 0) (mem-compared p e e' (5, 0) at_commitment))
