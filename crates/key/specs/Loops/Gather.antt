-- The loop that writes the elements of a list at the positions of E, or at all others, one after the other.
--
--   wanted c b               does a position with the mark b count, where c says which do?
--   selected c bs s          the elements of s that count: those that are marked, or the others
--   put_if b p at v, next_if b at     v at place at, where b; and the next place
--   put-hit, put-miss        the function that does it
--   Gathered c x s k i at p total   at turn i, with k positions still to fill in, p is on its way to total
--   gathered-start, -turn, -end     before, at and after the turns
--   gathered-room            there is room for an element that counts
use Rattle.std.specs.Prelude.{◌≡◌, Bool, not, ℕ, ◌+◌, ◌-◌, ◌≤◌, ◌<◌, set}
use Rattle.std.proofs.Math.Path.{refl, sym, ap, ap₂}
use Rattle.std.proofs.Common.{◌∙◌, drop_of_length-le, drop-cons, take_all, take-suc-set}
use Rattle.std.proofs.Math.Bool.{true, false}
use mathlib.Core.List.{List, [], ◌∷◌, ◌++◌, append-nil}
use Rattle.std.proofs.Math.Numerals.{add-one}
use native.Mathlib.Omega.{arith}
use Rattle.std.proofs.Math.ListN.{length, take, drop, get_or, length-append}
use Rattle.std.proofs.Math.Seq.{length-take-le, append_snoc}
use Rattle.algebra.specs.Marks.{pick, leave}
use Rattle.relation.specs.Key.{weight_of, positions}
use Rattle.key.specs.Loops.Positions.{chosen, spared, marks_from, marks-start, marks-step, marks-end}

unfoldable pub wanted : Bool → Bool → Bool
wanted true b = b
wanted false b = not b

unfoldable pub selected : Bool → List Bool → List ℕ → List ℕ
selected true bs s = pick bs s
selected false bs s = leave bs s

-- ---- one element

pub wanted-inside : (c b : Bool) → c ≡ true → b ≡ wanted c b
unfolding wanted
wanted-inside c b e = rw e refl

pub wanted-outside : (c b : Bool) → c ≡ false → not b ≡ wanted c b
unfolding wanted
wanted-outside c b e = rw e refl

unfoldable pub put_if : Bool → List ℕ → ℕ → ℕ → List ℕ
put_if true p at v = set p at v
put_if false p at v = p

unfoldable pub next_if : Bool → ℕ → ℕ
next_if true at = at + 1
next_if false at = at

pub put-hit : (b : Bool) (p : List ℕ) (at v r : ℕ) → b ≡ true → r ≡ at + 1 → (set p at v ≡ put_if b p at v) × (r ≡ next_if b at)
unfolding put_if next_if
put-hit b p at v r e er = rw e (refl, er)

pub put-miss : (b : Bool) (p : List ℕ) (at v : ℕ) → b ≡ false → (p ≡ put_if b p at v) × (at ≡ next_if b at)
unfolding put_if next_if
put-miss b p at v e = rw e (refl, refl)

-- ---- the turns

abbrev pub Gathered : Bool → List ℕ → List ℕ → ℕ → ℕ → ℕ → List ℕ → List ℕ → Type 0
Gathered c x s left i at p total = (at ≤ length p) × (take at p ++ selected c (marks_from left i x) (drop i s) ≡ total)

pub gathered-start : (c : Bool) (x s p : List ℕ) (w v : ℕ) → v ≡ w - weight_of x → Gathered c x s v 0 0 p (selected c (positions w x) s)
gathered-start c x s p w v ev = (omega arith, ap (λ (bs : List Bool). selected c bs s) (marks-start w v x ev))

front-if : Bool → ℕ → List ℕ → List ℕ
front-if true v l = v ∷ l
front-if false v l = l

selected_step : (c b : Bool) (bs : List Bool) (v : ℕ) (s : List ℕ) → selected c (b ∷ bs) (v ∷ s) ≡ front-if (wanted c b) v (selected c bs s)
unfolding selected wanted front-if pick leave
selected_step true true bs v s = refl
selected_step true false bs v s = refl
selected_step false true bs v s = refl
selected_step false false bs v s = refl

module _ (c : Bool) (x s p total : List ℕ) (left i at : ℕ) (b h : Bool) (in-x : i < length x) (in-s : i < length s)
    (eb : b ≡ chosen (get_or x i 0) left) (eh : h ≡ wanted c b) (e : Gathered c x s left i at p total) where
  rest : List ℕ
  rest = selected c (marks_from (spared (get_or x i 0) left) (i + 1) x) (drop (i + 1) s)

  ahead : take at p ++ front-if h (get_or s i 0) rest ≡ total
  unfolding rest
  ahead =
      sym (ap (◌++◌ (take at p))
      (ap₂ (selected c) (marks-step left i x in-x) (drop-cons s i 0 in-s ∙ ap (λ (j : ℕ). get_or s i 0 ∷ drop j s) (sym (add-one i)))
      ∙ selected_step c (chosen (get_or x i 0) left) _ (get_or s i 0) (drop (i + 1) s)
      ∙ ap (λ (d : Bool). front-if (wanted c d) (get_or s i 0) (selected c (marks_from (spared (get_or x i 0) left) (i + 1) x) (drop (i + 1) s))) (sym eb)
      ∙ ap (λ (d : Bool). front-if d (get_or s i 0) (selected c (marks_from (spared (get_or x i 0) left) (i + 1) x) (drop (i + 1) s))) (sym eh)))
      ∙ e.1

  pub gathered-room : length p ≡ length total → h ≡ true → at < length p
  unfolding front-if
  gathered-room l t =
      let a = ap length (ap (λ (d : Bool). take at p ++ front-if d (get_or s i 0) rest) (sym t) ∙ ahead) in
      let n = length-append (take at p) (get_or s i 0 ∷ rest) in
      let k = length-take-le at p e.0 in
      omega arith

  pub gathered-turn : (q : List ℕ) (left' at' : ℕ) → length p ≡ length total → length q ≡ length p → q ≡ put_if h p at (get_or s i 0) → at' ≡ next_if h at
      → left' ≡ spared (get_or x i 0) left → Gathered c x s left' (i + 1) at' q total
  unfolding put_if next_if front-if rest
  gathered-turn q left' at' l k eq ea el = go h refl
    where
      go : (d : Bool) → h ≡ d → Gathered c x s left' (i + 1) at' q total
      go true t =
          let room = gathered-room l t in
          let a : at' ≡ at + 1 = ea ∙ ap (λ (d : Bool). next_if d at) t in (
            omega arith,
            ap₂ (λ (m : ℕ) (z : List ℕ). take m z ++ selected c (marks_from left' (i + 1) x) (drop (i + 1) s)) (a ∙ add-one at) (eq ∙ ap (λ (d : Bool). put_if d p at (get_or s i 0)) t)
                ∙ ap₂ (λ (m : List ℕ) (j : ℕ). m ++ selected c (marks_from j (i + 1) x) (drop (i + 1) s)) (take-suc-set p at (get_or s i 0) room) el
                ∙ append_snoc (take at p) (get_or s i 0) _ ∙ ap (λ (d : Bool). take at p ++ front-if d (get_or s i 0) rest) (sym t) ∙ ahead,
          )
      go false t =
          let a : at' ≡ at = ea ∙ ap (λ (d : Bool). next_if d at) t in
          let b = e.0 in (
            omega arith,
            ap₂ (λ (m : ℕ) (z : List ℕ). take m z ++ selected c (marks_from left' (i + 1) x) (drop (i + 1) s)) a (eq ∙ ap (λ (d : Bool). put_if d p at (get_or s i 0)) t)
                ∙ ap (λ (j : ℕ). take at p ++ selected c (marks_from j (i + 1) x) (drop (i + 1) s)) el
                ∙ ap (λ (d : Bool). take at p ++ front-if d (get_or s i 0) rest) (sym t) ∙ ahead,
          )

selected-none : (c : Bool) → selected c [] [] ≡ []
unfolding selected pick leave
selected-none true = refl
selected-none false = refl

pub gathered-end : (c : Bool) (x s p total : List ℕ) (left i at : ℕ) → length x ≤ i → length s ≡ length x → length p ≡ length total
    → Gathered c x s left i at p total → p ≡ total
gathered-end c x s p total left i at h l k e =
    let z : take at p ≡ total =
    sym (append-nil (take at p)) ∙ ap (◌++◌ (take at p)) (sym (ap₂ (selected c) (marks-end left i x h) (drop_of_length-le s {i = i} (omega arith)) ∙ selected-none c)) ∙ e.1 in
    let a = ap length z in
    let b = length-take-le at p e.0 in
    sym (take_all at p (omega arith)) ∙ z
