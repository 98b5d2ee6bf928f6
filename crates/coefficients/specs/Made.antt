-- What the functions of this crate leave in the words.
--
--   prepared-made, prepared-image    a front is lent and comes back as g, the rest as zeros; what `image` requires then holds
--   vector-made                      x of share i: x_A in front, and behind it H'x_A, with y added where `first`
use Rattle.std.specs.Prelude.{◌≡◌, refl, Bool, true, false, cond, List, [], ◌++◌, map, ℕ, ◌-◌, ◌*◌, ◌≤◌, ◌<◌, length, get_or, take, drop, replicate}
use Rattle.std.proofs.Common.{sym, ap, ◌∙◌, le_of_eq, arith, length-append, take_at, drop_at}
use Rattle.std.proofs.lemmas.List.{length-replicate}
use Rattle.lists.specs.Part.Laws.{tail-part, tail-back}
use Rattle.lists.specs.Sum.{xor_list}
use Rattle.parameters.specs.declared.Parameters.{Parameters}
use Rattle.relation.specs.Key.{rows}
use Rattle.layout.specs.Layout.{at_x, y_length}
use Rattle.points.specs.Written.{halves-room, halves-made}
use Rattle.exchange.specs.Reading.{bytes_at}
use Rattle.exchange.proofs.Reading.Laws.{bytes_at-all}
use Rattle.exchange.specs.Values.{key_of, x_a_of, image_of, x_of}
use Rattle.packed.specs.Share.{share}
use Rattle.packed.specs.Share.Laws.{share-append, share-sum}
use Rattle.coefficients.specs.Spread.{spread, share-spread}

-- ---- the words before the matrix is applied

pub prepared-made : (k m : ℕ) (w g z : List ℕ) → length w ≡ m → length g ≡ k → k ≤ m
    → z ≡ replicate (length (take (length (g ++ drop k w) - k) (drop k (g ++ drop k w)))) 0
    → take k (g ++ drop k w) ++ (z ++ drop (length (g ++ drop k w) - k) (drop k (g ++ drop k w))) ≡ g ++ replicate (m - k) 0
prepared-made k m w g z lw lg h ez =
    halves-made w g k lg z (omega arith) ∙ ap (◌++◌ g) (ez ∙ ap (λ (n : ℕ). replicate n 0) (halves-room w g k lg (m - k) (omega arith)))

module _ (k m : ℕ) (g w : List ℕ) (h : k ≤ m) (lg : length g ≡ k) (e : w ≡ g ++ replicate (m - k) 0) where
  prepared-length : length w ≡ m
  prepared-length = let r = length-replicate {A = ℕ} (m - k) 0 in ap length e ∙ length-append g (replicate (m - k) 0) ∙ omega arith

  prepared-front : take k w ≡ g
  prepared-front = ap (take k) e ∙ take_at g (replicate (m - k) 0) k lg

  pub prepared-image : (matrix : List ℕ) → length matrix ≡ (m - k) * k
      → (k ≤ length w) × ((length w - k) * k ≤ length matrix) × (drop k w ≡ replicate (length w - k) 0)
  prepared-image matrix em = rw prepared-length (h, le_of_eq (sym em), ap (drop k) e ∙ drop_at g (replicate (m - k) 0) k lg)

-- ---- x

share-constant : (i : ℕ) (first : Bool) (y : List ℕ) → i < 8 → ((k : ℕ) → get_or y k 0 < 256)
    → share i (cond first (map spread y) []) ≡ cond first y []
unfolding share
share-constant i true y hi bytes = share-spread i y hi bytes
share-constant i false y hi bytes = refl

module _ (p : Parameters) (matrix y : List ℕ) (first : Bool) (s : List ℕ) (i : ℕ) (hi : i < 8) (bytes : (k : ℕ) → get_or y k 0 < 256)
    (ly : length y ≡ y_length p) where
  joined : (g h : List ℕ) → share i g ≡ bytes_at s (at_x p) p.k → share i h ≡ rows (y_length p) matrix (share i g)
      → share i (g ++ xor_list h (cond first (map spread y) [])) ≡ x_of p (key_of matrix y) first s
  unfolding x_of x_a_of image_of
  joined g h eg eh =
      rw (share-append i g (xor_list h (cond first (map spread y) [])), share-sum i h (cond first (map spread y) []), eh, eg)
      (rw (share-constant i first y hi bytes, bytes_at-all y (y_length p) ly) refl)

  pub vector-made : (g w v u : List ℕ) → p.k ≤ p.m → length g ≡ p.k → w ≡ g ++ replicate (y_length p) 0 → length v ≡ length w
      → take p.k v ≡ take p.k w → share i (drop p.k v) ≡ rows (length w - p.k) matrix (share i (take p.k w))
      → u ≡ xor_list (take (length v - p.k) (drop p.k v)) (cond first (map spread y) []) → share i g ≡ bytes_at s (at_x p) p.k
      → share i (take p.k v ++ (u ++ drop (length v - p.k) (drop p.k v))) ≡ x_of p (key_of matrix y) first s
  vector-made g w v u h lg ew lv ev ei eu eg =
      let l = prepared-length p.k p.m g w h lg ew in
      let f = prepared-front p.k p.m g w h lg ew in
      rw (tail-back v u p.k (omega arith), ev, f, eu, tail-part v p.k) (joined g (drop p.k v) eg (rw (l, f) at ei))
