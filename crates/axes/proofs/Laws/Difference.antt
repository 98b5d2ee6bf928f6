-- What a share announces, by differences: α, β and v are additive in the share, and the constants cancel.
--
-- encode-xor, front-xor        sums of points are sums of their bytes, also in front of others
-- share_row p key m2 first s α̂ β̂   α, β and v of the share s at all positions, with the constants where `first`
-- alpha-difference, beta-difference, part_v-difference   of two shares, both with the constants or both without
-- row-difference               the same of the row
use Rattle.std.specs.Prelude.{◌≡◌, refl, Bool, true, false, ℕ, zero, suc}
use Rattle.std.proofs.Common.{sym, ap, ◌∙◌}
use Rattle.std.proofs.Math.Path.{ap₂}
use mathlib.Core.List.{List, ◌++◌}
use Rattle.lists.specs.Sum.{xor_list}
use Rattle.lists.specs.Sum.Laws.{xor_list-append}
use Rattle.cube.specs.Group.{Group2, additive}
use Rattle.cube.specs.Group.Laws.{group}
use Rattle.bytefield.specs.Byte.{byte_ring}
use Rattle.tower.specs.Field.{Point, bytes_of}
use Rattle.parameters.specs.declared.Parameters.{Parameters}
use Rattle.exchange.specs.Sequences.{joined}
use Rattle.exchange.specs.Reading.{points, encode, ◌⊞◌}
use Rattle.exchange.proofs.Reading.Laws.{length-encode, encode-ext}
use Rattle.exchange.specs.Values.{Key, alpha, beta, part_v}
use Rattle.exchange.proofs.Values.Laws.{alpha-xor, alpha-first, beta-xor, beta-first, part_v-xor, part_v-first}

-- ---- bytes

pub encode-xor : (f g : ℕ → Point) (n : ℕ) → xor_list (encode f n) (encode g n) ≡ encode (λ l. f l ⊞ g l) n
unfolding encode joined xor_list bytes_of points byte_ring
encode-xor f g zero = refl
encode-xor f g (suc n) =
    xor_list-append (encode f n) (encode g n) (bytes_of (f n)) (bytes_of (g n)) (length-encode f n ∙ sym (length-encode g n))
    ∙ ap (λ (z : List ℕ). z ++ bytes_of (f n ⊞ g n)) (encode-xor f g n)

-- the same of the front of two lists
pub front-xor : (f g : ℕ → Point) (n : ℕ) (x y : List ℕ) → xor_list (encode f n ++ x) (encode g n ++ y) ≡ encode (λ l. f l ⊞ g l) n ++ xor_list x y
front-xor f g n x y =
    xor_list-append (encode f n) (encode g n) x y (length-encode f n ∙ sym (length-encode g n)) ∙ ap (λ (z : List ℕ). z ++ xor_list x y) (encode-xor f g n)

-- ---- a share's row

module _ (p : Parameters) (key : Key) (m2 : List ℕ) where
  unfoldable pub share_row : Bool → List ℕ → (ℕ → Point) → (ℕ → Point) → List ℕ
  share_row first s α̂ β̂ =
      encode (alpha p key m2 first s) p.t
      ++ (encode (beta p key m2 first s) p.t ++ encode (λ l. part_v p key m2 first s (α̂ l) (β̂ l) l) p.t)

-- ---- differences

-- x and y without the constant k, and with it
twice : {A : Type 0} (G : Group2 A) (k x y : A) → G.add (G.add k x) (G.add k y) ≡ G.add x y
twice G k x y = simp (group, G)

module _ (p : Parameters) (key : Key) (m2 a s : List ℕ) where
  difference : (f : Bool → List ℕ → Point) (k : Point) → f false (xor_list a s) ≡ f false a ⊞ f false s → ((z : List ℕ) → f true z ≡ k ⊞ f false z)
      → (first : Bool) → f first a ⊞ f first s ≡ f false (xor_list a s)
  difference f k ex ef true = ap₂ ◌⊞◌ (ef a) (ef s) ∙ twice (additive points.base) k _ _ ∙ sym ex
  difference f k ex ef false = sym ex

  pub alpha-difference : (l : ℕ) (first : Bool) → alpha p key m2 first a l ⊞ alpha p key m2 first s l ≡ alpha p key m2 false (xor_list a s) l
  alpha-difference l = difference (λ b z. alpha p key m2 b z l) _ (alpha-xor p key m2 l a s) (alpha-first p key m2 l)

  pub beta-difference : (l : ℕ) (first : Bool) → beta p key m2 first a l ⊞ beta p key m2 first s l ≡ beta p key m2 false (xor_list a s) l
  beta-difference l = difference (λ b z. beta p key m2 b z l) _ (beta-xor p key m2 l a s) (beta-first p key m2 l)

  pub part_v-difference : (α̂ β̂ : Point) (l : ℕ) (first : Bool)
      → part_v p key m2 first a α̂ β̂ l ⊞ part_v p key m2 first s α̂ β̂ l ≡ part_v p key m2 false (xor_list a s) α̂ β̂ l
  part_v-difference α̂ β̂ l = difference (λ b z. part_v p key m2 b z α̂ β̂ l) _ (part_v-xor p key m2 l α̂ β̂ a s) (part_v-first p key m2 l α̂ β̂)

  pub row-difference : (α̂ β̂ : ℕ → Point) (first : Bool)
      → xor_list (share_row p key m2 first a α̂ β̂) (share_row p key m2 first s α̂ β̂) ≡ share_row p key m2 false (xor_list a s) α̂ β̂
  unfolding share_row
  row-difference α̂ β̂ first =
      front-xor _ _ p.t _ _ ∙ ap₂ ◌++◌ (encode-ext _ _ p.t (λ l h. alpha-difference l first))
      (front-xor _ _ p.t _ _ ∙ ap₂ ◌++◌ (encode-ext _ _ p.t (λ l h. beta-difference l first))
      (encode-xor _ _ p.t ∙ encode-ext _ _ p.t (λ l h. part_v-difference (α̂ l) (β̂ l) l first)))
