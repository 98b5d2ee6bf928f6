-- The laws of what a share announces. It is additive in the share, but for the constants of the first party, which stand apart.
--
-- x_a_of-xor, q_of-xor, p_of-xor, a_of-xor, b_of-xor, c_of-xor, x_of-xor, s_of-xor   the parts of a sum of shares are the sums of the parts
-- y_placed p key           y at its place in x: k zeros, then y
-- leading_one p            the leading 1 of Q at its place: w zeros, then 1
-- x_of-first, s_of-first, q_of-first   the first party's x, S and Q: those of the share, and the constant
-- syndrome-is             'Hx is H'x_A + x_B': it is y, for x of any share with y added
-- alpha_constant, beta_constant       the constants of α and β; the constant of v is α̂·β̂
-- alpha-xor, beta-xor, part_v-xor        α, β and v of a sum of shares are the sums of α, β and v
-- alpha-first, beta-first, part_v-first  α, β and v of the first party: those of the share, and the constant
-- length-x_a_of, length-image_of, length-x_of, length-s_of, length-p_of   how many bytes they have
use Rattle.std.specs.Prelude.{◌≡◌, Bool, true, length, drop, replicate}
use Rattle.std.proofs.Math.Path.{sym, ap, ap₂}
use Rattle.std.proofs.Common.{◌∙◌, le_of_eq, arith, drop_at}
use Rattle.std.proofs.Math.Bool.{false}
use mathlib.Core.List.{List, [], ◌∷◌, ◌++◌}
use Prim.Native.Nat.{ℕ, ◌+◌, ◌*◌, ◌<◌}
use Rattle.std.proofs.Math.ListN.{length-append}
use Rattle.std.proofs.lemmas.List.{length-replicate}
use Rattle.lists.specs.Xor.Laws.{zero-⊕}
use Rattle.lists.specs.Sum.{xor_list}
use Rattle.lists.specs.Sum.Laws.{xor_list-nil, xor_list-comm, xor_list-assoc, xor_list-self, xor_list-append, xor_list-zeros, length-xor_list}
use Rattle.algebra.specs.Ring.{Ring2}
use Rattle.algebra.specs.Ring.Laws.{ring}
use Rattle.tower.specs.Field.{Point}
use Rattle.parameters.specs.declared.Parameters.{Parameters}
use Rattle.polynomial.specs.Interpolant.{interpolant_of}
use Rattle.polynomial.specs.Interpolant.Laws.{length-interpolant, interpolant-xor}
use Rattle.relation.proofs.Laws.Key.Vector.{length-rows, rows-xor}
use Rattle.layout.specs.Layout.{at_b, at_x, at_q, at_p, at_c, y_length}
use Rattle.exchange.specs.Reading.{points, bytes_at, value, ◌⊞◌, ◌⊠◌}
use Rattle.exchange.proofs.Reading.Laws.{length-bytes_at, bytes_at-xor, point_at-xor, value-xor}
use Rattle.exchange.specs.Values.{Key, x_a_of, q_of, p_of, a_of, b_of, c_of, point_of, multiplier_of, image_of, x_of, s_of, alpha, beta, part_v}

-- ---- the parts of a share

module _ (p : Parameters) where
  pub length-x_a_of : (s : List ℕ) → length (x_a_of p s) ≡ p.k
  unfolding x_a_of
  length-x_a_of s = length-bytes_at s (at_x p) p.k

  pub length-p_of : (s : List ℕ) → length (p_of p s) ≡ p.w
  unfolding p_of
  length-p_of s = length-bytes_at s (at_p p) p.w

  module _ (s t : List ℕ) where
    pub x_a_of-xor : x_a_of p (xor_list s t) ≡ xor_list (x_a_of p s) (x_a_of p t)
    unfolding x_a_of
    x_a_of-xor = bytes_at-xor s t (at_x p) p.k

    pub p_of-xor : p_of p (xor_list s t) ≡ xor_list (p_of p s) (p_of p t)
    unfolding p_of
    p_of-xor = bytes_at-xor s t (at_p p) p.w

    pub q_of-xor : q_of p false (xor_list s t) ≡ xor_list (q_of p false s) (q_of p false t)
    unfolding q_of xor_list
    q_of-xor =
        ap₂ (λ (l : List ℕ) (z : ℕ). l ++ (z ∷ [])) (bytes_at-xor s t (at_q p) p.w) (sym (zero-⊕ 0))
        ∙ sym (xor_list-append (bytes_at s (at_q p) p.w) (bytes_at t (at_q p) p.w) (0 ∷ []) (0 ∷ [])
        (length-bytes_at s (at_q p) p.w ∙ sym (length-bytes_at t (at_q p) p.w)))

    module _ (l : ℕ) where
      pub a_of-xor : a_of p (xor_list s t) l ≡ a_of p s l ⊞ a_of p t l
      unfolding a_of
      a_of-xor = point_at-xor s t (4 * l)

      pub b_of-xor : b_of p (xor_list s t) l ≡ b_of p s l ⊞ b_of p t l
      unfolding b_of
      b_of-xor = point_at-xor s t (at_b p + 4 * l)

      pub c_of-xor : c_of p (xor_list s t) l ≡ c_of p s l ⊞ c_of p t l
      unfolding c_of
      c_of-xor = point_at-xor s t (at_c p + 4 * l)

  unfoldable pub leading_one : List ℕ
  leading_one = replicate p.w 0 ++ (1 ∷ [])

  pub q_of-first : (s : List ℕ) → q_of p true s ≡ xor_list (q_of p false s) leading_one
  unfolding q_of xor_list leading_one
  q_of-first s =
      sym (xor_list-append (bytes_at s (at_q p) p.w) (replicate p.w 0) (0 ∷ []) (1 ∷ [])
      (length-bytes_at s (at_q p) p.w ∙ sym (length-replicate p.w 0))
      ∙ ap₂ (λ (l : List ℕ) (z : ℕ). l ++ (z ∷ []))
      (xor_list-zeros (bytes_at s (at_q p) p.w) p.w (le_of_eq (sym (length-bytes_at s (at_q p) p.w)))) (zero-⊕ 1))

-- ---- x and S

module _ (p : Parameters) (key : Key) where
  pub length-image_of : (x : List ℕ) → length (image_of p key x) ≡ y_length p
  unfolding image_of
  length-image_of x = length-rows (y_length p) key.matrix x

  image_of-xor : (x y : List ℕ) → length x ≡ length y → image_of p key (xor_list x y) ≡ xor_list (image_of p key x) (image_of p key y)
  unfolding image_of
  image_of-xor x y e = rows-xor (y_length p) key.matrix x y e

  -- without y
  pub x_of-plain : (s : List ℕ) → x_of p key false s ≡ x_a_of p s ++ image_of p key (x_a_of p s)
  unfolding x_of
  x_of-plain s = ap (λ (l : List ℕ). x_a_of p s ++ l) (xor_list-nil (image_of p key (x_a_of p s)))

  pub x_of-xor : (s t : List ℕ) → x_of p key false (xor_list s t) ≡ xor_list (x_of p key false s) (x_of p key false t)
  x_of-xor s t =
      x_of-plain (xor_list s t)
      ∙ ap (λ (l : List ℕ). l ++ image_of p key l) (x_a_of-xor p s t)
      ∙ ap (λ (l : List ℕ). xor_list (x_a_of p s) (x_a_of p t) ++ l) (image_of-xor (x_a_of p s) (x_a_of p t) same)
      ∙ sym (xor_list-append (x_a_of p s) (x_a_of p t) (image_of p key (x_a_of p s)) (image_of p key (x_a_of p t)) same)
      ∙ sym (ap₂ xor_list (x_of-plain s) (x_of-plain t))
    where
      same : length (x_a_of p s) ≡ length (x_a_of p t)
      same = length-x_a_of p s ∙ sym (length-x_a_of p t)

  unfoldable pub y_placed : List ℕ
  y_placed = replicate p.k 0 ++ bytes_at key.y 0 (y_length p)

  pub x_of-first : (s : List ℕ) → x_of p key true s ≡ xor_list (x_of p key false s) y_placed
  unfolding y_placed x_of
  x_of-first s =
      sym (ap (λ (l : List ℕ). xor_list l (replicate p.k 0 ++ bytes_at key.y 0 (y_length p))) (x_of-plain s)
      ∙ xor_list-append (x_a_of p s) (replicate p.k 0) (image_of p key (x_a_of p s)) (bytes_at key.y 0 (y_length p))
      (length-x_a_of p s ∙ sym (length-replicate p.k 0))
      ∙ ap (λ (l : List ℕ). l ++ xor_list (image_of p key (x_a_of p s)) (bytes_at key.y 0 (y_length p)))
      (xor_list-zeros (x_a_of p s) p.k (le_of_eq (sym (length-x_a_of p s)))))

  length-plain : (s : List ℕ) → length (x_of p key false s) ≡ p.k + (y_length p)
  length-plain s =
      ap length (x_of-plain s) ∙ length-append (x_a_of p s) (image_of p key (x_a_of p s))
      ∙ ap₂ ◌+◌ (length-x_a_of p s) (length-image_of (x_a_of p s))

  length-y_placed : length y_placed ≡ p.k + (y_length p)
  unfolding y_placed
  length-y_placed =
      length-append (replicate p.k 0) (bytes_at key.y 0 (y_length p))
      ∙ ap₂ ◌+◌ (length-replicate p.k 0) (length-bytes_at key.y 0 (y_length p))

  pub length-x_of : (first : Bool) (s : List ℕ) → p.k < p.m → length (x_of p key first s) ≡ p.m
  length-x_of true s l =
      let a = length-plain s in
      let b = length-y_placed in
      ap length (x_of-first s) ∙ length-xor_list (x_of p key false s) y_placed (omega arith) ∙ omega arith
  length-x_of false s l = length-plain s ∙ omega arith

  pub length-s_of : (first : Bool) (s : List ℕ) → p.k < p.m → length (s_of p key first s) ≡ p.m
  unfolding s_of
  length-s_of first s l = length-interpolant (x_of p key first s) ∙ length-x_of first s l

  pub syndrome-is : (s : List ℕ) → xor_list (image_of p key (x_a_of p s)) (drop p.k (x_of p key true s)) ≡ bytes_at key.y 0 (y_length p)
  unfolding x_of
  syndrome-is s =
      ap (xor_list (image_of p key (x_a_of p s))) (drop_at (x_a_of p s) _ p.k (length-x_a_of p s))
      ∙ sym (xor_list-assoc (image_of p key (x_a_of p s)) (image_of p key (x_a_of p s)) (bytes_at key.y 0 (y_length p)))
      ∙ ap (λ (l : List ℕ). xor_list l (bytes_at key.y 0 (y_length p))) (xor_list-self (image_of p key (x_a_of p s)))
      ∙ xor_list-comm _ (bytes_at key.y 0 (y_length p))
      ∙ xor_list-zeros (bytes_at key.y 0 (y_length p)) (length (image_of p key (x_a_of p s)))
      (le_of_eq (length-image_of (x_a_of p s) ∙ sym (length-bytes_at key.y 0 (y_length p))))

  pub s_of-xor : (s t : List ℕ) → s_of p key false (xor_list s t) ≡ xor_list (s_of p key false s) (s_of p key false t)
  unfolding s_of
  s_of-xor s t =
      ap interpolant_of (x_of-xor s t) ∙ interpolant-xor (x_of p key false s) (x_of p key false t) (length-plain s ∙ sym (length-plain t))

  pub s_of-first : (s : List ℕ) → s_of p key true s ≡ xor_list (s_of p key false s) (interpolant_of y_placed)
  unfolding s_of
  s_of-first s = ap interpolant_of (x_of-first s) ∙ interpolant-xor (x_of p key false s) y_placed (length-plain s ∙ sym length-y_placed)

-- ---- calculations, over any ring

module _ {K : Type 0} (R : Ring2 K) where
  infixl 60 ◌+K◌
  infixl 70 ◌*K◌
  open R use {zero as 𝟘, add as ◌+K◌, mul as ◌*K◌}

  alpha-sum : (e q q' a a' : K) → e *K (q +K q') +K (a +K a') ≡ (e *K q +K a) +K (e *K q' +K a')
  alpha-sum e q q' a a' = simp (ring, R)

  alpha-apart : (e q q' a : K) → e *K (q +K q') +K a ≡ e *K q' +K (e *K q +K a)
  alpha-apart e q q' a = simp (ring, R)

  beta-sum : (s s' b b' : K) → (s +K s') +K (b +K b') ≡ (s +K b) +K (s' +K b')
  beta-sum s s' b b' = simp (ring, R)

  beta-apart : (s s' b : K) → (s +K s') +K b ≡ s' +K (s +K b)
  beta-apart s s' b = simp (ring, R)

  v_sum : (c c' e f p p' A b b' B a a' : K)
      → (c +K c') +K e *K (f *K (p +K p')) +K A *K (b +K b') +K B *K (a +K a') +K 𝟘
      ≡ (c +K e *K (f *K p) +K A *K b +K B *K a +K 𝟘) +K (c' +K e *K (f *K p') +K A *K b' +K B *K a' +K 𝟘)
  v_sum c c' e f p p' A b b' B a a' = simp (ring, R)

  v-apart : (v z : K) → v +K z ≡ z +K (v +K 𝟘)
  v-apart v z = simp (ring, R)

-- ---- α, β and v

module _ (p : Parameters) (key : Key) (m2 : List ℕ) (l : ℕ) where
  r : Point
  r = point_of p m2 l

  pub alpha-xor : (s t : List ℕ) → alpha p key m2 false (xor_list s t) l ≡ alpha p key m2 false s l ⊞ alpha p key m2 false t l
  unfolding alpha r
  alpha-xor s t =
      ap₂ (λ (q a : Point). multiplier_of p m2 l ⊠ q ⊞ a)
      (ap (λ (z : List ℕ). value z r) (q_of-xor p s t) ∙ value-xor (q_of p false s) (q_of p false t) r)
      (a_of-xor p s t l)
      ∙ alpha-sum points.base _ _ _ _ _

  unfoldable pub alpha_constant : Point
  alpha_constant = multiplier_of p m2 l ⊠ value (leading_one p) (point_of p m2 l)

  pub alpha-first : (s : List ℕ) → alpha p key m2 true s l ≡ alpha_constant ⊞ alpha p key m2 false s l
  unfolding alpha alpha_constant r
  alpha-first s =
      ap (λ (q : Point). multiplier_of p m2 l ⊠ q ⊞ a_of p s l)
      (ap (λ (z : List ℕ). value z r) (q_of-first p s) ∙ value-xor (q_of p false s) (leading_one p) r)
      ∙ alpha-apart points.base _ _ _ _

  pub beta-xor : (s t : List ℕ) → beta p key m2 false (xor_list s t) l ≡ beta p key m2 false s l ⊞ beta p key m2 false t l
  unfolding beta r
  beta-xor s t =
      ap₂ (λ (q b : Point). q ⊞ b)
      (ap (λ (z : List ℕ). value z r) (s_of-xor p key s t) ∙ value-xor (s_of p key false s) (s_of p key false t) r)
      (b_of-xor p s t l)
      ∙ beta-sum points.base _ _ _ _

  unfoldable pub beta_constant : Point
  beta_constant = value (interpolant_of (y_placed p key)) (point_of p m2 l)

  pub beta-first : (s : List ℕ) → beta p key m2 true s l ≡ beta_constant ⊞ beta p key m2 false s l
  unfolding beta beta_constant r
  beta-first s =
      ap (λ (q : Point). q ⊞ b_of p s l)
      (ap (λ (z : List ℕ). value z r) (s_of-first p key s) ∙ value-xor (s_of p key false s) (interpolant_of (y_placed p key)) r)
      ∙ beta-apart points.base _ _ _

  pub part_v-xor : (α̂ β̂ : Point) (s t : List ℕ)
      → part_v p key m2 false (xor_list s t) α̂ β̂ l ≡ part_v p key m2 false s α̂ β̂ l ⊞ part_v p key m2 false t α̂ β̂ l
  unfolding part_v
  part_v-xor α̂ β̂ s t =
      rw (
        c_of-xor p s t l,
        b_of-xor p s t l,
        a_of-xor p s t l,
        p_of-xor p s t,
        value-xor (p_of p s) (p_of p t) (point_of p m2 l),
      )
      (v_sum points.base _ _ _ _ _ _ _ _ _ _ _ _)

  pub part_v-first : (α̂ β̂ : Point) (s : List ℕ) → part_v p key m2 true s α̂ β̂ l ≡ α̂ ⊠ β̂ ⊞ part_v p key m2 false s α̂ β̂ l
  unfolding part_v
  part_v-first α̂ β̂ s = v-apart points.base _ _
