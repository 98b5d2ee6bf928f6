-- The sum of the prover's leaves: 'its aux = x_A, Q, P, c makes the sums come right, with c = a·b at each position'.
--
-- added_twice              a list added twice falls out
-- own_sum                   the sum of all leaves' shares
-- sum-front, sum_back      its a and b are those that were drawn; the rest is what was wanted
-- x_a-is, locator-is, P-is, c-is   x_A, Q, P and c of the sum
-- x-is                     x of the sum, with y, is the key's
-- relation-of-sum          at each position ε·(S·Q + P·F)(r) = c + a·b holds of the sum
use Rattle.std.specs.Prelude.{◌≡◌, true, get_or, take, drop}
use Rattle.std.proofs.Math.Path.{refl, sym, ap, ap₂}
use Rattle.std.proofs.Common.{◌∙◌, le_of_eq, drop_of_length-le, get_or-take, drop_at, take_all}
use mathlib.Core.List.{List, [], ◌∷◌, ◌++◌, append-nil, append_assoc}
use Prim.Native.Nat.{ℕ, suc, ◌+◌, ◌-◌, ◌*◌, ◌<◌}
use native.Mathlib.Omega.{arith}
use Rattle.std.proofs.Math.ListN.{length, length-append, length-drop}
use Rattle.std.proofs.Math.Seq.{take_at}
use Rattle.lists.specs.Sum.{xor_list}
use Rattle.lists.specs.Sum.Laws.{take-xor_list, drop-xor_list, xor_list-nil, xor_list-comm, xor_list-assoc, xor_list-self, xor_list-zeros}
use Rattle.algebra.specs.Ring.{Ring2}
use Rattle.algebra.specs.Ring.Laws.{ring, combine}
use Rattle.tower.specs.Field.{Point}
use Rattle.parameters.specs.declared.Parameters.{Parameters}
use Rattle.polynomial.specs.Interpolant.{interpolant_of, vanishing_of}
use Rattle.relation.specs.Key.{rows, vector_of, locator_of, quotient_of}
use Rattle.relation.proofs.Laws.Key.Polynomials.{locator-monic, key-relation}
use Rattle.layout.specs.Layout.{leaves, at_b, at_x, at_q, at_p, at_c, y_length}
use Rattle.layout.specs.Layout.Laws.{leaves-pos}
use Rattle.exchange.specs.Run.{Run}
use Rattle.exchange.specs.Strings.{string3}
use Rattle.exchange.specs.Leaf.{share}
use Rattle.exchange.proofs.Leaf.Laws.{share-last, share_other}
use Rattle.exchange.specs.Reading.{points, bytes_at, point_at, encode, value, ◌⊠◌}
use Rattle.exchange.proofs.Reading.Laws.{bytes_at-all, bytes_at-drop, bytes_at-inside, point_at-ext, point_at-drop, point_at-encode, value-times}
use Rattle.exchange.specs.Values.{Key, x_a_of, q_of, p_of, F, a_of, b_of, c_of, point_of, image_of, x_of, s_of}
use Rattle.exchange.proofs.Values.Relation.{Relation}
use Rattle.exchange.specs.Parties.{total}
use Rattle.exchange.proofs.Parties.Laws.{total_ext}
use Rattle.exchange.specs.Messages.{own_state, drawn, wanted, own_aux, own_share}
use Rattle.exchange.proofs.Messages.Laws.{Secret, length-x_a, length-Q, length-P, length-drawn, length-wanted, fits}

-- the relation, where S·Q = P·F and c = a·b
relation-of : {K : Type 0} (R : Ring2 K) (e s q p f a b c : K) → R.mul s q ≡ R.mul p f → c ≡ R.mul a b
    → R.mul e (R.add (R.mul s q) (R.mul p f)) ≡ R.add c (R.mul a b)
relation-of R e s q p f a b c h k = combine R e _ _ h (combine R R.one _ _ k (simp (ring, R)))

pub added_twice : (f w : List ℕ) → length f ≡ length w → xor_list f (xor_list w f) ≡ w
added_twice f w e =
    xor_list-comm f (xor_list w f) ∙ xor_list-assoc w f f ∙ ap (xor_list w) (xor_list-self f) ∙ xor_list-zeros w (length f) (le_of_eq e)

module _ (hash : List ℕ → ℕ → List ℕ) (p : Parameters) (x : List ℕ) (run : Run) where
  unfoldable pub own_sum : List ℕ
  own_sum = total p (λ i. true) (own_share hash p x run) (leaves p)

  -- ---- leaf n−1 apart

  last : ℕ
  last = leaves p - 1

  last_drawn : List ℕ
  last_drawn = hash (string3 run.prefix last (take 16 (own_state hash p x run last))) (at_x p)

  others : List ℕ
  others = total p (λ i. true) (λ i. share hash p run.prefix i (own_state hash p x run i) []) last

  all-leaves : leaves p ≡ suc last
  unfolding last
  all-leaves = let h = leaves-pos p in omega arith

  last-share : (aux : List ℕ) → share hash p run.prefix last (own_state hash p x run last) aux ≡ last_drawn ++ aux
  unfolding last_drawn last
  last-share aux = share-last hash p run.prefix (leaves p - 1) (own_state hash p x run (leaves p - 1)) aux refl

  other-share : (aux aux' : List ℕ) (i : ℕ) → i < last
      → share hash p run.prefix i (own_state hash p x run i) aux ≡ share hash p run.prefix i (own_state hash p x run i) aux'
  unfolding last
  other-share aux aux' i l =
      share_other hash p run.prefix i (own_state hash p x run i) aux (λ e. omega arith)
      ∙ sym (share_other hash p run.prefix i (own_state hash p x run i) aux' (λ e. omega arith))

  drawn-is : drawn hash p x run ≡ xor_list others last_drawn
  unfolding drawn total others
  drawn-is = rw all-leaves (ap (xor_list others) (last-share [] ∙ append-nil last_drawn))

  sum_is : own_sum ≡ xor_list others (last_drawn ++ own_aux hash p x run)
  unfolding own_sum total others own_share
  sum_is =
      rw all-leaves
      (ap₂ xor_list
      (total_ext p (λ i. true) (λ i. share hash p run.prefix i (own_state hash p x run i) (own_aux hash p x run))
      (λ i. share hash p run.prefix i (own_state hash p x run i) []) last (λ i l e. other-share (own_aux hash p x run) [] i l))
      (last-share (own_aux hash p x run)))

  module _ (hash-length : (s : List ℕ) (n : ℕ) → length (hash s n) ≡ n) where
    length-last_drawn : length last_drawn ≡ at_x p
    unfolding last_drawn
    length-last_drawn = hash-length _ (at_x p)

    pub sum-front : take (at_x p) own_sum ≡ take (at_x p) (drawn hash p x run)
    sum-front =
        ap (take (at_x p)) sum_is ∙ take-xor_list (at_x p) others (last_drawn ++ own_aux hash p x run)
        ∙ ap (xor_list (take (at_x p) others))
        (take_at last_drawn (own_aux hash p x run) (at_x p) length-last_drawn
        ∙ sym (take_all (at_x p) last_drawn (le_of_eq length-last_drawn)))
        ∙ sym (ap (take (at_x p)) drawn-is ∙ take-xor_list (at_x p) others last_drawn)

    drawn-back : drop (at_x p) (drawn hash p x run) ≡ drop (at_x p) others
    drawn-back =
        ap (drop (at_x p)) drawn-is ∙ drop-xor_list (at_x p) others last_drawn
        ∙ ap (xor_list (drop (at_x p) others)) (drop_of_length-le last_drawn (le_of_eq length-last_drawn))
        ∙ xor_list-nil (drop (at_x p) others)

    module _ (secret : Secret p x) where
      pub sum_back : drop (at_x p) own_sum ≡ wanted hash p x run
      unfolding own_aux
      sum_back =
          ap (drop (at_x p)) sum_is ∙ drop-xor_list (at_x p) others (last_drawn ++ own_aux hash p x run)
          ∙ ap (xor_list (drop (at_x p) others))
          (drop_at last_drawn (own_aux hash p x run) (at_x p) length-last_drawn ∙ ap (xor_list (wanted hash p x run)) drawn-back)
          ∙ added_twice (drop (at_x p) others) (wanted hash p x run) size
        where
          size : length (drop (at_x p) others) ≡ length (wanted hash p x run)
          size =
              let a = length-drawn hash hash-length p x secret run in
              let b = length-wanted hash hash-length p x secret run in
              ap length (sym drawn-back) ∙ length-drop (at_x p) (drawn hash p x run) ∙ omega arith

      -- ---- the parts of the sum

      x_a : List ℕ
      x_a = take p.k x

      Q : List ℕ
      Q = take p.w (locator_of p.w x)

      P : List ℕ
      P = quotient_of p.w x

      products : ℕ → Point
      products l = a_of p (drawn hash p x run) l ⊠ b_of p (drawn hash p x run) l

      wanted-is : wanted hash p x run ≡ x_a ++ (Q ++ (P ++ encode products p.t))
      unfolding wanted x_a Q P products
      wanted-is = refl

      behind : (i j n : ℕ) → i ≡ at_x p + j → bytes_at own_sum i n ≡ bytes_at (x_a ++ (Q ++ (P ++ encode products p.t))) j n
      behind i j n e =
          ap (λ (i : ℕ). bytes_at own_sum i n) e ∙ sym (bytes_at-drop (at_x p) own_sum j n)
          ∙ ap (λ (s : List ℕ). bytes_at s j n) (sum_back ∙ wanted-is)

      pub x_a-is : x_a_of p own_sum ≡ take p.k x
      unfolding x_a_of x_a
      x_a-is = behind (at_x p) 0 p.k (omega arith) ∙ bytes_at-inside [] x_a _ 0 p.k refl (length-x_a p x secret)

      Q-is : bytes_at own_sum (at_q p) p.w ≡ take p.w (locator_of p.w x)
      unfolding Q x_a
      Q-is = behind (at_q p) p.k p.w refl ∙ bytes_at-inside x_a Q _ p.k p.w (length-x_a p x secret) (length-Q p x secret)

      pub locator-is : q_of p true own_sum ≡ locator_of p.w x
      unfolding q_of
      locator-is =
          ap (λ (l : List ℕ). l ++ (1 ∷ [])) Q-is ∙ sym (locator-monic p.w x secret.light (fits p x secret).0)

      two : length (x_a ++ Q) ≡ p.k + p.w
      unfolding x_a Q
      two = length-append x_a Q ∙ ap₂ ◌+◌ (length-x_a p x secret) (length-Q p x secret)

      pub P-is : p_of p own_sum ≡ quotient_of p.w x
      unfolding p_of P
      P-is =
          behind (at_p p) (p.k + p.w) p.w (omega arith)
          ∙ ap (λ (s : List ℕ). bytes_at s (p.k + p.w) p.w) (sym (append_assoc x_a Q (P ++ encode products p.t)))
          ∙ bytes_at-inside (x_a ++ Q) P (encode products p.t) (p.k + p.w) p.w two (length-P p x secret)

      three : length ((x_a ++ Q) ++ P) ≡ p.k + p.w + p.w
      unfolding P
      three = length-append (x_a ++ Q) P ∙ ap₂ ◌+◌ two (length-P p x secret)

      regroup : (a b c d : List ℕ) → a ++ (b ++ (c ++ d)) ≡ ((a ++ b) ++ c) ++ (d ++ [])
      regroup a b c d = simp (append_assoc, append-nil)

      pub c-is : (l : ℕ) → l < p.t → c_of p own_sum l ≡ a_of p (drawn hash p x run) l ⊠ b_of p (drawn hash p x run) l
      unfolding c_of products
      c-is l h =
          let q : at_c p + 4 * l ≡ at_x p + (p.k + p.w + p.w + 4 * l) = omega arith in
          ap (point_at own_sum) q ∙ sym (point_at-drop (at_x p) own_sum (p.k + p.w + p.w + 4 * l))
          ∙ ap (λ (s : List ℕ). point_at s (p.k + p.w + p.w + 4 * l)) (sum_back ∙ wanted-is ∙ regroup x_a Q P (encode products p.t))
          ∙ point_at-encode ((x_a ++ Q) ++ P) products p.t [] (p.k + p.w + p.w) l three h

      -- a point within the first 8t bytes
      in-front : (i : ℕ) → i + 4 < at_x p + 1 → point_at own_sum i ≡ point_at (drawn hash p x run) i
      in-front i h =
          point_at-ext own_sum (drawn hash p x run) i i
          (λ k l. sym (get_or-take (at_x p) own_sum (i + k) 0 (omega arith)) ∙ ap (λ (s : List ℕ). get_or s (i + k) 0) sum-front
          ∙ get_or-take (at_x p) (drawn hash p x run) (i + k) 0 (omega arith))

      pub a-is : (l : ℕ) → l < p.t → a_of p own_sum l ≡ a_of p (drawn hash p x run) l
      unfolding a_of
      a-is l h = in-front (4 * l) (omega arith)

      pub b-is : (l : ℕ) → l < p.t → b_of p own_sum l ≡ b_of p (drawn hash p x run) l
      unfolding b_of
      b-is l h = in-front (at_b p + 4 * l) (omega arith)

      -- ---- the key

      module _ (key : Key) (x_a₀ : List ℕ) (size : length x_a₀ ≡ p.k) (size_y : length key.y ≡ y_length p)
          (is : x ≡ vector_of key.matrix key.y x_a₀) where
        own-x_a : x_a_of p own_sum ≡ x_a₀
        unfolding vector_of
        own-x_a = x_a-is ∙ ap (take p.k) is ∙ take_at x_a₀ _ p.k size

        pub x-is : x_of p key true own_sum ≡ x
        unfolding x_of image_of vector_of
        x-is =
            ap₂ (λ (l y : List ℕ). l ++ xor_list (rows (y_length p) key.matrix l) y) own-x_a (bytes_at-all key.y (y_length p) size_y)
            ∙ ap (λ (n : ℕ). x_a₀ ++ xor_list (rows n key.matrix x_a₀) key.y) (sym size_y)
            ∙ sym is

        product_is : (r : Point) → value (s_of p key true own_sum) r ⊠ value (q_of p true own_sum) r ≡ value (p_of p own_sum) r ⊠ value (F p) r
        unfolding s_of F
        product_is r =
            ap₂ (λ (s q : List ℕ). value s r ⊠ value q r) (ap interpolant_of x-is) locator-is
            ∙ sym (value-times (interpolant_of x) (locator_of p.w x) r)
            ∙ ap (λ (s : List ℕ). value s r)
            (key-relation p.w x secret.light (fits p x secret).0 (fits p x secret).2 (fits p x secret).3 secret.bytes)
            ∙ value-times (quotient_of p.w x) (vanishing_of (length x)) r
            ∙ sym (ap₂ (λ (s f : List ℕ). value s r ⊠ value f r) P-is (ap vanishing_of (sym secret.long)))

        pub relation-of-sum : (m2 : List ℕ) (l : ℕ) → l < p.t
            → Relation p key m2 own_sum l
        relation-of-sum m2 l h =
            relation-of points.base _ _ _ _ _ _ _ _ (product_is (point_of p m2 l)) (c-is l h ∙ sym (ap₂ ◌⊠◌ (a-is l h) (b-is l h)))
