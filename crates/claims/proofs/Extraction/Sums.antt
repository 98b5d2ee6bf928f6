-- The sums over all leaves are the parts of one sum of shares.
--
-- whole p s                the sum of the shares of all leaves
-- length-summed, summed-ext   lengths, and on what a sum of lists depends
-- summed-is                an additive part of a share, of the sum of shares: the sum of the parts
-- whole-ext                it depends on the shares of the leaves alone
-- x_sum-is, q_sum-is, p_sum-is, a_sum-is, b_sum-is, c_sum-is   the sums are x, Q, P, a, b, c of the summed share, with the constants
-- SumsRelation, sums-then, sums-when   so ε(SQ − PF)(r) = c − ab holds of the sums exactly where it holds of the summed share
-- syndrome-holds           Hx = y
-- bytes-x_sum               where shares and y are bytes, x is
use Rattle.std.specs.Prelude.{◌≡◌, refl, true, length, drop, replicate}
use Rattle.std.proofs.Math.Path.{sym, ap, ap₂}
use Rattle.std.proofs.Common.{◌∙◌, le_refl, arith, take_at, drop_at}
use Rattle.std.proofs.Math.Bool.{false}
use mathlib.Core.List.{List, [], ◌∷◌, ◌++◌}
use Prim.Native.Nat.{ℕ, zero, suc, ◌<◌}
use Rattle.std.proofs.Math.ListN.{take}
use Rattle.std.proofs.lemmas.List.{length-replicate}
use Rattle.lists.specs.Sum.{xor_list}
use Rattle.lists.specs.Sum.Laws.{length-xor_list, xor_list-comm, xor_list-self}
use Rattle.polynomial.specs.Bytes.{Bytes}
use Rattle.polynomial.specs.Interpolant.{interpolant_of}
use Rattle.polynomial.specs.Bytes.Laws.{byte-at, bytes-append, bytes-xor_list}
use Rattle.relation.proofs.Laws.Key.Vector.{bytes-rows}
use Rattle.parameters.specs.declared.Parameters.{Parameters}
use Rattle.layout.specs.Layout.{leaves, share_length, at_x, at_q, y_length}
use Rattle.exchange.specs.Reading.{bytes_at, value, ◌⊞◌, ◌⊠◌}
use Rattle.exchange.proofs.Reading.Laws.{length-bytes_at, bytes_at-all, bytes_at-xor}
use Rattle.exchange.specs.Values.{Key, x_a_of, q_of, p_of, a_of, b_of, c_of, point_of, multiplier_of, F, image_of, x_of, s_of}
use Rattle.exchange.proofs.Values.Relation.{Relation}
use Rattle.exchange.proofs.Values.Laws.{length-x_a_of, length-image_of, length-x_of, length-p_of, x_of-plain, x_of-xor, p_of-xor, a_of-xor, b_of-xor, c_of-xor}
use Rattle.exchange.proofs.Messages.Sum.{added_twice}
use Rattle.exchange.specs.Parties.{total}
use Rattle.exchange.proofs.Parties.Laws.{total_ext, bytes-total}
use Rattle.exchange.proofs.Parties.Cube.{total-additive}
use Rattle.claims.specs.Words.{leaf_x, summed, plain_x, x_sum, q_sum, p_sum, a_sum, b_sum, c_sum}

abbrev pub whole : Parameters → (ℕ → List ℕ) → List ℕ
whole p s = total p (λ i. true) s (leaves p)

-- ---- sums of lists

pub length-summed : (size : ℕ) (f : ℕ → List ℕ) (n : ℕ) → ((i : ℕ) → i < n → length (f i) ≡ size) → length (summed size f n) ≡ size
unfolding summed
length-summed size f zero h = length-replicate size 0
length-summed size f (suc n) h =
    let a = length-summed size f n (λ i l. h i (omega arith)) in
    let b = h n (le_refl (suc n)) in
    length-xor_list (summed size f n) (f n) (omega arith) ∙ a

pub summed-ext : (size : ℕ) (f g : ℕ → List ℕ) (n : ℕ) → ((i : ℕ) → i < n → f i ≡ g i) → summed size f n ≡ summed size g n
unfolding summed
summed-ext size f g zero h = refl
summed-ext size f g (suc n) h = ap₂ xor_list (summed-ext size f g n (λ i l. h i (omega arith))) (h n (le_refl (suc n)))

module _ (p : Parameters) (φ : List ℕ → List ℕ) (size : ℕ) (φ-xor : (s t : List ℕ) → φ (xor_list s t) ≡ xor_list (φ s) (φ t))
    (φ-length : (s : List ℕ) → length (φ s) ≡ size) where
  -- the zeros are their own sum
  φ-zeros : (n : ℕ) → φ (replicate n 0) ≡ replicate size 0
  φ-zeros n =
      ap φ (ap (λ (k : ℕ). replicate k 0) (sym (length-replicate n 0)) ∙ sym (xor_list-self (replicate n 0)))
      ∙ φ-xor (replicate n 0) (replicate n 0) ∙ xor_list-self (φ (replicate n 0)) ∙ ap (λ (k : ℕ). replicate k 0) (φ-length (replicate n 0))

  pub summed-is : (s : ℕ → List ℕ) (n : ℕ) → summed size (λ i. φ (s i)) n ≡ φ (total p (λ i. true) s n)
  unfolding total summed
  summed-is s zero = sym (φ-zeros (share_length p))
  summed-is s (suc n) =
      ap (λ (l : List ℕ). xor_list l (φ (s n))) (summed-is s n) ∙ sym (φ-xor (total p (λ i. true) s n) (s n))

pub whole-ext : (p : Parameters) (s s' : ℕ → List ℕ) → ((i : ℕ) → i < leaves p → s i ≡ s' i) → whole p s ≡ whole p s'
whole-ext p s s' same = total_ext p (λ i. true) s s' (leaves p) (λ i h t. same i h)

-- ---- Q, P, a, b, c

module _ (p : Parameters) (key : Key) (s : ℕ → List ℕ) where
  pub q_sum-is : q_sum p key s ≡ q_of p true (whole p s)
  unfolding q_sum q_of
  q_sum-is =
      ap (λ (l : List ℕ). l ++ (1 ∷ []))
      (summed-is p (λ s. bytes_at s (at_q p) p.w) p.w (λ s t. bytes_at-xor s t (at_q p) p.w) (λ s. length-bytes_at s (at_q p) p.w) s (leaves p))

  pub p_sum-is : p_sum p key s ≡ p_of p (whole p s)
  unfolding p_sum
  p_sum-is = summed-is p (p_of p) p.w (p_of-xor p) (length-p_of p) s (leaves p)

  module _ (l : ℕ) where
    pub a_sum-is : a_sum p key s l ≡ a_of p (whole p s) l
    unfolding a_sum
    a_sum-is = sym (total-additive p (λ s. a_of p s l) (λ s t. a_of-xor p s t l) (λ i. true) s (leaves p))

    pub b_sum-is : b_sum p key s l ≡ b_of p (whole p s) l
    unfolding b_sum
    b_sum-is = sym (total-additive p (λ s. b_of p s l) (λ s t. b_of-xor p s t l) (λ i. true) s (leaves p))

    pub c_sum-is : c_sum p key s l ≡ c_of p (whole p s) l
    unfolding c_sum
    c_sum-is = sym (total-additive p (λ s. c_of p s l) (λ s t. c_of-xor p s t l) (λ i. true) s (leaves p))

-- ---- x

module _ (p : Parameters) (key : Key) (short : p.k < p.m) (y-length : length key.y ≡ y_length p) (s : ℕ → List ℕ) where
  -- x_A of the summed share, and its image
  abbrev front : List ℕ
  front = x_a_of p (whole p s)

  abbrev image : List ℕ
  image = image_of p key front

  plain-is : plain_x p key s ≡ front ++ image
  unfolding leaf_x
  plain-is =
      summed-ext p.m (λ i. x_a_of p (s i) ++ image_of p key (x_a_of p (s i))) (λ i. x_of p key false (s i)) (leaves p)
      (λ i l. sym (x_of-plain p key (s i)))
      ∙ summed-is p (x_of p key false) p.m (x_of-xor p key) (λ s. length-x_of p key false s short) s (leaves p)
      ∙ x_of-plain p key (whole p s)

  parts : x_sum p key s ≡ front ++ xor_list image key.y
  unfolding x_sum
  parts =
      ap (λ (l : List ℕ). take p.k l ++ xor_list (drop p.k l) key.y) plain-is
      ∙ ap₂ (λ (a b : List ℕ). a ++ xor_list b key.y) (take_at front image p.k (length-x_a_of p (whole p s)))
      (drop_at front image p.k (length-x_a_of p (whole p s)))

  pub x_sum-is : x_sum p key s ≡ x_of p key true (whole p s)
  unfolding x_of
  x_sum-is = parts ∙ ap (λ (l : List ℕ). front ++ xor_list image l) (sym (bytes_at-all key.y (y_length p) y-length))

  module _ (m2 : List ℕ) (l : ℕ) where
    abbrev pub SumsRelation : Type 0
    SumsRelation =
        multiplier_of p m2 l
        ⊠ (value (interpolant_of (x_sum p key s)) (point_of p m2 l) ⊠ value (q_sum p key s) (point_of p m2 l)
        ⊞ value (p_sum p key s) (point_of p m2 l) ⊠ value (F p) (point_of p m2 l))
        ≡ c_sum p key s l ⊞ a_sum p key s l ⊠ b_sum p key s l

    pub sums-when : Relation p key m2 (whole p s) l → SumsRelation
    unfolding s_of
    sums-when h = rw (x_sum-is, q_sum-is p key s, p_sum-is p key s, a_sum-is p key s l, b_sum-is p key s l, c_sum-is p key s l) h

    pub sums-then : SumsRelation → Relation p key m2 (whole p s) l
    unfolding s_of
    sums-then h = rw (x_sum-is, q_sum-is p key s, p_sum-is p key s, a_sum-is p key s l, b_sum-is p key s l, c_sum-is p key s l) at h

  pub length-x_sum : length (x_sum p key s) ≡ p.m
  length-x_sum = ap length x_sum-is ∙ length-x_of p key true (whole p s) short

  pub syndrome-holds : xor_list (image_of p key (take p.k (x_sum p key s))) (drop p.k (x_sum p key s)) ≡ key.y
  syndrome-holds =
      ap (λ (l : List ℕ). xor_list (image_of p key (take p.k l)) (drop p.k l)) parts
      ∙ ap₂ (λ (a b : List ℕ). xor_list (image_of p key a) b) (take_at front (xor_list image key.y) p.k (length-x_a_of p (whole p s)))
      (drop_at front (xor_list image key.y) p.k (length-x_a_of p (whole p s)))
      ∙ ap (xor_list image) (xor_list-comm image key.y) ∙ added_twice image key.y (length-image_of p key front ∙ sym y-length)

  bytes-bytes_at : (l : List ℕ) (i n : ℕ) → Bytes l → Bytes (bytes_at l i n)
  unfolding bytes_at
  bytes-bytes_at l i zero h = tt
  bytes-bytes_at l i (suc n) h = (byte-at i l h, bytes-bytes_at l (suc i) n h)

  pub bytes-x_sum : ((i : ℕ) → i < leaves p → Bytes (s i)) → Bytes key.y → Bytes (x_sum p key s)
  bytes-x_sum h y-bytes =
      rw parts
      (bytes-append front (xor_list image key.y)
      (unfold x_a_of in bytes-bytes_at (whole p s) (at_x p) p.k (bytes-total p (λ i. true) s (leaves p) (λ i l t. h i l)))
      (bytes-xor_list image key.y (unfold image_of in bytes-rows (y_length p) key.matrix front) y-bytes))
