-- The lengths of the prover's messages, and that they are bytes.
--
-- Secret p x               x of a valid key: parameters within their limits, m bytes, at most w of them nonzero
-- length-drawn, length-wanted, length-aux   a share's length; aux has k + 2w + 4t bytes
-- length-message1          message 1 has 64 bytes
-- length-message3          message 3 has 32 bytes
-- length-message5          'Length 5: 16D + 32 + 8t, plus k + 2w + 4t with aux'
-- bytes-aux, bytes-message5   they are bytes, where the hash gives bytes
use Rattle.std.specs.Prelude.{◌≡◌, Bool, take, drop}
use Rattle.std.proofs.Math.Path.{refl, ap₂}
use Rattle.std.proofs.Common.{◌∙◌, length-take}
use Rattle.std.proofs.Math.Bool.{true, false, cond}
use mathlib.Core.List.{List, [], ◌++◌}
use Prim.Native.Nat.{ℕ, ◌+◌, ◌≤◌, ◌<◌}
use native.Mathlib.Omega.{arith}
use Rattle.std.proofs.Math.ListN.{length, length-append, length-drop}
use Rattle.lists.specs.Sum.Laws.{length-xor_list}
use Rattle.parameters.specs.declared.Parameters.{Parameters}
use Rattle.parameters.specs.Limits.{Within}
use Rattle.polynomial.specs.Bytes.{Bytes}
use Rattle.polynomial.specs.Bytes.Laws.{bytes_take, bytes-append, bytes-xor_list}
use Rattle.relation.specs.Key.{weight_of, locator_of, quotient_of}
use Rattle.relation.proofs.Laws.Key.Polynomials.{length-locator, length-quotient, bytes-locator, bytes-quotient}
use Rattle.layout.specs.Layout.{levels, leaves, is_last, points_length, factor_length, values_length, aux_length, share_length, at_x, siblings_length, message5_length}
use Rattle.exchange.specs.Run.{Run}
use Rattle.exchange.proofs.Sequences.Laws.{bytes_drop}
use Rattle.exchange.specs.Tree.{sibling_seeds}
use Rattle.exchange.proofs.Tree.Laws.{length-sibling_seeds, bytes-sibling_seeds}
use Rattle.exchange.specs.Leaf.{share}
use Rattle.exchange.proofs.Leaf.Laws.{length-share-le, length-commitment, bytes-share, bytes-commitment}
use Rattle.exchange.specs.Reading.{encode}
use Rattle.exchange.proofs.Reading.Laws.{length-encode, bytes-encode}
use Rattle.exchange.specs.Values.{Key}
use Rattle.exchange.proofs.Parties.Laws.{length-total, bytes-total}
use Rattle.exchange.specs.Messages.{own_state, drawn, wanted, own_aux, own_commitment, message1, message3, message5}

pub record Secret (p : Parameters) (x : List ℕ) : Type 0 where
  pub within : Within p
  pub long : length x ≡ p.m
  pub light : weight_of x ≤ p.w
  pub bytes : Bytes x

-- ---- Q and P of a secret

module _ (p : Parameters) (x : List ℕ) (secret : Secret p x) where
  pub fits : (p.w ≤ length x) × (p.k ≤ length x) × (1 ≤ p.w) × (length x < 256)
  fits =
      let a = secret.within.w-most in
      let b = secret.within.k-most in
      let c = secret.within.m-most in
      let d = secret.within.w-least in
      let e = secret.long in
      omega arith

  pub length-x_a : length (take p.k x) ≡ p.k
  length-x_a = let h = fits.1 in simp length-take (omega arith)

  pub length-Q : length (take p.w (locator_of p.w x)) ≡ p.w
  length-Q = let h = length-locator p.w x secret.light fits.0 in simp length-take (omega arith)

  pub length-P : length (quotient_of p.w x) ≡ p.w
  length-P = length-quotient p.w x secret.light fits.0 fits.2 fits.3 secret.bytes

-- ---- lengths

module _ (hash : List ℕ → ℕ → List ℕ) (hash-length : (s : List ℕ) (n : ℕ) → length (hash s n) ≡ n)
    (p : Parameters) (x : List ℕ) (secret : Secret p x) (run : Run) where
  pub length-drawn : length (drawn hash p x run) ≡ share_length p
  unfolding drawn
  length-drawn =
      length-total p (λ i. true) (λ i. share hash p run.prefix i (own_state hash p x run i) []) (leaves p)
      (λ i l e. length-share-le hash hash-length p run.prefix i (own_state hash p x run i) [] (omega arith))

  length-four : (a b c d : List ℕ) → length a ≡ p.k → length b ≡ p.w → length c ≡ p.w → length d ≡ points_length p
      → length (a ++ (b ++ (c ++ d))) ≡ aux_length p
  length-four a b c d ha hb hc hd = simp length-append (omega arith)

  pub length-wanted : length (wanted hash p x run) ≡ aux_length p
  unfolding wanted
  length-wanted =
      length-four (take p.k x) (take p.w (locator_of p.w x)) (quotient_of p.w x) _
      (length-x_a p x secret) (length-Q p x secret) (length-P p x secret) (length-encode _ p.t)

  pub length-aux : length (own_aux hash p x run) ≡ aux_length p
  unfolding own_aux
  length-aux =
      let a = length-wanted in
      let b = length-drawn in
      let c : length (drop (at_x p) (drawn hash p x run)) ≡ aux_length p = length-drop (at_x p) (drawn hash p x run) ∙ omega arith in
      length-xor_list (wanted hash p x run) (drop (at_x p) (drawn hash p x run)) (omega arith) ∙ a

  pub length-own_commitment : (i : ℕ) → length (own_commitment hash p x run i) ≡ 32
  unfolding own_commitment
  length-own_commitment i = length-commitment hash hash-length p run.prefix i (own_state hash p x run i) (own_aux hash p x run)

  pub length-message1 : length run.prefix ≡ 32 → length (message1 hash p x run) ≡ 64
  unfolding message1
  length-message1 e = length-append run.prefix _ ∙ ap₂ ◌+◌ e (hash-length _ 32)

  module _ (key : Key) (m2 : List ℕ) where
    pub length-message3 : length (message3 hash p x run key m2) ≡ 32
    unfolding message3
    length-message3 = hash-length _ 32

    length-five : (a b c d e : List ℕ) (r : ℕ) → length a ≡ siblings_length p → length b ≡ 32 → length c ≡ factor_length p → length d ≡ factor_length p
        → length e ≡ r → length (a ++ (b ++ (c ++ (d ++ e)))) ≡ siblings_length p + 32 + values_length p + r
    length-five a b c d e r ha hb hc hd he = simp length-append (omega arith)

    pub length-message5 : (u : ℕ) → length (message5 hash p x run key m2 u) ≡ message5_length p u
    unfolding message5 message5_length
    length-message5 u =
        length-five (sibling_seeds hash run.prefix (levels p) 1 run.root u) (own_commitment hash p x run u) (encode _ p.t) (encode _ p.t)
        (cond (is_last p u) [] (own_aux hash p x run)) (cond (is_last p u) 0 (aux_length p))
        (length-sibling_seeds hash run.prefix hash-length (levels p) 1 run.root u) (length-own_commitment u) (length-encode _ p.t) (length-encode _ p.t)
        (go (is_last p u))
      where
        go : (b : Bool) → length (cond b [] (own_aux hash p x run)) ≡ cond b 0 (aux_length p)
        go true = refl
        go false = length-aux

-- ---- bytes

module _ (hash : List ℕ → ℕ → List ℕ) (hash-bytes : (s : List ℕ) (n : ℕ) → Bytes (hash s n))
    (p : Parameters) (x : List ℕ) (bytes : Bytes x) (run : Run) where
  bytes-drawn : Bytes (drawn hash p x run)
  unfolding drawn
  bytes-drawn =
      bytes-total p (λ i. true) (λ i. share hash p run.prefix i (own_state hash p x run i) []) (leaves p)
      (λ i l e. bytes-share hash hash-bytes p run.prefix i (own_state hash p x run i) [] tt)

  bytes-wanted : Bytes (wanted hash p x run)
  unfolding wanted
  bytes-wanted =
      bytes-append (take p.k x) _ (bytes_take p.k x bytes)
      (bytes-append (take p.w (locator_of p.w x)) _ (bytes_take p.w (locator_of p.w x) (bytes-locator p.w x))
      (bytes-append (quotient_of p.w x) _ (bytes-quotient p.w x) (bytes-encode _ p.t)))

  pub bytes-aux : Bytes (own_aux hash p x run)
  unfolding own_aux
  bytes-aux = bytes-xor_list (wanted hash p x run) _ bytes-wanted (bytes_drop (at_x p) (drawn hash p x run) bytes-drawn)

  module _ (key : Key) (m2 : List ℕ) where
    pub bytes-message5 : (u : ℕ) → Bytes (message5 hash p x run key m2 u)
    unfolding message5 own_commitment
    bytes-message5 u =
        bytes-append (sibling_seeds hash run.prefix (levels p) 1 run.root u) _ (bytes-sibling_seeds hash run.prefix hash-bytes (levels p) 1 run.root u)
        (bytes-append (own_commitment hash p x run u) _ (bytes-commitment hash hash-bytes p run.prefix u _ _)
        (bytes-append (encode _ p.t) _ (bytes-encode _ p.t) (bytes-append (encode _ p.t) _ (bytes-encode _ p.t) (go (is_last p u)))))
      where
        go : (b : Bool) → Bytes (cond b [] (own_aux hash p x run))
        go true = tt
        go false = bytes-aux
