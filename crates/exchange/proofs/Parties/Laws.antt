-- The laws of sums over leaves and of what is hashed of an axis.
--
-- total-yes, total-no     one leaf more, picked or not
-- total_ext               the sum depends on the shares of the picked leaves alone
-- length-total            a sum of shares is as long as a share
-- bytes-total             a sum of bytes is bytes
-- string-inj              equal strings of one layer and prefix have the same rest
-- length-announced_bytes, announced-inj   what a party announces has 12t bytes, which determine α, β and v
-- axis_string-inj          equal strings of one axis say that the parties announce the same
use Rattle.std.specs.Prelude.{◌≡◌, Bool, List, ◌++◌, drop, replicate}
use Rattle.std.proofs.Math.Path.{refl, sym, ap₂}
use Rattle.std.proofs.Common.{ap, ◌∙◌, le_refl, lit<}
use Rattle.std.proofs.Math.Bool.{true, false, cond}
use Prim.Native.Nat.{ℕ, zero, suc, ◌+◌, ◌≤◌, ◌<◌}
use native.Mathlib.Omega.{arith}
use Rattle.std.proofs.Math.ListN.{length, length-append, length-replicate}
use Rattle.lists.specs.Sum.{xor_list}
use Rattle.lists.specs.Sum.Laws.{length-xor_list}
use Rattle.polynomial.specs.Bytes.{Bytes}
use Rattle.polynomial.specs.Bytes.Laws.{bytes-xor_list}
use Rattle.parameters.specs.declared.Parameters.{Parameters}
use Rattle.layout.specs.Layout.{side, row_length, share_length}
use Rattle.exchange.proofs.Sequences.Laws.{append_inj, joined-inj}
use Rattle.exchange.specs.Strings.{string, string6}
use Rattle.exchange.specs.Reading.{encode}
use Rattle.exchange.proofs.Reading.Laws.{length-encode, encode_inj}
use Rattle.exchange.specs.Parties.{Announced, total, announced_bytes, axis_string}

-- ---- sums of shares

module _ (p : Parameters) (picks : ℕ → Bool) where
  pub total-yes : (s : ℕ → List ℕ) (n : ℕ) → picks n ≡ true → total p picks s (suc n) ≡ xor_list (total p picks s n) (s n)
  unfolding total
  total-yes s n e = rw e

  pub total-no : (s : ℕ → List ℕ) (n : ℕ) → picks n ≡ false → total p picks s (suc n) ≡ total p picks s n
  unfolding total
  total-no s n e = rw e

  pub total_ext : (s t : ℕ → List ℕ) (n : ℕ) → ((i : ℕ) → i < n → picks i ≡ true → s i ≡ t i) → total p picks s n ≡ total p picks t n
  unfolding total
  total_ext s t zero h = refl
  total_ext s t (suc n) h = go (picks n) refl (total_ext s t n (λ i l. h i (omega arith)))
    where
      go : (b : Bool) → picks n ≡ b → total p picks s n ≡ total p picks t n
          → cond b (xor_list (total p picks s n) (s n)) (total p picks s n) ≡ cond b (xor_list (total p picks t n) (t n)) (total p picks t n)
      go true e ih = ap₂ xor_list ih (h n (le_refl (suc n)) e)
      go false e ih = ih

  pub length-total : (s : ℕ → List ℕ) (n : ℕ) → ((i : ℕ) → i < n → picks i ≡ true → length (s i) ≤ share_length p)
      → length (total p picks s n) ≡ share_length p
  unfolding total
  length-total s zero h = length-replicate (share_length p) 0
  length-total s (suc n) h = go (picks n) refl (length-total s n (λ i l. h i (omega arith)))
    where
      go : (b : Bool) → picks n ≡ b → length (total p picks s n) ≡ share_length p
          → length (cond b (xor_list (total p picks s n) (s n)) (total p picks s n)) ≡ share_length p
      go true e ih = let k = h n (le_refl (suc n)) e in length-xor_list (total p picks s n) (s n) (omega arith) ∙ ih
      go false e ih = ih

  bytes-zeros : (n : ℕ) → Bytes (replicate n 0)
  bytes-zeros zero = tt
  bytes-zeros (suc n) = (lit< tt, bytes-zeros n)

  pub bytes-total : (s : ℕ → List ℕ) (n : ℕ) → ((i : ℕ) → i < n → picks i ≡ true → Bytes (s i)) → Bytes (total p picks s n)
  unfolding total
  bytes-total s zero h = bytes-zeros (share_length p)
  bytes-total s (suc n) h = go (picks n) refl (bytes-total s n (λ i l. h i (omega arith)))
    where
      go : (b : Bool) → picks n ≡ b → Bytes (total p picks s n) → Bytes (cond b (xor_list (total p picks s n) (s n)) (total p picks s n))
      go true e ih = bytes-xor_list (total p picks s n) (s n) ih (h n (le_refl (suc n)) e)
      go false e ih = ih

-- ---- strings

pub string-inj : (layer : ℕ) (prefix a b : List ℕ) → string layer prefix a ≡ string layer prefix b → a ≡ b
unfolding string
string-inj layer prefix a b e = (append_inj prefix a prefix b refl (ap (drop 1) e)).1

module _ (p : Parameters) where
  pub length-announced_bytes : (A : Announced) (c : ℕ) → length (announced_bytes p A c) ≡ row_length p
  unfolding announced_bytes
  length-announced_bytes A c =
      length-append (encode (A.α c) p.t) (encode (A.β c) p.t ++ encode (A.v c) p.t)
      ∙ ap₂ ◌+◌ (length-encode (A.α c) p.t)
      (length-append (encode (A.β c) p.t) (encode (A.v c) p.t)
      ∙ ap₂ ◌+◌ (length-encode (A.β c) p.t) (length-encode (A.v c) p.t))
      ∙ omega arith

  pub announced-inj : (A B : Announced) (c : ℕ) → announced_bytes p A c ≡ announced_bytes p B c
      → (l : ℕ) → l < p.t → (A.α c l ≡ B.α c l) × (A.β c l ≡ B.β c l) × (A.v c l ≡ B.v c l)
  unfolding announced_bytes
  announced-inj A B c e l h =
      let front = append_inj (encode (A.α c) p.t) _ (encode (B.α c) p.t) _
      (length-encode (A.α c) p.t ∙ sym (length-encode (B.α c) p.t)) e in
      let back = append_inj (encode (A.β c) p.t) _ (encode (B.β c) p.t) _
      (length-encode (A.β c) p.t ∙ sym (length-encode (B.β c) p.t)) front.1 in (
        encode_inj (A.α c) (B.α c) p.t front.0 l h,
        encode_inj (A.β c) (B.β c) p.t back.0 l h,
        encode_inj (A.v c) (B.v c) p.t back.1 l h,
      )

  pub axis_string-inj : (prefix : List ℕ) (j : ℕ) (A B : Announced) → axis_string p prefix j A ≡ axis_string p prefix j B
      → (c l : ℕ) → c < side p → l < p.t → (A.α c l ≡ B.α c l) × (A.β c l ≡ B.β c l) × (A.v c l ≡ B.v c l)
  unfolding axis_string string6
  axis_string-inj prefix j A B e c l hc hl =
      announced-inj A B c
      (joined-inj (announced_bytes p A) (announced_bytes p B) (side p) (row_length p) (λ c h. length-announced_bytes A c)
      (λ c h. length-announced_bytes B c)
      (ap (drop 1) (string-inj 6 prefix _ _ e)) c hc) l hl
