-- The laws of what an opening is held to.
--
-- digest-in, response-in, message2-in, prefix-in   what was written is read back
-- length-message2_in      the length of message 2 in it
-- prefix-lent, message2-lent   the prefix and message 2, lent
-- written, written_at    writes one behind the other make the list
-- length-salt, length-run_prefix, length-digest, length-message2_at, length-message3_at, length-statement_at   the lengths of what run e has
-- exchange-in            the exchange that it has is run e of that of messages 1 to 5
use Rattle.std.specs.Prelude.{◌≡◌}
use Rattle.std.proofs.Math.Path.{sym, ap, ap₂}
use Rattle.std.proofs.Common.{◌∙◌, length-take-le}
use mathlib.Core.List.{List, [], ◌∷◌, ◌++◌, append_assoc}
use Prim.Native.Nat.{ℕ, ◌+◌, ◌*◌, ◌-◌, ◌≤◌}
use native.Mathlib.Omega.{arith}
use Rattle.std.proofs.Math.ListN.{length, take, drop, length-append}
use Rattle.std.proofs.Math.Seq.{take_at, drop_at}
use Rattle.lists.specs.Part.{part, put_at}
use Rattle.lists.specs.Part.Laws.{length_part, tail-part, lent-part, put_at-put_at, put_at-whole}
use Rattle.parameters.specs.declared.Parameters.{Parameters}
use Rattle.layout.specs.Layout.{message2_length, message2_place, prefix_place, prefix_length, statement_length}
use Rattle.layout.specs.Runs.{digest_place}
use Rattle.exchange.specs.Opening.{exchange}
use Rattle.runs.specs.Run.{run_prefix}
use Rattle.runs.specs.Messages.{message2_at, leaf_at}
use Rattle.runs.specs.Opening.{Transcript, message1_at, message3_at, message5_at, exchange_at}
use Rattle.openings.specs.Statement.{statement_of, statement_at, digest_in, response_in, message2_in, prefix_in, exchange_in, StatementAsked}

pub length-message2_in : (p : Parameters) (s : List ℕ) → prefix_place p ≤ length s → length (message2_in p s) ≡ message2_length p
unfolding message2_in
length-message2_in p s h = length_part s message2_place (message2_length p) h

-- the left sides are what the borrow checker has
module _ (p : Parameters) (s : List ℕ) {a : ℕ} (e : a ≡ prefix_place p) where
  pub prefix-lent : take (length s - a) (drop a s) ≡ prefix_in p s
  unfolding prefix_in
  prefix-lent = tail-part s a ∙ ap (λ (k : ℕ). drop k s) e

  pub message2-lent : take (a - message2_place) (drop message2_place s) ≡ message2_in p s
  unfolding message2_in part
  message2-lent = let n : a - message2_place ≡ message2_length p = omega arith in ap (λ (k : ℕ). take k (drop message2_place s)) n

module _ (p : Parameters) (h h' m2 prefix : List ℕ) (first : length h ≡ 32) (second : length h' ≡ 32) (third : length m2 ≡ message2_length p) where
  pub digest-in : digest_in (statement_of h h' m2 prefix) ≡ h
  unfolding statement_of digest_in
  digest-in = take_at h (h' ++ (m2 ++ prefix)) 32 first

  pub response-in : response_in (statement_of h h' m2 prefix) ≡ h'
  unfolding statement_of response_in part
  response-in = ap (take 32) (drop_at h (h' ++ (m2 ++ prefix)) 32 first) ∙ take_at h' (m2 ++ prefix) 32 second

  -- what follows h and h'
  behind : drop message2_place (h ++ (h' ++ (m2 ++ prefix))) ≡ m2 ++ prefix
  behind =
      let l = length-append h h' in
      ap (drop message2_place) (sym (append_assoc h h' (m2 ++ prefix))) ∙ drop_at (h ++ h') (m2 ++ prefix) message2_place (omega arith)

  pub message2-in : message2_in p (statement_of h h' m2 prefix) ≡ m2
  unfolding statement_of message2_in part
  message2-in = ap (take (message2_length p)) behind ∙ take_at m2 prefix (message2_length p) third

  pub prefix-in : prefix_in p (statement_of h h' m2 prefix) ≡ prefix
  unfolding statement_of prefix_in
  prefix-in =
      let l = length-append h h' in
      let k = length-append (h ++ h') m2 in
      ap (drop (prefix_place p)) (sym (append_assoc h h' (m2 ++ prefix)) ∙ sym (append_assoc (h ++ h') m2 prefix))
      ∙ drop_at ((h ++ h') ++ m2) prefix (prefix_place p) (omega arith)

-- the prefix in two writes, salt and run byte
module _ (p : Parameters) (h h' m2 salt : List ℕ) (e : ℕ) (first : length h ≡ 32) (second : length h' ≡ 32) (third : length m2 ≡ message2_length p)
    (fourth : length salt ≡ 32) where
  pub written : (out : List ℕ) {at : ℕ} → at ≡ prefix_place p → length out ≡ statement_length p
      → put_at (put_at (put_at (put_at (put_at out 0 h) 32 h') message2_place m2) at salt) (at + 32) (e ∷ []) ≡ statement_of h h' m2 (run_prefix salt e)
  unfolding statement_of run_prefix
  written out {at} q room =
      let l = length-append h h' in
      let k = length-append (h ++ h') m2 in
      let n = length-append ((h ++ h') ++ m2) salt in
      let o = length-append (((h ++ h') ++ m2) ++ salt) (e ∷ []) in
      let e₁ : 32 ≡ length h = sym first in
      let e₂ : message2_place ≡ length (h ++ h') = omega arith in
      let e₃ : at ≡ length ((h ++ h') ++ m2) = omega arith in
      let e₄ : at + 32 ≡ length (((h ++ h') ++ m2) ++ salt) = omega arith in
      ap₂ (λ (d : List ℕ) (n : ℕ). put_at d n (e ∷ []))
      (ap₂ (λ (d : List ℕ) (n : ℕ). put_at d n salt)
      (ap₂ (λ (d : List ℕ) (n : ℕ). put_at d n m2) (ap (λ (n : ℕ). put_at (put_at out 0 h) n h') e₁ ∙ put_at-put_at out h h' (omega arith)) e₂
      ∙ put_at-put_at out (h ++ h') m2 (omega arith)) e₃
      ∙ put_at-put_at out ((h ++ h') ++ m2) salt (omega arith)) e₄
      ∙ put_at-put_at out (((h ++ h') ++ m2) ++ salt) (e ∷ []) (omega arith)
      ∙ put_at-whole out ((((h ++ h') ++ m2) ++ salt) ++ (e ∷ [])) (omega arith)
      ∙ append_assoc ((h ++ h') ++ m2) salt (e ∷ []) ∙ append_assoc (h ++ h') m2 (salt ++ (e ∷ [])) ∙ append_assoc h h' (m2 ++ (salt ++ (e ∷ [])))

-- ---- a run of an exchange

module _ (p : Parameters) (t : Transcript) (e : ℕ) (first : digest_place e + 32 ≤ length t.message1)
    (second : e * message2_length p + message2_length p ≤ length t.message2) (third : e * 32 + 32 ≤ length t.message3) where
  pub length-salt : length (take 32 t.message1) ≡ 32
  length-salt = length-take-le 32 t.message1 (omega arith)

  pub length-run_prefix : length (run_prefix (take 32 t.message1) e) ≡ prefix_length
  unfolding run_prefix
  length-run_prefix = length-append (take 32 t.message1) (e ∷ []) ∙ omega (arith, length-salt)

  pub length-digest : length (part t.message1 (digest_place e) 32) ≡ 32
  length-digest = length_part t.message1 (digest_place e) 32 first

  pub length-message2_at : length (message2_at p t.message2 e) ≡ message2_length p
  unfolding message2_at
  length-message2_at = length_part t.message2 (e * message2_length p) (message2_length p) second

  pub length-message3_at : length (message3_at t.message3 e) ≡ 32
  unfolding message3_at
  length-message3_at = length_part t.message3 (e * 32) 32 third

  pub length-statement_at : length (statement_at p e t.message1 t.message2 t.message3) ≡ statement_length p
  unfolding statement_at statement_of
  length-statement_at =
      let h : List ℕ = part t.message1 (digest_place e) 32 in
      let h' : List ℕ = message3_at t.message3 e in
      let m2 : List ℕ = message2_at p t.message2 e in
      let pre : List ℕ = run_prefix (take 32 t.message1) e in
      omega (
        arith,
        length-append h (h' ++ (m2 ++ pre)),
        length-append h' (m2 ++ pre),
        length-append m2 pre,
        length-digest,
        length-message3_at,
        length-message2_at,
        length-run_prefix,
      )

  pub exchange-in : exchange_in p (statement_at p e t.message1 t.message2 t.message3) (leaf_at t.leaves e)
      (message5_at p t.leaves t.message5 e) ≡ exchange_at p t e
  unfolding statement_at exchange_in exchange_at exchange message1_at
  exchange-in =
      let h : List ℕ = part t.message1 (digest_place e) 32 in
      let h' : List ℕ = message3_at t.message3 e in
      let m2 : List ℕ = message2_at p t.message2 e in
      let pre : List ℕ = run_prefix (take 32 t.message1) e in
      rw (
        prefix-in p h h' m2 pre length-digest length-message3_at length-message2_at,
        digest-in p h h' m2 pre length-digest length-message3_at length-message2_at,
        message2-in p h h' m2 pre length-digest length-message3_at length-message2_at,
        response-in p h h' m2 pre length-digest length-message3_at length-message2_at,
        take_at pre h prefix_length length-run_prefix,
        drop_at pre h prefix_length length-run_prefix,
      )

-- the left side is what the borrow checker has
pub written_at : (p : Parameters) (e : ℕ) (m1 m2 m3 out : List ℕ) → StatementAsked p e m1 m2 m3 out → (e' size at : ℕ)
    → e' ≡ e → size ≡ message2_length p → at ≡ prefix_place p
    → put_at (put_at (put_at (put_at (put_at out 0 (take (32 + e' * 32 + 32 - (32 + e' * 32)) (drop (32 + e' * 32) m1))) 32
    (take (e' * 32 + 32 - e' * 32) (drop (e' * 32) m3))) message2_place (take (e' * size + size - e' * size) (drop (e' * size) m2))) at (take 32 m1))
    (at + 32) (e ∷ [])
    ≡ statement_at p e m1 m2 m3
unfolding statement_at message2_at message3_at
written_at p e m1 m2 m3 out a e' size at q r s =
    rw (q, r, lent-part m1 (digest_place e) 32, lent-part m3 (e * 32) 32, lent-part m2 (e * message2_length p) (message2_length p))
    (written p (part m1 (digest_place e) 32) (part m3 (e * 32) 32) (part m2 (e * message2_length p) (message2_length p)) (take 32 m1) e
    (length_part m1 (digest_place e) 32 a.reaches-message1) (length_part m3 (e * 32) 32 a.reaches-message3)
    (length_part m2 (e * message2_length p) (message2_length p) a.reaches-message2) (length-take-le 32 m1 (omega (arith, a.reaches-message1))) out s
    a.room)
