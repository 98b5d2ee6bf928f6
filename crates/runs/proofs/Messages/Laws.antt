-- The laws of the messages of n runs: their lengths, and that run e is read back from them.
--
-- length-prefix            a run's prefix has 33 bytes
-- digest-is                h of a run is what its strings give
-- length-message1, length-message3, length-message5   the lengths of the messages of n runs
-- length-parts             parts one after another, each as long as its leaf gives: where part e starts
-- place-grows              a later part starts no earlier
-- part_at                  part e is found at its place
-- message1-at, message3-at, message5-at   run e's message 1, 3 and 5 are read back
-- exchange-at              run e of the messages made is the exchange of that run's own messages
-- messages-accepted        so every run of a valid key's messages is accepted
use Rattle.std.specs.Prelude.{◌≡◌}
use Rattle.std.proofs.Math.Path.{sym, ap, ap₂}
use Rattle.std.proofs.Common.{◌∙◌, not-suc-le-zero, le_refl, le_of_eq, add-zero, arith, take_at}
use mathlib.Core.List.{List, [], ◌∷◌, ◌++◌}
use Prim.Native.Nat.{ℕ, zero, suc, ◌+◌, ◌*◌, ◌≤◌, ◌<◌}
use Rattle.std.proofs.Math.Decide.{ℕ_discrete}
use Rattle.std.proofs.Math.ListN.{length, length-append}
use Rattle.std.proofs.Math.Seq.{drop_at}
use Rattle.lists.specs.Part.{part}
use Rattle.lists.specs.Part.Laws.{part-append-left, part-append-right, part-whole}
use Rattle.parameters.specs.declared.Parameters.{Parameters}
use Rattle.relation.specs.Key.{vector_of}
use Rattle.layout.specs.Layout.{leaves, message5_length, y_length, prefix_length}
use Rattle.layout.specs.Runs.{message1_length, messages3_length, messages5_length, message5_place}
use Rattle.layout.specs.Runs.Laws.{messages5-step, messages5-none, messages5-all}
use Rattle.exchange.specs.Sequences.{joined}
use Rattle.exchange.proofs.Sequences.Laws.{length-joined, part-joined}
use Rattle.exchange.specs.Strings.{string5}
use Rattle.exchange.specs.Values.{Key}
use Rattle.exchange.specs.Opening as run-opening
use Rattle.exchange.specs.Opening.{Exchange, exchange}
use Rattle.exchange.proofs.Opening.Laws.{accepted-then}
use Rattle.exchange.specs.Messages as run
use Rattle.exchange.specs.Messages.{own_commitment}
use Rattle.exchange.proofs.Messages.Laws.{Secret, length-message3 as length-run3, length-message5 as length-run5}
use Rattle.exchange.proofs.Messages.Agreement.{messages-accepted as run-accepted}
use Rattle.runs.specs.Run.{run_prefix, run_at}
use Rattle.runs.specs.Messages.{message2_at, leaf_at, digest_of, message1, message3, message5}
use Rattle.runs.specs.Opening.{Transcript, transcript, message1_at, message3_at, message5_at, exchange_at, Accepted}

pub length-prefix : (salt : List ℕ) (e : ℕ) → length salt ≡ 32 → length (run_prefix salt e) ≡ prefix_length
unfolding run_prefix
length-prefix salt e h = length-append salt (e ∷ []) ∙ ap (λ (n : ℕ). n + 1) h

-- ---- parts one after another, each as long as its leaf gives

pub place-grows : (p : Parameters) (is : List ℕ) (e n : ℕ) → e ≤ n → n ≤ length is → message5_place p is e ≤ message5_place p is n
place-grows p is e zero h l = let q : e ≡ 0 = omega arith in le_of_eq (ap (message5_place p is) q)
place-grows p is e (suc n) h l = go (ℕ_discrete e (suc n)) (place-grows p is e n)
  where
    go : Dec (e ≡ suc n) → (e ≤ n → n ≤ length is → message5_place p is e ≤ message5_place p is n) → message5_place p is e ≤ message5_place p is (suc n)
    go (yes q) ih = le_of_eq (ap (message5_place p is) q)
    go (no q) ih = let a = ih (omega arith) (omega arith) in let b = messages5-step p is n l in omega (arith, a, b)

module _ (p : Parameters) (is : List ℕ) (f : ℕ → List ℕ) where
  pub length-parts : (n : ℕ) → n ≤ length is → ((e : ℕ) → e < n → length (f e) ≡ message5_length p (leaf_at is e))
      → length (joined f n) ≡ message5_place p is n
  unfolding joined
  length-parts zero l h = messages5-none p is
  length-parts (suc n) l h =
      length-append (joined f n) (f n)
      ∙ ap₂ ◌+◌ (length-parts n (omega arith) (λ e k. h e (omega arith))) (h n (le_refl (suc n)))
      ∙ sym (messages5-step p is n l)

  pub part_at : (n : ℕ) → n ≤ length is → ((e : ℕ) → e < n → length (f e) ≡ message5_length p (leaf_at is e)) → (e : ℕ) → e < n
      → part (joined f n) (message5_place p is e) (message5_length p (leaf_at is e)) ≡ f e
  unfolding joined
  part_at zero l h e k = absurd (not-suc-le-zero k)
  part_at (suc n) l h e k = go (ℕ_discrete e n) (part_at n (omega arith) (λ e k. h e (omega arith)) e)
    where
      before : length (joined f n) ≡ message5_place p is n
      before = length-parts n (omega arith) (λ e k. h e (omega arith))

      ends : e < n → message5_place p is e + message5_length p (leaf_at is e) ≤ length (joined f n)
      ends k = let a = place-grows p is (suc e) n k (omega arith) in let b = messages5-step p is e (omega arith) in omega (arith, a, b, before)

      go : Dec (e ≡ n) → (e < n → part (joined f n) (message5_place p is e) (message5_length p (leaf_at is e)) ≡ f e)
          → part (joined f n ++ f n) (message5_place p is e) (message5_length p (leaf_at is e)) ≡ f e
      go (yes q) ih =
          ap (λ (e : ℕ). part (joined f n ++ f n) (message5_place p is e) (message5_length p (leaf_at is e))) q
          ∙ ap₂ (part (joined f n ++ f n)) (sym before ∙ sym (add-zero (length (joined f n)))) (sym (h n (le_refl (suc n))))
          ∙ part-append-right (joined f n) (f n) 0 (length (f n)) ∙ part-whole (f n) (length (f n)) (le_refl (length (f n))) ∙ ap f (sym q)
      go (no q) ih = part-append-left (joined f n) (f n) (message5_place p is e) (message5_length p (leaf_at is e)) (ends (omega arith)) ∙ ih (omega arith)

-- ---- the messages

module _ (hash : List ℕ → ℕ → List ℕ) (p : Parameters) (n : ℕ) (x salt root : List ℕ) (size : length salt ≡ 32) where
  abbrev prefix : ℕ → List ℕ
  prefix e = run_prefix salt e

  pub digest-is : (e : ℕ) → digest_of hash p n x salt root e ≡ hash (string5 (prefix e) (own_commitment hash p x (run_at hash salt root e)) (leaves p)) 32
  unfolding digest_of run.message1
  digest-is e = drop_at (prefix e) _ prefix_length (length-prefix salt e size)

  -- a run's message 1 is its prefix and h
  pub digest-of : (e : ℕ) → prefix e ++ digest_of hash p n x salt root e ≡ run.message1 hash p x (run_at hash salt root e)
  unfolding run.message1
  digest-of e = ap (◌++◌ (prefix e)) (digest-is e)

  length-digest : ((s : List ℕ) (n : ℕ) → length (hash s n) ≡ n) → (e : ℕ) → length (digest_of hash p n x salt root e) ≡ 32
  length-digest hash-length e = ap length (digest-is e) ∙ hash-length _ 32

  pub length-message1 : ((s : List ℕ) (n : ℕ) → length (hash s n) ≡ n) → length (message1 hash p n x salt root) ≡ message1_length n
  unfolding message1
  length-message1 hash-length =
      length-append salt _ ∙ ap₂ ◌+◌ size (length-joined (digest_of hash p n x salt root) n 32 (λ e l. length-digest hash-length e))

  pub message1-at : ((s : List ℕ) (n : ℕ) → length (hash s n) ≡ n) → (e : ℕ) → e < n
      → message1_at (message1 hash p n x salt root) e ≡ run.message1 hash p x (run_at hash salt root e)
  unfolding message1_at message1
  message1-at hash-length e l =
      ap₂ (λ (s d : List ℕ). run_prefix s e ++ d) (take_at salt _ 32 size)
      (ap (λ (k : ℕ). part (salt ++ joined (digest_of hash p n x salt root) n) (k + e * 32) 32) (sym size)
      ∙ part-append-right salt (joined (digest_of hash p n x salt root) n) (e * 32) 32
      ∙ part-joined (digest_of hash p n x salt root) 32 n (λ e l. length-digest hash-length e) e l)
      ∙ digest-of e

module _ (hash : List ℕ → ℕ → List ℕ) (hash-length : (s : List ℕ) (n : ℕ) → length (hash s n) ≡ n) (p : Parameters) (n : ℕ) (x : List ℕ)
    (secret : Secret p x) (salt root : List ℕ) (key : Key) (m2 : List ℕ) where
  -- the parts of run e
  abbrev own3 : ℕ → List ℕ
  own3 e = run.message3 hash p x (run_at hash salt root e) key (message2_at p m2 e)

  abbrev own5 : List ℕ → ℕ → List ℕ
  own5 is e = run.message5 hash p x (run_at hash salt root e) key (message2_at p m2 e) (leaf_at is e)

  length-own3 : (e : ℕ) → length (own3 e) ≡ 32
  length-own3 e = length-run3 hash hash-length p x secret (run_at hash salt root e) key (message2_at p m2 e)

  length-own5 : (is : List ℕ) (e : ℕ) → length (own5 is e) ≡ message5_length p (leaf_at is e)
  length-own5 is e = length-run5 hash hash-length p x secret (run_at hash salt root e) key (message2_at p m2 e) (leaf_at is e)

  pub length-message3 : length (message3 hash p n x salt root key m2) ≡ messages3_length n
  unfolding message3
  length-message3 = length-joined own3 n 32 (λ e l. length-own3 e)

  pub message3-at : (e : ℕ) → e < n → message3_at (message3 hash p n x salt root key m2) e ≡ own3 e
  unfolding message3_at message3
  message3-at e l = part-joined own3 32 n (λ e l. length-own3 e) e l

  module _ (is : List ℕ) (as_many : length is ≡ n) where
    pub length-message5 : length (message5 hash p n x salt root key m2 is) ≡ messages5_length p is
    unfolding message5
    length-message5 = length-parts p is (own5 is) n (le_of_eq (sym as_many)) (λ e l. length-own5 is e) ∙ messages5-all p is n (le_of_eq as_many)

    pub message5-at : (e : ℕ) → e < n → message5_at p is (message5 hash p n x salt root key m2 is) e ≡ own5 is e
    unfolding message5_at message5
    message5-at e l = part_at p is (own5 is) n (le_of_eq (sym as_many)) (λ e l. length-own5 is e) e l

    -- run e of the messages made is the exchange of its own messages
    pub exchange-at : length salt ≡ 32 → (e : ℕ) → e < n
        → exchange_at p (transcript (message1 hash p n x salt root) m2 (message3 hash p n x salt root key m2) is (message5 hash p n x salt root key m2 is)) e
        ≡ exchange (run.message1 hash p x (run_at hash salt root e)) (message2_at p m2 e) (own3 e) (leaf_at is e) (own5 is e)
    unfolding exchange_at
    exchange-at size e l = rw (message1-at hash p n x salt root size hash-length e l, message3-at e l, message5-at e l)

-- ---- acceptance

module _ (hash : List ℕ → ℕ → List ℕ) (hash-length : (s : List ℕ) (n : ℕ) → length (hash s n) ≡ n) (p : Parameters) (n : ℕ) (key : Key)
    (x_a : List ℕ) (long : length x_a ≡ p.k) (y-length : length key.y ≡ y_length p) (secret : Secret p (vector_of key.matrix key.y x_a))
    (salt root : List ℕ) (size : length salt ≡ 32) (m2 is : List ℕ) (as_many : length is ≡ n)
    (below : (e : ℕ) → e < n → leaf_at is e < leaves p) where
  abbrev x : List ℕ
  x = vector_of key.matrix key.y x_a

  abbrev made : Transcript
  made =
      transcript (message1 hash p n x salt root) m2 (message3 hash p n x salt root key m2) is (message5 hash p n x salt root key m2 is)

  pub messages-accepted : Accepted hash p n made key
  messages-accepted e l =
      accepted-then hash p (exchange_at p made e) key
      (ap (λ (y : Exchange). run-opening.verdict hash p y key) (exchange-at hash hash-length p n x secret salt root key m2 is as_many size e l)
      ∙ run-accepted hash hash-length p key x_a long y-length secret (run_at hash salt root e) (message2_at p m2 e) (leaf_at is e) (below e l)
      (length-prefix salt e size))
