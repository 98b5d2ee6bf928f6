-- The laws of the messages held one behind the other.
--
-- zeros-part, put-part          a part of zeros; a part whose front is written
-- fresh-held, begun-held, pointed-held, responded-held   the session that holds such a list is the definition's
use Rattle.std.specs.Prelude.{◌≡◌}
use Rattle.std.proofs.Common.{sym, ◌∙◌, zero-add, arith, length-drop, take_at, drop_at, length-take-le, drop-drop, take-add}
use Rattle.std.proofs.Math.Path.{ap}
use mathlib.Core.List.{List, ◌++◌}
use Prim.Native.Nat.{ℕ, ◌+◌, ◌-◌, ◌≤◌}
use Rattle.std.proofs.Math.ListN.{length, take, drop, replicate, length-replicate}
use Rattle.std.proofs.lemmas.List.{replicate-append-replicate}
use Rattle.std.proofs.Math.Seq.{take-append-add}
use Rattle.lists.specs.Part.{part, put_at}
use Rattle.lists.specs.Part.Laws.{part-put_at-before, part-put_at-behind}
use Rattle.parameters.specs.declared.Parameters.{Parameters}
use Rattle.layout.specs.Maxima.{most_runs, most_message1, most_messages2, most_messages3}
use Rattle.verifier_phase.specs.declared.Phase.{Phase}
use Rattle.verifier_phase.specs.declared.Phase.TheVariants.{Fresh, Begun, Pointed, Responded}
use Rattle.calls.specs.Verifier as spec
use Rattle.verifier.specs.Held.{message2_place, message3_place, held_length, message1_in, message2_in, message3_in, session}

pub zeros-part : (m k n : ℕ) → k + n ≤ m → part (replicate m 0) k n ≡ replicate n 0
unfolding part
zeros-part m k n h =
    let e : m ≡ k + (n + (m - (k + n))) = omega arith in
    let rest : List ℕ = replicate n 0 ++ replicate (m - (k + n)) 0 in
    let whole : replicate {A = ℕ} m 0 ≡ replicate k 0 ++ rest =
    ap (λ (i : ℕ). replicate i 0) e ∙ sym (replicate-append-replicate k (n + (m - (k + n))) 0)
    ∙ ap (λ (l : List ℕ). replicate k 0 ++ l) (sym (replicate-append-replicate n (m - (k + n)) 0)) in
    ap (λ (l : List ℕ). take n (drop k l)) whole ∙ ap (take n) (drop_at (replicate k 0) rest k (length-replicate k 0))
    ∙ take_at (replicate n 0) (replicate (m - (k + n)) 0) n (length-replicate n 0)

module _ (d s : List ℕ) (at n : ℕ) (fits : at + n ≤ length d) (h : length s ≤ n) where
  abbrev left : ℕ
  left = n - length s

  abbrev behind : List ℕ
  behind = drop (at + length s) d

  size : n ≡ length s + left
  size = omega arith

  -- what the part has behind the front that is written
  rest : drop (length s) (take n (drop at d)) ≡ take left behind
  rest =
      let room = length-drop at d in
      ap (λ (k : ℕ). drop (length s) (take k (drop at d))) size ∙ ap (drop (length s)) (take-add (length s) left (drop at d))
      ∙ drop_at (take (length s) (drop at d)) (take left (drop (length s) (drop at d))) (length s) (length-take-le (length s) (drop at d) (omega arith))
      ∙ ap (take left) (drop-drop (length s) at d)

  pub put-part : part (put_at d at s) at n ≡ put_at (part d at n) 0 s
  unfolding part put_at
  put-part =
      ap (take n) (drop_at (take at d) (s ++ behind) at (length-take-le at d (omega arith)))
      ∙ ap (λ (k : ℕ). take k (s ++ behind)) size ∙ take-append-add s behind left ∙ ap (λ (l : List ℕ). s ++ l) (sym rest)
      ∙ ap (λ (k : ℕ). s ++ drop k (take n (drop at d))) (sym (zero-add (length s)))

-- ---- the sessions

pub fresh-held : session Fresh (record { m = 0; k = 0; w = 0; axes = 0; t = 0 }) 0 (replicate held_length 0) (replicate most_runs 0) ≡ spec.fresh
unfolding spec.fresh message1_in message2_in message3_in
fresh-held =
    rw (
      zeros-part held_length 0 most_message1 (omega arith),
      zeros-part held_length message2_place most_messages2 (omega arith),
      zeros-part held_length message3_place most_messages3 (omega arith),
    )

module _ (p : Parameters) (runs : ℕ) where
  pub begun-held : (m1 : List ℕ) → length m1 ≤ most_message1
      → session Begun p runs (put_at (replicate held_length 0) 0 m1) (replicate most_runs 0) ≡ spec.begun p runs m1
  unfolding spec.begun message1_in message2_in message3_in
  begun-held m1 h =
      let zeros : List ℕ = replicate held_length 0 in
      let l : length zeros ≡ held_length = length-replicate {A = ℕ} held_length 0 in
      rw (
        put-part zeros m1 0 most_message1 (omega (arith, l)) h ∙ ap (λ (z : List ℕ). put_at z 0 m1) (zeros-part held_length 0 most_message1 (omega arith)),
        part-put_at-behind zeros 0 m1 (omega (arith, l)) message2_place most_messages2 (omega arith)
            ∙ zeros-part held_length message2_place most_messages2 (omega arith),
        part-put_at-behind zeros 0 m1 (omega (arith, l)) message3_place most_messages3 (omega arith)
            ∙ zeros-part held_length message3_place most_messages3 (omega arith),
      )

  module _ (f : Phase) (m leaves : List ℕ) (sized : length m ≡ held_length) where
    pub pointed-held : (m2 : List ℕ) → length m2 ≤ most_messages2
        → session Pointed p runs (put_at m message2_place m2) leaves ≡ spec.pointed (session f p runs m leaves) m2
    unfolding spec.pointed message1_in message2_in message3_in
    pointed-held m2 h =
        rw (
          part-put_at-before m message2_place m2 (omega arith) 0 most_message1 (omega arith),
          put-part m m2 message2_place most_messages2 (omega arith) h,
          part-put_at-behind m message2_place m2 (omega arith) message3_place most_messages3 (omega arith),
        )

    pub responded-held : (m3 : List ℕ) → length m3 ≤ most_messages3
        → session Responded p runs (put_at m message3_place m3) leaves ≡ spec.responded (session f p runs m leaves) m3
    unfolding spec.responded message1_in message2_in message3_in
    responded-held m3 h =
        rw (
          part-put_at-before m message3_place m3 (omega arith) 0 most_message1 (omega arith),
          part-put_at-before m message3_place m3 (omega arith) message2_place most_messages2 (omega arith),
          put-part m m3 message3_place most_messages3 (omega arith) h,
        )
