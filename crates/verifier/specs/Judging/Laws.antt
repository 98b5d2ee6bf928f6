-- The laws of the judging of an exchange.
--
-- zeroed-twice            zeros stay zeros
-- part-inside             the part of run e lies within message 5
-- run_at                  run e, from what is lent to its judging
-- turn-first, turn-next   `Turned` before the first run, and before the one behind an accepted run
-- turn-refused, turn-done what the judging gives at a refused run, and behind the last one
-- held-verdict            the messages that a session holds, in front of zeros, have the runs that all of their places have
use Rattle.std.specs.Prelude.{◌≡◌, refl, List, ◌++◌, ℕ, ◌+◌, ◌*◌, ◌-◌, ◌≤◌, ◌<◌, length, get_or, drop, replicate, Ok, Err}
use Rattle.std.proofs.Math.Path.{sym, ap, ap₂}
use Rattle.std.proofs.Common.{◌∙◌, zero-add, add-one, arith, drop_at}
use Rattle.std.proofs.Math.ListN.{take}
use Rattle.std.proofs.lemmas.List.{length-replicate}
use Rattle.std.proofs.Math.Seq.{take-take}
use Rattle.lists.specs.Part.{part}
use Rattle.lists.specs.Part.Laws.{length_part, lent-part, part-part, part-fits}
use Rattle.lists.specs.Zeroed.{zeroed}
use Rattle.lists.specs.Zeroed.Laws.{zeroed-front}
use Rattle.shake256.specs.Fips.{SHAKE256}
use Rattle.answers.specs.Answer.{Answer}
use Rattle.answers.specs.declared.Refusal.{Refusal}
use Rattle.parameters.specs.declared.Parameters.{Parameters}
use Rattle.layout.specs.Layout.{message2_length, message5_length, work_length}
use Rattle.layout.specs.Maxima.{most_runs, most_message1, most_messages2, most_messages3}
use Rattle.layout.specs.Runs.{message1_length, messages2_length, messages3_length, message5_place, digest_place}
use Rattle.layout.specs.Runs.Laws.{messages5-none, messages5-turn, message5-inside, messages2-most}
use Rattle.exchange.specs.Opening as run
use Rattle.exchange.specs.Values.{Key, key_of}
use Rattle.runs.specs.Messages.{message2_at}
use Rattle.runs.specs.Opening.{Transcript, message1_at, message3_at, message5_at, exchange_at, lowest, verdict}
use Rattle.runs.proofs.Opening.Laws.{lowest-next, lowest-first, verdict-same}
use Rattle.openings.specs.Statement.{statement_at, exchange_in}
use Rattle.openings.specs.Statement.Laws.{exchange-in}
use Rattle.calls.specs.Verifier as spec
use Rattle.verifier_phase.specs.declared.Phase.{Phase}
use Rattle.verifier.specs.Held.{session, message2_place, message3_place, message1_in, message2_in, message3_in}
use Rattle.verifier.specs.Judging.{transcript_in, run_in, verdict_at, Turned, RunsAsked}

zeroed-twice : (n : ℕ) (d : List ℕ) → zeroed n (zeroed n d) ≡ zeroed n d
unfolding zeroed
zeroed-twice n d = ap (λ (l : List ℕ). replicate n 0 ++ l) (drop_at (replicate n 0) (drop n d) n (length-replicate n 0))

module _ (p : Parameters) (m is m5 matrix y before : List ℕ) (a : RunsAsked p m is m5 matrix y before) where
  abbrev t : Transcript
  t = transcript_in m is m5

  abbrev key : Key
  key = key_of matrix y

  abbrev area : ℕ
  area = work_length p

  pub part-inside : (e place leaf size : ℕ) → e < length is → place ≡ message5_place p is e → leaf ≡ get_or is e 0 → size ≡ message5_length p leaf
      → place + size ≤ length m5
  part-inside e place leaf size h at l s =
      let inside = message5-inside p is e h in
      let same : size ≡ message5_length p (get_or is e 0) = s ∙ ap (message5_length p) l in
      omega (arith, inside, same, at, a.sized-message5)

  -- the messages reach every run
  length-first : length (message1_in m) ≡ most_message1
  unfolding message1_in
  length-first = length_part m 0 most_message1 (omega (arith, a.sized-messages))

  length-second : length (message2_in m) ≡ most_messages2
  unfolding message2_in
  length-second = length_part m message2_place most_messages2 (omega (arith, a.sized-messages))

  length-third : length (message3_in m) ≡ most_messages3
  unfolding message3_in
  length-third = length_part m message3_place most_messages3 (omega (arith, a.sized-messages))

  pub run_at : (e place leaf size : ℕ) → e < length is → place ≡ message5_place p is e → leaf ≡ get_or is e 0 → size ≡ message5_length p leaf
      → run_in p e m leaf (take (place + size - place) (drop place m5)) ≡ exchange_at p t e
  unfolding run_in run.exchange message5_at
  run_at e place leaf size h at l s =
      let few = a.few in
      let same : size ≡ message5_length p (get_or is e 0) = s ∙ ap (message5_length p) l in
      let whole : take (place + size - place) (drop place m5) ≡ part m5 (message5_place p is e) (message5_length p (get_or is e 0)) =
      lent-part m5 place size ∙ ap₂ (part m5) at same in
      ap₂ (exchange_in p (statement_at p e (message1_in m) (message2_in m) (message3_in m))) l whole
      ∙ exchange-in p t e (omega (arith, length-first))
      (omega (arith, length-second, part-fits e most_runs (message2_length p) (omega arith), messages2-most p a.within most_runs (omega arith)))
      (omega (arith, length-third))

  -- ---- run after run

  pub turn-first : Turned p t key before 0 0 before
  unfolding lowest
  turn-first = record {
    so_far = omega arith;
    is-place = messages5-none p is;
    accepted = refl;
    same_length = refl;
    wiped = refl;
    zeros = λ h. absurd (omega arith);
  }

  module _ (e place leaf size : ℕ) (work ys : List ℕ) (n : ℕ) (turned : Turned p t key before e place work) (h : e < length is) (l : leaf ≡ get_or is e 0)
      (s : size ≡ message5_length p leaf) (w : n ≡ area) (z : ys ≡ replicate area 0) where
    abbrev answer : Answer
    answer = run.verdict SHAKE256 p (run_in p e m leaf (take (place + size - place) (drop place m5))) key

    place_is : place ≡ message5_place p is e
    place_is = turned.is-place

    answer-is : answer ≡ verdict_at p t key e
    answer-is = ap (λ (x : run.Exchange). run.verdict SHAKE256 p x key) (run_at e place leaf size h place_is l s)

    pub work-after : ys ++ drop n work ≡ zeroed area before
    work-after = ap (λ (k : ℕ). ys ++ drop k work) w ∙ zeroed-front work ys area z ∙ turned.wiped

    pub turn-next : (r : Answer) → r ≡ answer → r ≡ Ok tt → length (ys ++ drop n work) ≡ length before
        → Turned p t key before (e + 1) (place + size) (ys ++ drop n work)
    turn-next r q d same = record {
      so_far = omega arith;
      is-place = messages5-turn p is e place size h place_is (s ∙ ap (message5_length p) l);
      accepted = ap (lowest (verdict_at p t key)) (add-one e) ∙ lowest-next (verdict_at p t key) e turned.accepted ∙ sym answer-is ∙ sym q ∙ d;
      same_length = same;
      wiped = ap (zeroed area) work-after ∙ zeroed-twice area before;
      zeros = λ _. work-after;
    }

    pub turn-refused : (r : Answer) (x : Refusal) → r ≡ answer → r ≡ Err x → r ≡ verdict SHAKE256 p (length is) t key
    unfolding verdict
    turn-refused r x q d = d ∙ sym (lowest-first (verdict_at p t key) (length is) e h turned.accepted (sym answer-is ∙ sym q ∙ d))

  module _ (e place : ℕ) (work : List ℕ) (turned : Turned p t key before e place work) (h : length is ≤ e) where
    reached : e ≡ length is
    reached = let far : e ≤ length is = turned.so_far in omega arith

    pub turn-done : (Ok tt ≡ verdict SHAKE256 p (length is) t key) × (work ≡ zeroed area before)
    unfolding verdict
    turn-done =
        let some = a.some in
        (sym (ap (lowest (verdict_at p t key)) (sym reached) ∙ turned.accepted), turned.zeros (omega (arith, reached)))

-- ---- the messages held

part-front : (d : List ℕ) (k at n : ℕ) → at + n ≤ k → part (take k d) at n ≡ part d at n
unfolding part
part-front d k at n h = part-part d 0 k at n h ∙ ap (λ (j : ℕ). take n (drop j d)) (zero-add at)

module _ (p : Parameters) (f : Phase) (runs : ℕ) (m leaves m5 : List ℕ) (key : Key) where
  abbrev s : spec.Verifier
  s = session f p runs m leaves

  same-run : (e : ℕ) → e < runs → exchange_at p (spec.held_transcript s m5) e ≡ exchange_at p (transcript_in m (spec.held_leaves s) m5) e
  unfolding spec.held_transcript exchange_at message1_at message2_at message3_at
  same-run e h =
      rw (
        take-take 32 (message1_length runs) (message1_in m) (omega arith),
        part-front (message1_in m) (message1_length runs) (digest_place e) 32 (omega arith),
        part-front (message2_in m) (messages2_length p runs) (e * message2_length p) (message2_length p) (part-fits e runs (message2_length p) h),
        part-front (message3_in m) (messages3_length runs) (e * 32) 32 (omega arith),
      )

  pub held-verdict : verdict SHAKE256 p runs (spec.held_transcript s m5) key ≡ verdict SHAKE256 p runs (transcript_in m (spec.held_leaves s) m5) key
  held-verdict = verdict-same SHAKE256 p runs (spec.held_transcript s m5) (transcript_in m (spec.held_leaves s) m5) key same-run
