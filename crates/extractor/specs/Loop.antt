-- The loop over the runs.
--
-- Loop e           what holds before run e
-- statement-asked, statement_fits, statement-front, statement-whole, statement-lent   the statement of a run, made in the front of a list
-- loop-starts, loop-turns, loop-ends   before the first run, after one more, and after the last
-- turn-asked, turn-checked   what the check of run e asks, and what it gives, said of the exchanges' runs
-- outputs-asked    what the writing of the output asks, after the last
use Rattle.std.specs.Prelude.{◌≡◌, refl, List, ◌++◌, take, ℕ, ◌+◌, ◌*◌, ◌-◌, ◌≤◌, ◌<◌, length, drop, Result, Ok}
use Rattle.std.proofs.Common.{sym, ap₂, ◌∙◌, subst₂, not-suc-le-zero, arith, length-append, length-drop, length-take-le, take_at}
use Rattle.std.proofs.Math.Path.{ap, subst}
use Rattle.lists.specs.Part.Laws.{part-fits}
use Rattle.lists.specs.Zeroed.{zeroed}
use Rattle.shake256.specs.Fips.{SHAKE256}
use Rattle.answers.specs.declared.Refusal.{Refusal}
use Rattle.parameters.specs.declared.Parameters.{Parameters}
use Rattle.layout.specs.Layout.{message2_length, statement_length, work_length, output_length}
use Rattle.layout.specs.Maxima.{most_opened, most_statement}
use Rattle.layout.specs.Runs.{digest_place}
use Rattle.exchange.specs.Values.{Key}
use Rattle.exchange.specs.Opening.{Exchange}
use Rattle.runs.specs.Messages.{leaf_at}
use Rattle.runs.specs.Opening.{Transcript, exchange_at}
use Rattle.openings.specs.Statement.{statement_at, exchange_in, StatementAsked}
use Rattle.openings.specs.Statement.Laws.{exchange-in, length-statement_at}
use Rattle.openings.specs.Parts.{states_in}
use Rattle.openings.specs.Opened.{opened_states}
use Rattle.extractor.specs.declared.best.Best.{Best}
use Rattle.extractor.specs.declared.pairs.Pair.{Pair}
use Rattle.extractor.specs.declared.run.Judgement.{Judgement}
use Rattle.extractor.specs.Best.{nothing, better_of}
use Rattle.extractor.specs.Best.Laws.{Progress, progress-none, progress-more}
use Rattle.extractor.specs.Early.{Early}
use Rattle.extractor.specs.Pairs.{place_at, pair_at, PlaceAsked, message_in, Lies, lies_at, message-at}
use Rattle.extractor.specs.Run.{most_openings, RunAsked, RunChecked, Checked}
use Rattle.extractor.specs.Run.Laws.{zeroed-twice}
use Rattle.extractor.specs.Outputs.{OutputsAsked}
use Rattle.extractor.specs.Outputs.Exchange.{recalled-at, recalled-other}

module _ (p : Parameters) (runs : ℕ) (t t' : Transcript) (key : Key) (work out : List ℕ) (known : Early SHAKE256 p runs t t' key work out) where
  pub reaches1 : (e : ℕ) → e < runs → digest_place e + 32 ≤ length t.message1
  reaches1 e l = omega (arith, known.first.size1)

  pub reaches2 : (e : ℕ) → e < runs → e * message2_length p + message2_length p ≤ length t.message2
  reaches2 e l = omega (arith, part-fits e runs (message2_length p) l, known.first.size2)

  pub reaches3 : (e : ℕ) → e < runs → e * 32 + 32 ≤ length t.message3
  reaches3 e l = omega (arith, known.first.size3)

  salted : 32 ≤ length t.message1
  salted = omega (arith, known.first.size1)

  pub statement-asked : (e : ℕ) (s : List ℕ) → e < runs → length s ≡ statement_length p → StatementAsked p e t.message1 t.message2 t.message3 s
  statement-asked e s l room = record {
    within = known.within;
    few = omega (arith, known.count.most);
    reaches-message1 = reaches1 e l;
    reaches-message2 = reaches2 e l;
    reaches-message3 = reaches3 e l;
    room = room;
  }

  -- the statement, lent: n bytes in the front of s, in which `made` came back
  module _ (n : ℕ) (s : List ℕ) (is : n ≡ statement_length p) (sized : length s ≡ most_statement) where
    pub statement_fits : n ≤ length s
    statement_fits = omega (arith, is, sized, known.within.t-most)

    pub statement-front : length (take n s) ≡ n
    statement-front = length-take-le n s statement_fits

    module _ (made : List ℕ) (long : length made ≡ length (take n s)) where
      pub statement-whole : length (made ++ drop n s) ≡ most_statement
      statement-whole = omega (arith, length-append made (drop n s), long, statement-front, length-drop n s, statement_fits, sized)

      pub statement-lent : take n (made ++ drop n s) ≡ made
      statement-lent = take_at made (drop n s) n (long ∙ statement-front)

  pub places : (e : ℕ) → e < runs → PlaceAsked p t.leaves e × PlaceAsked p t'.leaves e
  places e l = (
    record { within = known.within; few = omega (arith, known.first.size4, known.count.most); inside = omega (arith, known.first.size4) },
    record { within = known.within; few = omega (arith, known.second.size4, known.count.most); inside = omega (arith, known.second.size4) },
  )

  pub lies : (e : ℕ) → e < runs → Lies p (place_at p t.leaves e) t.message5
  lies e l =
      lies_at p t.leaves t.message5 e known.within (places e l).0.few known.first.size5 (places e l).0.inside (known.below e l)

  pub lies' : (e : ℕ) → e < runs → Lies p (place_at p t'.leaves e) t'.message5
  lies' e l =
      lies_at p t'.leaves t'.message5 e known.within (places e l).1.few known.second.size5 (places e l).1.inside (known.below' e l)

  abbrev stated : ℕ → List ℕ
  stated e = statement_at p e t.message1 t.message2 t.message3

  first-is : (e : ℕ) → e < runs → exchange_in p (stated e) (leaf_at t.leaves e) (message_in (place_at p t.leaves e) t.message5) ≡ exchange_at p t e
  first-is e l =
      ap (exchange_in p (stated e) (leaf_at t.leaves e)) (message-at p t.leaves t.message5 e)
      ∙ exchange-in p t e (reaches1 e l) (reaches2 e l) (reaches3 e l)

  second_is : (e : ℕ) → e < runs → exchange_in p (stated e) (leaf_at t'.leaves e) (message_in (place_at p t'.leaves e) t'.message5) ≡ exchange_at p t' e
  second_is e l =
      ap₂ (λ (s m : List ℕ). exchange_in p s (leaf_at t'.leaves e) m)
      (ap₂ (λ (m1 m2 : List ℕ). statement_at p e m1 m2 t.message3) known.message1 known.message2
      ∙ ap (statement_at p e t'.message1 t'.message2) known.message3)
      (message-at p t'.leaves t'.message5 e)
      ∙ exchange-in p t' e (omega (arith, reaches1 e l, ap length known.message1)) (omega (arith, reaches2 e l, ap length known.message2))
      (omega (arith, reaches3 e l, ap length known.message3))

  pub checked-at : (e : ℕ) (w : List ℕ) (r : Result Judgement Refusal) (w' o : List ℕ) → e < runs
      → RunChecked (pair_at p t.leaves t'.leaves e) (stated e) t.message5 t'.message5 key w r w' o
      → Checked p key (exchange_at p t e) (exchange_at p t' e) w r w' o
  checked-at e w r w' o l h = subst₂ (λ (x y : Exchange). Checked p key x y w r w' o) (first-is e l) (second_is e l) h

  pub asked-at : (e : ℕ) (w o : List ℕ) → e < runs → length w ≡ length work → length o ≡ most_openings
      → RunAsked (pair_at p t.leaves t'.leaves e) (stated e) t.message5 t'.message5 key.matrix key.y w o
  asked-at e w o l q room = record {
    compared = record {
      within = known.within;
      sized-statement = length-statement_at p t e (reaches1 e l) (reaches2 e l) (reaches3 e l);
      first = lies e l;
      second = lies' e l;
      room = room;
    };
    lent = record {
      matrix-is = known.lent.matrix-is;
      y-is = known.lent.y-is;
      work-fits = omega (arith, known.lent.work-fits, q);
    };
  }

  -- the check of run e, of which the statement was made in the front of s
  module _ (n : ℕ) (s : List ℕ) (is : n ≡ statement_length p) (sized : length s ≡ most_statement) (made : List ℕ) (long : length made ≡ length (take n s))
      (e : ℕ) (l : e < runs) (made-is : made ≡ stated e) (pair : Pair) (pair-is : pair ≡ pair_at p t.leaves t'.leaves e) where
    pub turn-asked : (w o : List ℕ) → length w ≡ length work → length o ≡ most_openings
        → RunAsked pair (take n (made ++ drop n s)) t.message5 t'.message5 key.matrix key.y w o
    turn-asked w o q room = rw (pair-is, statement-lent n s is sized made long, made-is) (asked-at e w o l q room)

    pub turn-checked : (w : List ℕ) (r : Result Judgement Refusal) (w' o : List ℕ)
        → RunChecked pair (take n (made ++ drop n s)) t.message5 t'.message5 key w r w' o → Checked p key (exchange_at p t e) (exchange_at p t' e) w r w' o
    turn-checked w r w' o h = checked-at e w r w' o l (rw (pair-is, statement-lent n s is sized made long, made-is) at h)

  pub record Loop (w s o : List ℕ) (b : Best) (e : ℕ) : Type 0 where
    pub progress : Progress p runs t t' key e b
    pub cleared : zeroed (work_length p) w ≡ zeroed (work_length p) work
    pub zeros : 1 ≤ e → w ≡ zeroed (work_length p) work
    pub sized-work : length w ≡ length work
    pub sized-statement : length s ≡ most_statement
    pub sized-openings : length o ≡ most_openings
    pub states : (k : ℕ) → e ≡ k + 1 → states_in p o ≡ opened_states p (exchange_at p t k)
    pub others : (k : ℕ) → e ≡ k + 1 → states_in p (drop most_opened o) ≡ opened_states p (exchange_at p t' k)

  pub loop-starts : (s o : List ℕ) → length s ≡ most_statement → length o ≡ most_openings → Loop work s o nothing 0
  loop-starts s o l l' = record {
    progress = progress-none p runs t t' key;
    cleared = refl;
    zeros = λ h. absurd (not-suc-le-zero h);
    sized-work = refl;
    sized-statement = l;
    sized-openings = l';
    states = λ k h. absurd (omega arith);
    others = λ k h. absurd (omega arith);
  }

  module _ (w s o : List ℕ) (b : Best) (e : ℕ) (l : e < runs) (before : Loop w s o b e) (w' s' o' : List ℕ) where
    pub zeros-now : (r : Result Judgement Refusal) → Checked p key (exchange_at p t e) (exchange_at p t' e) w r w' o' → w' ≡ zeroed (work_length p) work
    zeros-now r checked = checked.zeros ∙ before.cleared

    pub loop-turns : (j : Judgement) → Checked p key (exchange_at p t e) (exchange_at p t' e) w (Ok j) w' o' → length w' ≡ length w
        → length s' ≡ most_statement → length o' ≡ most_openings → Loop w' s' o' (better_of b e j) (e + 1)
    loop-turns j checked q q' q'' =
        let f = checked.found in
        let z = zeros-now (Ok j) checked in
        record {
          progress = progress-more p runs t t' key e b j o' l before.progress f;
          cleared = ap (zeroed (work_length p)) z ∙ zeroed-twice (work_length p) work;
          zeros = λ _. z;
          sized-work = q ∙ before.sized-work;
          sized-statement = q';
          sized-openings = q'';
          states = λ k x. subst (λ (i : ℕ). states_in p o' ≡ opened_states p (exchange_at p t i)) (omega arith) f.states;
          others = λ k x. subst (λ (i : ℕ). states_in p (drop most_opened o') ≡ opened_states p (exchange_at p t' i)) (omega arith) f.others;
        }

  pub loop-ends : (w s o : List ℕ) (b : Best) (e : ℕ) → e ≤ runs → runs ≤ e → Loop w s o b e → Loop w s o b runs
  loop-ends w s o b e l l' x = subst (λ (n : ℕ). Loop w s o b n) (omega arith) x

  pub outputs-asked : (w s o : List ℕ) (b : Best) → Loop w s o b runs
      → OutputsAsked p t.message1 t.leaves t.message5 t'.leaves t'.message5 o out
  outputs-asked w s o b x =
      let some = known.count.least in
      let size = known.first.size4 in
      let last : runs ≡ (length t.leaves - 1) + 1 = omega (arith, some, size) in
      record {
        asked = record {
          within = known.within;
          reaches = salted;
          some = omega (arith, some, size);
          few = omega (arith, known.count.most, size);
          same = known.second.size4 ∙ sym size;
          first = λ i k. lies i (omega (arith, k, size));
          second = λ i k. lies' i (omega (arith, k, size));
          held = x.sized-openings;
          room = known.room ∙ ap (λ (n : ℕ). n * output_length p) (sym size);
        };
        holds = record {
          first = x.states (length t.leaves - 1) last ∙ sym (recalled-at p t (length t.leaves - 1) salted);
          second = x.others (length t.leaves - 1) last ∙ sym (recalled-other p t t' known.message1 salted (length t.leaves - 1));
        };
      }
