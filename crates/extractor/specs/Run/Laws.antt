-- What the check of a run gives, from what its steps gave.
--
-- zeroed-twice     the named length zeroed twice
-- both_halves      both halves were lent and came back
-- front-long, back-long, first-half, second-half, whole_long   how long they are as they are lent, and what each then holds
-- gives-front, gives-back   either half is as long as what an opening gives
-- run-checked      two openings that were judged, and compared
use Rattle.std.specs.Prelude.{◌≡◌, List, ◌++◌, ℕ, ◌-◌, eqb, length, take, drop, replicate, Option, None, Ok}
use Rattle.std.proofs.Math.Path.{refl, sym}
use Rattle.std.proofs.Common.{ap, ◌∙◌, arith, eq-eqb, ne_eqb, length-append, length-drop, length-take-le, take_at, drop_at}
use Rattle.std.proofs.Math.Bool.{cond}
use Rattle.std.proofs.Math.Decide.{ℕ_discrete}
use Rattle.std.proofs.lemmas.List.{length-replicate}
use Rattle.std.proofs.Math.Seq.{take-take}
use Rattle.lists.specs.Part.Laws.{tail-back, tail-part}
use Rattle.lists.specs.Zeroed.{zeroed}
use Rattle.shake256.specs.Fips.{SHAKE256}
use Rattle.answers.specs.Answer.{Answer}
use Rattle.parameters.specs.Limits.{Within}
use Rattle.layout.specs.Layout.{opened_length, states_length, work_length}
use Rattle.layout.specs.Layout.Bounds.{opened-most}
use Rattle.layout.specs.Maxima.{most_opened}
use Rattle.exchange.specs.Values.{Key}
use Rattle.exchange.specs.Opening.{Exchange}
use Rattle.exchange.specs.Extractor.{extract}
use Rattle.openings.specs.Statement.{prefix_in, exchange_in}
use Rattle.openings.specs.Parts.{states_in}
use Rattle.extractor.specs.declared.findings.Difference.{Difference}
use Rattle.extractor.specs.declared.pairs.Place.{Place}
use Rattle.extractor.specs.declared.pairs.Pair.{Pair}
use Rattle.extractor.specs.Comparison.{comparison}
use Rattle.extractor.specs.Comparison.Laws.{comparison-is}
use Rattle.extractor.specs.Difference.{named, difference_of}
use Rattle.extractor.specs.Judged.{Judged, shows}
use Rattle.extractor.specs.Opened.{view_in, Gives}
use Rattle.extractor.specs.Pairs.{message_in, Lies, length-message}
use Rattle.extractor.specs.Run.{most_openings, difference_in, difference_at, Checked}

pub zeroed-twice : (n : ℕ) (d : List ℕ) → zeroed n (zeroed n d) ≡ zeroed n d
unfolding zeroed
zeroed-twice n d = ap (◌++◌ (replicate n 0)) (drop_at (replicate n 0) (drop n d) n (length-replicate n 0))

-- the left side is what the borrow checker has
pub both_halves : (o a b : List ℕ) → length a ≡ most_opened
    → take most_opened (a ++ drop most_opened o) ++ (b ++ drop (length (a ++ drop most_opened o) - most_opened) (drop most_opened (a ++ drop most_opened o)))
    ≡ a ++ b
both_halves o a b h =
    tail-back (a ++ drop most_opened o) b most_opened (omega (arith, length-append a (drop most_opened o), h))
    ∙ ap (λ (l : List ℕ). l ++ b) (take_at a (drop most_opened o) most_opened h)

-- the halves of `openings`, lent one after the other; a and b are what came back, `whole` is what the borrow checker has
pub front-long : (o : List ℕ) → length o ≡ most_openings → length (take most_opened o) ≡ most_opened
front-long o room = length-take-le most_opened o (omega (arith, room))

module _ (o a : List ℕ) (room : length o ≡ most_openings) (long : length a ≡ length (take most_opened o)) where
  abbrev after : List ℕ
  after = a ++ drop most_opened o

  abbrev lent : List ℕ
  lent = take (length after - most_opened) (drop most_opened after)

  a-long : length a ≡ most_opened
  a-long = long ∙ front-long o room

  pub back-long : length lent ≡ most_opened
  back-long =
      omega (
        arith,
        ap length (tail-part after most_opened),
        length-drop most_opened after,
        length-append a (drop most_opened o),
        length-drop most_opened o,
        a-long,
        room,
      )

  module _ (b : List ℕ) (long-too : length b ≡ length lent) where
    abbrev whole : List ℕ
    whole = take most_opened after ++ (b ++ drop (length after - most_opened) (drop most_opened after))

    whole_is : whole ≡ a ++ b
    whole_is = both_halves o a b a-long

    pub first-half : a ≡ take most_opened whole
    first-half = sym (ap (take most_opened) whole_is ∙ take_at a b most_opened a-long)

    pub second-half : b ≡ drop most_opened whole
    second-half = sym (ap (drop most_opened) whole_is ∙ drop_at a b most_opened a-long)

    pub whole_long : length whole ≡ most_openings
    whole_long = ap length whole_is ∙ omega (arith, length-append a b, a-long, long-too, back-long)

module _ (pair : Pair) (m5 openings : List ℕ) (place : Place) (within : Within pair.p) (lies : Lies pair.p place m5) (room : length openings ≡ most_openings) where
  pub gives-front : Gives pair.p place m5 (take most_opened openings)
  gives-front = record {
    within = within;
    lies = lies;
    room = omega (arith, opened-most pair.p within, length-take-le most_opened openings (omega (arith, room)));
  }

  pub gives-back : Gives pair.p place m5 (drop most_opened openings)
  gives-back = record { within = within; lies = lies; room = omega (arith, opened-most pair.p within, length-drop most_opened openings, room) }

module _ (pair : Pair) (s first5 second5 : List ℕ) (key : Key) (within : Within pair.p) (lies : Lies pair.p pair.first first5)
    (lies' : Lies pair.p pair.second second5) where
  abbrev one : Exchange
  one = exchange_in pair.p s pair.first.leaf (message_in pair.first first5)

  abbrev two : Exchange
  two = exchange_in pair.p s pair.second.leaf (message_in pair.second second5)

  module _ {w o w' o' w'' : List ℕ} {r r' : Answer} (openings : List ℕ) (j : Judged pair.p one key w o r w' (take most_opened openings))
      (j' : Judged pair.p two key w' o' r' w'' (drop most_opened openings)) where
    difference-is : difference_in pair s first5 second5 openings ≡ difference_at pair.p key one two
    unfolding difference_in difference_at exchange_in
    difference-is = go (ℕ_discrete pair.first.leaf pair.second.leaf)
      where
        go : Dec (pair.first.leaf ≡ pair.second.leaf)
            → cond (eqb pair.first.leaf pair.second.leaf) None
            (difference_of (comparison pair.p (prefix_in pair.p s) (view_in pair.p pair.first first5 (take most_opened openings))
            (view_in pair.p pair.second second5 (drop most_opened openings))))
            ≡ cond (eqb pair.first.leaf pair.second.leaf) None (difference_of (extract SHAKE256 pair.p key one two))
        go (yes q) = rw (eq-eqb _ _ q)
        go (no q) =
            rw (ne_eqb _ _ q)
            (ap difference_of
            (comparison-is pair.p within key (prefix_in pair.p s) one two _ _
            (shows j (prefix_in pair.p s) refl lies.below (length-message pair.p pair.first first5 lies))
            (shows j' (prefix_in pair.p s) refl lies'.below (length-message pair.p pair.second second5 lies')) lies.below lies'.below q))

    front-states : states_in pair.p openings ≡ states_in pair.p (take (opened_length pair.p) (take most_opened openings))
    unfolding states_in
    front-states =
        let most = opened-most pair.p within in
        sym (take-take (states_length pair.p) (opened_length pair.p) (take most_opened openings) (omega arith)
        ∙ take-take (states_length pair.p) most_opened openings (omega arith))

    back-states : states_in pair.p (drop most_opened openings) ≡ states_in pair.p (take (opened_length pair.p) (drop most_opened openings))
    unfolding states_in
    back-states = sym (take-take (states_length pair.p) (opened_length pair.p) (drop most_opened openings) (omega arith))

    pub run-checked : r ≡ Ok tt → (d : Option Difference) → named d ≡ difference_in pair s first5 second5 openings
        → Checked pair.p key one two w (Ok (record { second = r'; difference = d })) w'' openings
    run-checked q d e = record {
      zeros = j'.zeros ∙ ap (zeroed (work_length pair.p)) j.zeros ∙ zeroed-twice (work_length pair.p) w;
      found = record {
        accepted = sym j.checked.answer ∙ q;
        second = j'.checked.answer;
        difference = e ∙ difference-is;
        states = front-states ∙ j.checked.states-are;
        others = back-states ∙ j'.checked.states-are;
      };
    }
