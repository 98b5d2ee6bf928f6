-- Wrong programs (document 01, 'The reviewer's trials', 3) of which demand 3 does not hold: on one pair of openings of two runs under the stand-in
-- hash, at one axis, whose hidden leaves differ in run 1 alone, what they give is not right.
--
-- one, other            the two openings of the pair of point 16 and multiplier 1
-- names_first            'An extractor naming a pair of equal strings, before comparing'
-- blank                 an extractor that leaves its output blank
-- fills_all              an extractor that fills the part of run 0 too, where the hidden leaves agree
-- skips_axes             'A verifier that checks h and skips the axes': what it answers of a run
-- bent                  the second opening with another α of run 1's hidden leaf, which this verifier accepts
-- after_skipping         what the extractor gives after this verifier accepted both
-- fills_first            the same, with the output filled before the strings are compared
-- names-first-wrong, blank-wrong, fills-all-wrong, skips-axes-wrong, fills-first-wrong   none of these outcomes is right
use Rattle.std.specs.Prelude.{◌≡◌, refl, false, List, [], ◌∷◌, ◌++◌, ℕ, ◌<◌, get_or, take, drop, replicate, Ok}
use Rattle.std.proofs.Common.{ap, arith}
use Rattle.std.proofs.Math.Dec.{lit<}
use Rattle.lists.specs.Part.{part}
use Rattle.lists.specs.Equal.{eq_list}
use Rattle.lists.specs.Equal.Laws.{eq_list-false}
use Rattle.answers.specs.Answer.{Answer}
use Rattle.answers.specs.declared.Refusal.TheVariants.{Commitment}
use Rattle.answers.specs.Checks.{checks}
use Rattle.parameters.specs.declared.Parameters.{Parameters}
use Rattle.layout.specs.Layout.{leaves}
use Rattle.exchange.specs.Opening.{Exchange, opened_state, commitment_string}
use Rattle.exchange.specs.Extractor.{output}
use Rattle.runs.specs.Opening.{Transcript, exchange_at}
use Rattle.runs.specs.Extractor.{unequal, states, compared, string_at, unequal_at, extract}
use Rattle.calls.specs.Extractor.{pair as named_pair, Outcome, found}
use Rattle.claims.specs.Words.{Apart, Comparable, run_part, leaf_state, At, Same}
use Rattle.claims.specs.Extraction.{Right}
use Rattle.claims.proofs.Extraction.Compared.{at-member}
use Rattle.claims.proofs.Extraction.Theorem.{same-there}
use Rattle.test_standin.specs.StandIn.{stand_in}
use Rattle.test_standin.specs.Definitions.{definitions}
use Rattle.test_claims.specs.StandIn.{length-stand_in}
use Rattle.test_claims.specs.Pairs.{p as parameters, key, opened, pair}
use Rattle.test_claims.specs.Meetings.{pairs, all_under}

abbrev p : Parameters
p = parameters 1

abbrev one : Transcript
one = opened 1 16 1 0 0

abbrev other : Transcript
other = opened 1 16 1 0 1

abbrev work : List ℕ
work = replicate 32 1

abbrev out : List ℕ
out = replicate 142 0

comparable : Comparable stand_in p 2 key one other
unfolding pairs pair
comparable = all_under.1.0.comparable

none-unequal : unequal_at stand_in p 2 key one other ≡ []
unfolding opened definitions
none-unequal = refl

all-equal : (run layer number : ℕ) → At run layer number (compared p 2 one other) → Same stand_in p 2 key one other run layer number
all-equal run layer number m = same-there stand_in p 2 key one other comparable length-stand_in none-unequal (run, (layer, number)) (at-member m)

apart : Apart one other 1
unfolding opened
apart e = omega arith

-- ---- naming a pair before comparing

unfoldable pub names_first : Outcome
names_first = found stand_in p 2 one other key work out (unequal 1 7 0)

same-7 : Same stand_in p 2 key one other 1 7 0
unfolding opened definitions
same-7 = refl

pub names-first-wrong : Right stand_in p 2 key one other out names_first → ⊥
unfolding names_first found
names-first-wrong r = (r.named 1 7 0 refl).0.unequal same-7

-- ---- a blank output

unfoldable pub blank : Outcome
blank = found stand_in p 2 one other key work out (states 1 1 out)

leaf-1 : (1 ≡ (exchange_at p one 1).leaf → ⊥) × (leaf_state (run_part p out 1) 1 ≡ opened_state stand_in p (exchange_at p one 1) 1 → ⊥)
unfolding leaf_state run_part opened definitions
leaf-1 = ((λ e. omega arith), (λ e. omega (arith, ap (λ (l : List ℕ). get_or l 0 0) e)))

pub blank-wrong : Right stand_in p 2 key one other out blank → ⊥
unfolding blank found
blank-wrong r = leaf-1.1 (((r.otherwise all-equal).extracted 1 (lit< tt) apart).opened 1 inside leaf-1.0)
  where
    inside : 1 < leaves p
    inside = unfold definitions in lit< tt

-- ---- an agreeing run extracted

-- the states of run 1
abbrev part1 : List ℕ
part1 = output stand_in p (exchange_at p one 1) (exchange_at p other 1)

unfoldable pub fills_all : Outcome
fills_all = found stand_in p 2 one other key work out (states 1 1 (part1 ++ part1))

changed : run_part p (part1 ++ part1) 0 ≡ run_part p out 0 → ⊥
unfolding run_part opened definitions
changed e = omega (arith, ap (λ (l : List ℕ). get_or l 0 0) e)

pub fills-all-wrong : Right stand_in p 2 key one other out fills_all → ⊥
unfolding fills_all found
fills-all-wrong r = changed ((r.otherwise all-equal).untouched 0 (lit< tt) (unfold opened in refl))

-- ---- skipping the axes

unfoldable pub skips_axes : Exchange → Answer
skips_axes e = checks ((eq_list (stand_in (commitment_string stand_in p e) 32) e.h, Commitment) ∷ [])

-- run 0's part has 63 bytes; α stands behind the sibling seed and the commitment
unfoldable pub bent : Transcript
bent = record {
  message1 = other.message1;
  message2 = other.message2;
  message3 = other.message3;
  leaves = other.leaves;
  message5 = take 111 other.message5 ++ (0 ∷ 0 ∷ 0 ∷ 0 ∷ drop 115 other.message5);
}

unfoldable pub after_skipping : Outcome
after_skipping = found stand_in p 2 one bent key work out (extract stand_in p 2 key one bent out)

pub both-accepted : (skips_axes (exchange_at p one 1) ≡ Ok tt) × (skips_axes (exchange_at p bent 0) ≡ Ok tt) × (skips_axes (exchange_at p bent 1) ≡ Ok tt)
unfolding skips_axes bent opened definitions
both-accepted = (refl, refl, refl)

answer-7 : after_skipping.answer ≡ named_pair 1 7 0
unfolding after_skipping found bent opened definitions
answer-7 = refl

two-digests : eq_list (stand_in (string_at stand_in p 2 key one (1, (7, 0))) 32) (stand_in (string_at stand_in p 2 key bent (1, (7, 0))) 32) ≡ false
unfolding bent opened definitions
two-digests = refl

pub skips-axes-wrong : Right stand_in p 2 key one bent out after_skipping → ⊥
skips-axes-wrong r = eq_list-false _ _ two-digests (r.named 1 7 0 answer-7).0.one-digest

-- ---- filling before comparing

unfoldable pub fills_first : Outcome
fills_first = record { answer = named_pair 1 7 0; out = replicate 142 1; work = work }

pub fills-first-wrong : Right stand_in p 2 key one bent out fills_first → ⊥
unfolding fills_first
fills-first-wrong r = let z : ◌≡◌ {A = ℕ} 1 0 = ap (λ (l : List ℕ). get_or l 0 0) (r.named 1 7 0 refl).1 in omega arith
