-- Demand 3, first half: its proof.
--
-- call-is              the call past its checks: what the strings give
-- part-is, part_stays  the part of a run in the output
-- same-there           where none are unequal, all that are compared are equal
-- extracts             the claim, for every hash: of it only the length of what it gives is used
use Rattle.std.specs.Prelude.{◌≡◌, refl, Bool, true, false, not, ℕ, ◌≤◌, ◌<◌, length, Ok}
use Rattle.std.proofs.Common.{sym, ◌∙◌, subst, arith}
use Rattle.std.proofs.Math.Path.{ap}
use mathlib.Core.List.{List, [], ◌∷◌, Memᴰ}
use borrow.Author.Tests.{eq-eqb, le-leb, not-false}
use Rattle.lists.specs.Equal.{eq_list}
use Rattle.lists.specs.Equal.Laws.{eq_list-of, eq_list-true}
use Rattle.parameters.specs.declared.Parameters.{Parameters}
use Rattle.parameters.specs.Limits.Laws.{within-test}
use Rattle.layout.specs.Layout.{work_length, output_length}
use Rattle.layout.specs.Runs.{outputs_length}
use Rattle.layout.specs.Runs.Laws.{within-runs}
use Rattle.exchange.proofs.Sequences.Laws.{those-none, none-those, those-first}
use Rattle.exchange.specs.Values.{Key}
use Rattle.exchange.specs.Extractor.{axis, output}
use Rattle.runs.specs.Messages.{leaf_at}
use Rattle.runs.specs.Points.{DistinctPoints}
use Rattle.runs.proofs.Points.Distinct.{distinct-points}
use Rattle.runs.specs.Opening.{Transcript, exchange_at}
use Rattle.runs.proofs.Opening.Laws.{accepted-when}
use Rattle.runs.specs.Extractor.{compared, differs, lowest_run, outputs, string_at, unequal_at, finding, extract}
use Rattle.runs.proofs.Extractor.Laws.{differs-when, differs-then, differs-not, lowest-run}
use Rattle.runs.proofs.Extractor.Unequal.{none_then, first_then}
use Rattle.runs.proofs.Extractor.Output.{length-outputs, part-extracted, part-untouched}
use Rattle.calls.proofs.Lengths.Laws.{below-leaves}
use Rattle.calls.specs.Extractor.{pair, filled, Outcome, extract_lengths, both_distinct, same_statement, early_checks, found, second, first, early, extraction}
use Rattle.claims.specs.Words.{Apart, Comparable, run_part, Same, Clash, States}
use Rattle.claims.specs.Extraction.{Filled, Extracts}
use Rattle.claims.proofs.Extraction.Compared.{at-member, member-at, Equal, OneDigest, first-unequal}
use Rattle.claims.proofs.Extraction.Runs.{alike_of, length-part5, run-states}

not_equal : (a b : List ℕ) → (a ≡ b → ⊥) → eq_list a b ≡ false
not_equal a b n = go (eq_list a b) refl
  where
    go : (t : Bool) → eq_list a b ≡ t → eq_list a b ≡ false
    go true e = absurd (n (eq_list-true a b e))
    go false e = e

-- ---- the call

module _ (hash : List ℕ → ℕ → List ℕ) (p : Parameters) (runs : ℕ) (key : Key) (t t' : Transcript) (c : Comparable hash p runs key t t') where
  module _ (work out : List ℕ) (work-length : work_length p ≤ length work) (out-length : length out ≡ outputs_length p runs) where
    checks-pass : early_checks hash p runs t t' key work out ≡ Ok tt
    unfolding early_checks extract_lengths both_distinct same_statement
    checks-pass =
        simp (
          within-test p c.within,
          within-runs runs c.counted,
          eq-eqb _ _ c.sent.message1,
          eq-eqb _ _ c.sent.message2,
          eq-eqb _ _ c.sent.message3,
          eq-eqb _ _ c.sent.message4,
          eq-eqb _ _ c.sent.message5,
          eq-eqb _ _ c.sent'.message1,
          eq-eqb _ _ c.sent'.message2,
          eq-eqb _ _ c.sent'.message3,
          eq-eqb _ _ c.sent'.message4,
          eq-eqb _ _ c.sent'.message5,
          eq-eqb _ _ c.lent.matrix,
          eq-eqb _ _ c.lent.y,
          le-leb _ _ work-length,
          eq-eqb _ _ out-length,
          distinct-points p runs t.message2 c.distinct,
          distinct-points p runs t'.message2 (subst (DistinctPoints p runs) c.points-and-multipliers c.distinct),
          below-leaves p t.leaves (λ e l. c.sent.below e (let k = c.sent.message4 in omega arith)),
          below-leaves p t'.leaves (λ e l. c.sent'.below e (let k = c.sent'.message4 in omega arith)),
          eq_list-of _ _ c.salt-and-h,
          eq_list-of _ _ c.points-and-multipliers,
          eq_list-of _ _ c.response,
          not_equal _ _ c.hidden,
        )

    call-is : (us : List (ℕ × (ℕ × ℕ))) → unequal_at hash p runs key t t' ≡ us
        → extraction hash p runs t t' key work out ≡ found hash p runs t t' key work out (finding hash p runs key t t' out us)
    unfolding extraction early first second extract
    call-is us q =
        rw (
          checks-pass,
          accepted-when hash p runs t key c.accepted,
          accepted-when hash p runs t' key c.accepted',
          q,
        )

    pub answer-unequal : (a : ℕ × (ℕ × ℕ)) (rest : List (ℕ × (ℕ × ℕ))) → unequal_at hash p runs key t t' ≡ a ∷ rest
        → ((extraction hash p runs t t' key work out).answer ≡ pair a.0 a.1.0 a.1.1) × ((extraction hash p runs t t' key work out).out ≡ out)
    unfolding found finding
    answer-unequal a rest q = (ap (λ (o : Outcome). o.answer) (call-is (a ∷ rest) q), ap (λ (o : Outcome). o.out) (call-is (a ∷ rest) q))

    pub answer-states : unequal_at hash p runs key t t' ≡ []
        → ((extraction hash p runs t t' key work out).answer
        ≡ filled (lowest_run p runs t t') (axis p (exchange_at p t (lowest_run p runs t t')) (exchange_at p t' (lowest_run p runs t t'))))
        × ((extraction hash p runs t t' key work out).out ≡ outputs hash p runs t t' out)
    unfolding found finding
    answer-states q = (ap (λ (o : Outcome). o.answer) (call-is [] q), ap (λ (o : Outcome). o.out) (call-is [] q))

  -- ---- the output

  module _ (hash-length : (s : List ℕ) (n : ℕ) → length (hash s n) ≡ n) (out : List ℕ) (out-length : length out ≡ outputs_length p runs) where
    part_length : (e : ℕ) → e < runs → differs t t' e ≡ true → length (output hash p (exchange_at p t e) (exchange_at p t' e)) ≡ output_length p
    part_length e l d = length-part5 hash p runs key t t' c e l (differs-then t t' e d) hash-length

    pub part-is : (e : ℕ) → e < runs → Apart t t' e → run_part p (outputs hash p runs t t' out) e ≡ output hash p (exchange_at p t e) (exchange_at p t' e)
    unfolding run_part
    part-is e l n = part-extracted hash p runs t t' out out-length part_length e l (differs-when t t' e n)

    part_stays : (e : ℕ) → e < runs → leaf_at t.leaves e ≡ leaf_at t'.leaves e → run_part p (outputs hash p runs t t' out) e ≡ run_part p out e
    unfolding run_part
    part_stays e l q = part-untouched hash p runs t t' out out-length part_length e l (differs-not t t' e q)

    length-written : length (outputs hash p runs t t' out) ≡ length out
    length-written = length-outputs hash p runs t t' out out-length part_length ∙ sym out-length

    -- where no two strings are unequal
    filled-by : unequal_at hash p runs key t t' ≡ [] → (o : Outcome)
        → o.answer ≡ filled (lowest_run p runs t t') (axis p (exchange_at p t (lowest_run p runs t t')) (exchange_at p t' (lowest_run p runs t t')))
        → o.out ≡ outputs hash p runs t t' out → Filled hash p runs key t t' out o
    filled-by q o a b =
        let lowest = lowest-run t t' p runs c.sent.message4 c.sent'.message4 c.hidden in
        record {
          run = lowest_run p runs t t';
          inside = lowest.inside;
          apart = lowest.apart;
          lowest = lowest.before;
          answer = a;
          extracted = λ e l n.
              subst (States hash p key (exchange_at p t e) (exchange_at p t' e)) (sym (ap (λ (s : List ℕ). run_part p s e) b ∙ part-is e l n))
              (run-states hash p runs key t t' c e l n hash-length (none_then hash p runs key t t' q e l (differs-when t t' e n)));
          untouched = λ e l z. ap (λ (s : List ℕ). run_part p s e) b ∙ part_stays e l z;
          no_more = ap length b ∙ length-written;
        }

  -- ---- the first unequal pair

  module _ (hash-length : (s : List ℕ) (n : ℕ) → length (hash s n) ≡ n) where
    abbrev unlike : ℕ × (ℕ × ℕ) → Bool
    unlike a = not (eq_list (string_at hash p runs key t a) (string_at hash p runs key t' a))

    clash : (a : ℕ × (ℕ × ℕ)) (rest : List (ℕ × (ℕ × ℕ))) → unequal_at hash p runs key t t' ≡ a ∷ rest
        → Clash hash p runs key t t' a.0 a.1.0 a.1.1
    unfolding unequal_at
    clash a rest q =
        let f = those-first unlike (compared p runs t t') a rest q in
        let g = first_then hash p runs key t t' a rest (unfold unequal_at in q) in
        let n = differs-then t t' a.0 g.differ in
        let h = first-unequal hash hash-length p key (exchange_at p t a.0) (exchange_at p t' a.0) (alike_of hash p runs key t t' c a.0 g.inside n)
        a.1 g.rest g.is in
        record {
          apart = n;
          earlier = f.before;
          later = f.after;
          is-compared = f.is;
          first = λ r l n m. eq_list-true _ _ (not-false _ (f.fail (r, (l, n)) (at-member m)));
          unequal = unfold string_at Equal in h.0;
          one-digest = unfold string_at OneDigest in h.1;
        }

    -- places at which no two strings are unequal
    pub same-there : unequal_at hash p runs key t t' ≡ [] → (a : ℕ × (ℕ × ℕ)) → Memᴰ a (compared p runs t t')
        → string_at hash p runs key t a ≡ string_at hash p runs key t' a
    unfolding unequal_at
    same-there q a m = eq_list-true _ _ (not-false _ (none-those unlike (compared p runs t t') q a m))

    pub none-unequal : ((run layer number : ℕ) → Memᴰ (run, (layer, number)) (compared p runs t t') → Same hash p runs key t t' run layer number)
        → unequal_at hash p runs key t t' ≡ []
    unfolding unequal_at
    none-unequal h = those-none unlike (compared p runs t t') (λ a m. rw (eq_list-of _ _ (h a.0 a.1.0 a.1.1 m)))

-- ---- the claim

pub extracts : (hash : List ℕ → ℕ → List ℕ) → ((s : List ℕ) (n : ℕ) → length (hash s n) ≡ n)
    → (p : Parameters) (runs : ℕ) (key : Key) (t t' : Transcript) (work out : List ℕ) → Comparable hash p runs key t t'
    → work_length p ≤ length work → length out ≡ outputs_length p runs → Extracts hash p runs key t t' work out
extracts hash hash-length p runs key t t' work out c wl ol = go (unequal_at hash p runs key t t') refl
  where
    go : (us : List (ℕ × (ℕ × ℕ))) → unequal_at hash p runs key t t' ≡ us → Extracts hash p runs key t t' work out
    go [] q =
        let given = answer-states hash p runs key t t' c work out wl ol q in
        record {
          never-refused = λ n z. let e = given.0 in let y : ◌≡◌ {A = ℕ} 0 1 = cc in omega arith;
          named = λ run layer number z. absurd (let e = given.0 in let y : ◌≡◌ {A = ℕ} 0 1 = cc in omega arith);
          names = λ run layer number m n. absurd (n (same-there hash p runs key t t' c hash-length q (run, (layer, number)) (at-member m)));
          otherwise = λ h. filled-by hash p runs key t t' c hash-length out ol q _ given.0 given.1;
        }
    go (a ∷ rest) q =
        let given = answer-unequal hash p runs key t t' c work out wl ol a rest q in
        let found = clash hash p runs key t t' c hash-length a rest q in
        record {
          never-refused = λ n z. let e = given.0 in let y : ◌≡◌ {A = ℕ} 0 1 = cc in omega arith;
          named = λ run layer number z.
              let r : a.0 ≡ run = cc given.0 in
              let l : a.1.0 ≡ layer = cc given.0 in
              let n : a.1.1 ≡ number = cc given.0 in
              (rw (r, l, n) at found, given.1);
          names = λ run layer number m n. (a.0, a.1.0, a.1.1, given.0);
          otherwise = λ h. absurd (none_left q (none-unequal hash p runs key t t' c hash-length (λ r l n m. h r l n (member-at r l n _ m))));
        }
      where
        none_left : {us : List (ℕ × (ℕ × ℕ))} → us ≡ a ∷ rest → us ≡ [] → ⊥
        none_left q n = let z : ◌≡◌ {A = ℕ} 0 1 = cc in omega arith
