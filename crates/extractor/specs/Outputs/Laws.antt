-- The output written part by part, from the last run down.
--
-- output-states     the output depends on the states alone
-- held-part         where the states are held, the part is the one from the messages
-- part-written      the part of a run as it is written
-- lent_fits, length-of-lent   a part lent
-- written_none, written-turn, written-lent, written_all   none is, one more, all are
-- lent-before       a part before it is written
-- places-asked, part-small, part-inside, part-length, recalled-asked   what is asked of the part of run n, lent
-- part-turn         the part of run n is written where it was lent
use Rattle.std.specs.Prelude.{◌≡◌, ℕ, suc, ◌+◌, ◌*◌, ◌-◌, ◌≤◌, ◌<◌, eqb, ltb, take, drop}
use Rattle.std.proofs.Math.Path.{refl, sym, ap, ap₂}
use Rattle.std.proofs.Common.{◌∙◌, subst, le_refl, arith, lt-ltb, le-ltb, ne_eqb, take_all}
use Rattle.std.proofs.Math.Bool.{cond}
use mathlib.Core.List.{List, ◌++◌}
use Rattle.std.proofs.Math.Nat.{mul_comm}
use Rattle.std.proofs.Math.Decide.{dec_lt, ℕ_discrete}
use Rattle.std.proofs.Math.ListN.{length}
use Rattle.std.proofs.Math.Seq.{take-take}
use Rattle.lists.specs.Part.{part, put_at}
use Rattle.lists.specs.Part.Laws.{length-put_at, part-fits, lent-part, length-lent, lent_back, part-put_at-same, part-put_at-before, part-put_at-behind}
use Rattle.parameters.specs.declared.Parameters.{Parameters}
use Rattle.parameters.specs.Limits.{Within}
use Rattle.layout.specs.Layout.{leaves, is_last, opened_length, states_length, output_length}
use Rattle.layout.specs.Layout.Bounds.{opened-most}
use Rattle.layout.specs.Maxima.{most_opened}
use Rattle.layout.specs.Runs.Laws.{output-most, outputs-most}
use Rattle.exchange.proofs.Sequences.Laws.{joined-ext}
use Rattle.reader.specs.Message5.{aux_in}
use Rattle.openings.specs.Parts.{states_in}
use Rattle.extractor.specs.declared.opened.Opened.{Opened}
use Rattle.extractor.specs.declared.pairs.Pair.{Pair}
use Rattle.extractor.specs.Comparison.{View, state_of, output_of}
use Rattle.extractor.specs.Opened.{seen, view_in}
use Rattle.extractor.specs.Opened.Laws.{state-front}
use Rattle.extractor.specs.Output.{blocks-joined}
use Rattle.extractor.specs.Pairs.{message_in, pair_at, PlaceAsked}
use Rattle.extractor.specs.Recall.{prefix_of, Holds}
use Rattle.extractor.specs.Run.{most_openings}
use Rattle.extractor.specs.Outputs.{part_from, part_in, part_of, RecalledAsked, part_at, written, Written, EarlierAsked}

pub output-states : (p : Parameters) (u : ℕ) (o aux o' aux' : List ℕ) → output_of p u o aux o' aux' ≡ output_of p u (states_in p o) aux (states_in p o') aux'
unfolding output_of
output-states p u o aux o' aux' =
    ap (λ (l : List ℕ). l ++ cond (is_last p u) aux' aux)
    (joined-ext (state_of u o o') (state_of u (states_in p o) (states_in p o')) (leaves p)
    (λ i l. unfold state_of in ap₂ (λ (a b : List ℕ). cond (eqb i u) a b) (sym (state-front p o' i l)) (sym (state-front p o i l))))

pub held-part : (pair : Pair) (prefix first5 second5 openings : List ℕ) → Holds pair prefix first5 second5 openings → (out : List ℕ)
    → part_in pair first5 second5 openings out ≡ part_of pair prefix first5 second5 out
held-part pair prefix first5 second5 openings h out = ap₂ (λ (a b : List ℕ). part_from pair first5 second5 a b out) h.first h.second

-- two openings of a run, whose states are held
pub part-written : (pair : Pair) (first5 second5 openings out : List ℕ) → Within pair.p → (x x' : Opened)
    → seen pair.p x ≡ view_in pair.p pair.first first5 (take most_opened openings) → seen pair.p x' ≡ view_in pair.p pair.second second5 (drop most_opened openings)
    → (pair.first.leaf ≡ pair.second.leaf → ⊥)
    → output_of pair.p x.hidden x.made.now x.aux.now x'.made.now x'.aux.now ≡ part_in pair first5 second5 openings out
unfolding part_from
part-written pair first5 second5 openings out within x x' e e' other =
    ap₂ (λ (v v' : View). output_of pair.p v.leaf v.states v.aux v'.states v'.aux) e e'
    ∙ output-states pair.p pair.first.leaf (take (opened_length pair.p) (take most_opened openings)) aux (take (opened_length pair.p) (drop most_opened openings)) aux'
    ∙ ap₂ (λ (a b : List ℕ). output_of pair.p pair.first.leaf a aux b aux') front back
    ∙ sym (rw (ne_eqb pair.first.leaf pair.second.leaf other))
  where
    aux : List ℕ
    aux = aux_in pair.p (message_in pair.first first5)

    aux' : List ℕ
    aux' = aux_in pair.p (message_in pair.second second5)

    front : states_in pair.p (take (opened_length pair.p) (take most_opened openings)) ≡ states_in pair.p openings
    front =
        unfold states_in in
        take-take (states_length pair.p) (opened_length pair.p) (take most_opened openings) (omega arith)
        ∙ take-take (states_length pair.p) most_opened openings (omega (arith, opened-most pair.p within))

    back : states_in pair.p (take (opened_length pair.p) (drop most_opened openings)) ≡ states_in pair.p (drop most_opened openings)
    back = unfold states_in in take-take (states_length pair.p) (opened_length pair.p) (drop most_opened openings) (omega arith)

-- a part lent
module _ (first4 out' : List ℕ) (size n at s : ℕ) (l : n < length first4) (room : length out' ≡ length first4 * size) (place : at ≡ n * size) (sized : s ≡ size) where
  pub lent_fits : at + s ≤ length out'
  lent_fits = let a = part-fits n (length first4) size l in omega (arith, a, room, place, sized)

  pub length-of-lent : length (take (at + s - at) (drop at out')) ≡ size
  length-of-lent = length-lent at s out' lent_fits ∙ sized

module _ (p : Parameters) (m1 first4 first5 second4 second5 out : List ℕ) where
  abbrev size : ℕ
  size = output_length p

  abbrev Done : ℕ → List ℕ → Type 0
  Done = Written p m1 first4 first5 second4 second5 out

  abbrev final : ℕ → List ℕ
  final = part_at p m1 first4 first5 second4 second5 out

  pub written_none : length out ≡ length first4 * size → Done (length first4) out
  written_none h = record { sized = h; parts = λ e l. rw (lt-ltb e (length first4) l) }

  -- the part of run n before it is written
  pub part-before : (n : ℕ) (out' : List ℕ) → n < length first4 → Done (suc n) out' → part out' (n * size) size ≡ part out (n * size) size
  part-before n out' l w = w.parts n l ∙ rw (lt-ltb n (suc n) (le_refl (suc n)))

  pub written-turn : (n : ℕ) (out' ys : List ℕ) → n < length first4 → Done (suc n) out' → length ys ≡ size → ys ≡ final n
      → Done n (put_at out' (n * size) ys)
  written-turn n out' ys l w long is = record { sized = length-put_at out' (n * size) ys room ∙ w.sized; parts = λ e k. go e k (ℕ_discrete e n) (dec_lt e n) }
    where
      room : n * size + length ys ≤ length out'
      room = let a = part-fits n (length first4) size l in let b = w.sized in omega (arith, a, b, long)

      before : (e : ℕ) → e < n → part (put_at out' (n * size) ys) (e * size) size ≡ part out' (e * size) size
      before e k = part-put_at-before out' (n * size) ys room (e * size) size (part-fits e n size k)

      behind : (e : ℕ) → n < e → part (put_at out' (n * size) ys) (e * size) size ≡ part out' (e * size) size
      behind e k = part-put_at-behind out' (n * size) ys room (e * size) size (let a = part-fits n e size k in omega (arith, a, long))

      go : (e : ℕ) → e < length first4 → Dec (e ≡ n) → Dec (e < n)
          → part (put_at out' (n * size) ys) (e * size) size ≡ cond (ltb e n) (part out (e * size) size) (final e)
      go e k (yes q) d =
          rw (q, le-ltb n n (le_refl n))
          (ap (part (put_at out' (n * size) ys) (n * size)) (sym long) ∙ part-put_at-same out' (n * size) ys room ∙ is)
      go e k (no q) (yes b) = before e b ∙ w.parts e k ∙ rw (lt-ltb e (suc n) (omega arith), lt-ltb e n b)
      go e k (no q) (no b) = behind e (omega arith) ∙ w.parts e k ∙ rw (le-ltb e (suc n) (omega arith), le-ltb e n (omega arith))

  -- the left sides are what the borrow checker has

  module _ (n k at s : ℕ) (out' : List ℕ) (l : n < length first4) (next : k ≡ suc n) (w : Done k out') (place : at ≡ n * size) (sized : s ≡ size) where
    pub lent-before : take (at + s - at) (drop at out') ≡ part out (n * size) size
    lent-before =
        lent-part out' at s ∙ ap₂ (part out') place sized ∙ part-before n out' l (subst (λ (x : ℕ). Done x out') next w)

    pub written-lent : (ys : List ℕ) → length ys ≡ size → ys ≡ final n → Done n (take at out' ++ (ys ++ drop (at + s - at) (drop at out')))
    written-lent ys long is =
        subst (Done n)
        (sym (lent_back out' ys at (at + s) (omega arith) (omega (arith, long, sized)) ∙ ap (λ (x : ℕ). put_at out' x ys) place))
        (written-turn n out' ys l (subst (λ (x : ℕ). Done x out') next w) long is)

  pub written_all : (out' : List ℕ) → Done 0 out' → out' ≡ written p m1 first4 first5 second4 second5 out
  unfolding written
  written_all out' w =
      sym (take_all (size * length first4) out' (let a = w.sized in let b = mul_comm (length first4) size in omega (arith, a, b)))
      ∙ blocks-joined final out' (length first4) size
      (λ e l. ap (λ (k : ℕ). part out' k size) (mul_comm size e) ∙ w.parts e l ∙ rw (le-ltb e 0 (omega arith)))

-- the part of run n, lent; k is the length of a part, as the code has it
module _ (p : Parameters) (m1 first4 first5 second4 second5 openings out : List ℕ) (asked : EarlierAsked p m1 first4 first5 second4 second5 openings out)
    (k : ℕ) (sized : k ≡ output_length p) (n : ℕ) (l : n < length first4) where
  pub places-asked : PlaceAsked p first4 n × PlaceAsked p second4 n
  places-asked = (
    record { within = asked.within; few = asked.few; inside = l },
    record { within = asked.within; few = omega (arith, asked.few, asked.same); inside = omega (arith, l, asked.same) },
  )

  at-place : n * k ≡ n * output_length p
  at-place = ap (◌*◌ n) sized

  pub part-small : n * k + k ≤ 300_000
  part-small =
      omega (arith, at-place, outputs-most p asked.within n (omega (arith, l, asked.few)), output-most p asked.within, sized)

  module _ (out' : List ℕ) (room : length out' ≡ length out) where
    pub part-inside : n * k + k ≤ length out'
    part-inside = lent_fits first4 out' (output_length p) n (n * k) k l (room ∙ asked.room) at-place sized

    pub part-length : length (take (n * k + k - n * k) (drop (n * k) out')) ≡ output_length p
    part-length = length-of-lent first4 out' (output_length p) n (n * k) k l (room ∙ asked.room) at-place sized

    pub recalled-asked : (openings' : List ℕ) → length openings' ≡ most_openings
        → RecalledAsked (pair_at p first4 second4 n) m1 first5 second5 openings' (take (n * k + k - n * k) (drop (n * k) out'))
    recalled-asked openings' held = record {
      recall = record {
        within = asked.within;
        reaches = asked.reaches;
        first = asked.first n l;
        second = asked.second n l;
        room = held;
      };
      room = part-length;
    }

    -- ys is what came back
    pub part-turn : (o : List ℕ) → Written p m1 first4 first5 second4 second5 o (suc n) out' → (ys : List ℕ)
        → length ys ≡ length (take (n * k + k - n * k) (drop (n * k) out'))
        → ys ≡ part_of (pair_at p first4 second4 n) (prefix_of m1 n) first5 second5 (take (n * k + k - n * k) (drop (n * k) out'))
        → Written p m1 first4 first5 second4 second5 o n (take (n * k) out' ++ (ys ++ drop (n * k + k - n * k) (drop (n * k) out')))
    part-turn o w ys long is =
        written-lent p m1 first4 first5 second4 second5 o n (suc n) (n * k) k out' l refl w at-place sized ys (long ∙ part-length)
        (is ∙ ap (part_of (pair_at p first4 second4 n) (prefix_of m1 n) first5 second5)
        (lent-before p m1 first4 first5 second4 second5 o n (suc n) (n * k) k out' l refl w at-place sized))
