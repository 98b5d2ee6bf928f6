-- Demand 3, second half: its proof. Run e of the pairs that count is a free list of openings under one prefix and h.
--
-- each_in               what holds of each element of a list holds of one that stands in it
-- in_one, in-other      run e of a pair that counts stands in the list of openings
-- paired                and it is a pair of that list
-- none_in               in a free list no two strings that the extractor compares in the run are unequal
-- written               what the call writes for such a pair
-- low-claim             the claim for every hash, of which only the length of what it gives is used
-- weight-claim          the claim for a hash that gives bytes, and messages of bytes
use Rattle.std.proofs.Math.Path.{◌≡◌, ap₂}
use Rattle.std.specs.Prelude.{refl, Bool, cond, length}
use Rattle.std.proofs.Common.{sym, ap, ◌∙◌}
use Rattle.std.proofs.Math.Bool.{true, false}
use mathlib.Core.List.{List, [], ◌∷◌, ◌++◌}
use Prim.Native.Nat.{ℕ, ◌+◌, ◌≤◌, ◌<◌}
use native.Mathlib.Omega.{arith}
use Rattle.std.proofs.Math.ListN.{take, drop}
use Rattle.algebra.specs.Each.{Each, Distinct}
use Rattle.algebra.specs.Each.Laws.{each_map}
use Rattle.lists.specs.Part.{part}
use Rattle.tower.specs.Field.{Point}
use Rattle.parameters.specs.declared.Parameters.{Parameters}
use Rattle.parameters.specs.Limits.{Within}
use Rattle.polynomial.specs.Bytes.{Bytes}
use Rattle.polynomial.specs.Bytes.Laws.{bytes_take}
use Rattle.relation.specs.Key.{weight_of}
use Rattle.layout.specs.Layout.{message5_length, work_length, prefix_length, y_length}
use Rattle.layout.specs.Runs.{message5_place, outputs_length}
use Rattle.exchange.proofs.Sequences.Laws.{bytes_drop}
use Rattle.exchange.specs.Values.{Key}
use Rattle.exchange.specs.Opening.{Exchange, exchange}
use Rattle.exchange.specs.Extractor.{unequal_at as run_unequal}
use Rattle.runs.specs.Run.{run_prefix}
use Rattle.runs.specs.Messages.{leaf_at}
use Rattle.runs.specs.Opening.{Transcript, message1_at, message5_at, exchange_at}
use Rattle.runs.specs.Extractor.{differs, unequal_at}
use Rattle.runs.proofs.Extractor.Laws.{differs-when, differs-then}
use Rattle.runs.proofs.Extractor.Unequal.{none-when, first_then}
use Rattle.calls.specs.Extractor.{filled, extraction}
use Rattle.claims.specs.Words.{Comparable, run_part, States}
use Rattle.claims.proofs.Extraction.Runs.{alike_of}
use Rattle.claims.proofs.Extraction.Theorem.{answer-unequal, answer-states, part-is}
use Rattle.claims.specs.Weight.{Pair, Differ, low_bytes, InBytes, In, here, later, openings, MeetsTwice, Free, Under, Meeting, part_for, x_of_pair, Wrote, wrote, elsewhere, Gives, OneX, OneLightX}
use Rattle.claims.proofs.Weight.Light.{low_bytes-bytes}
use Rattle.claims.proofs.Weight.Common.{none-unequal, pair-states, Paired}
use Rattle.claims.proofs.Weight.Core.{Met, same-x, bytes-x, light-x}

each_in : {A : Type 0} (P : A → Type 0) {a : A} {l : List A} → Each P l → In a l → P a
each_in P h here = h.0
each_in P h (later i) = each_in P h.1 i

bytes-part : (p : Parameters) (t : Transcript) (e : ℕ) → Bytes t.message5 → Bytes (exchange_at p t e).message5
unfolding exchange_at exchange message5_at part
bytes-part p t e b =
    bytes_take (message5_length p (leaf_at t.leaves e)) (drop (message5_place p t.leaves e) t.message5)
    (bytes_drop (message5_place p t.leaves e) t.message5 b)

-- ---- the openings of the pairs that count

module _ (p : Parameters) (e : ℕ) where
  in-later : {y : Exchange} (q : Pair) (qs : List Pair) → In y (openings p e qs) → In y (openings p e (q ∷ qs))
  unfolding openings
  in-later {y} q qs i = go (differs q.one q.other e)
    where
      go : (d : Bool) → In y (cond d (exchange_at p q.one e ∷ exchange_at p q.other e ∷ openings p e qs) (openings p e qs))
      go true = later (later i)
      go false = i

  in_one : {q : Pair} {qs : List Pair} → In q qs → Differ e q → In (exchange_at p q.one e) (openings p e qs)
  in_one {q} here d = unfold openings in rw (differs-when q.one q.other e d) here
  in_one (later {b} {bs} i) d = in-later b bs (in_one i d)

  in-other : {q : Pair} {qs : List Pair} → In q qs → Differ e q → In (exchange_at p q.other e) (openings p e qs)
  in-other {q} here d = unfold openings in rw (differs-when q.one q.other e d) (later here)
  in-other (later {b} {bs} i) d = in-later b bs (in-other i d)

-- ---- a pair

module _ (hash : List ℕ → ℕ → List ℕ) (hash-length : (s : List ℕ) (n : ℕ) → length (hash s n) ≡ n) (p : Parameters) (runs : ℕ) (key : Key) where
  module _ (e : ℕ) (run : e < runs) (qs : List Pair) (free : Free hash p key (openings p e qs)) {q : Pair} (i : In q qs)
      (c : Comparable hash p runs key q.one q.other) (counts : Differ e q) where
    none_in : run_unequal hash p key (exchange_at p q.one e) (exchange_at p q.other e) ≡ []
    none_in =
        none-unequal hash hash-length p key (openings p e qs) free (in_one p e i counts) (in-other p e i counts)
        (alike_of hash p runs key q.one q.other c e run counts)

    states-in : States hash p key (exchange_at p q.one e) (exchange_at p q.other e) (part_for hash p runs key e q)
    unfolding part_for
    states-in =
        pair-states hash hash-length p key (openings p e qs) free (in_one p e i counts) (in-other p e i counts)
        (alike_of hash p runs key q.one q.other c e run counts) c.within.k-most c.lent.y

    module _ (work out : List ℕ) (work-length : work_length p ≤ length work) (out-length : length out ≡ outputs_length p runs) where
      written : Wrote hash p runs key e q out (extraction hash p runs q.one q.other key work out)
      written = go (unequal_at hash p runs key q.one q.other) refl
        where
          go : (us : List (ℕ × (ℕ × ℕ))) → unequal_at hash p runs key q.one q.other ≡ us
              → Wrote hash p runs key e q out (extraction hash p runs q.one q.other key work out)
          go [] z =
              let given = answer-states hash p runs key q.one q.other c work out work-length out-length z in
              wrote _ _ given.0
              (ap (λ (s : List ℕ). run_part p s e) given.1
              ∙ (unfold part_for in part-is hash p runs key q.one q.other c hash-length out out-length e run counts))
          go (a ∷ rest) z =
              let given = answer-unequal hash p runs key q.one q.other c work out work-length out-length a rest z in
              let f = first_then hash p runs key q.one q.other a rest z in
              elsewhere a.0 a.1.0 a.1.1 given.0 (λ same. not_none f.is (rw same none_in)) given.1
            where
              not_none : {l r : List (ℕ × ℕ)} {b : ℕ × ℕ} → l ≡ b ∷ r → l ≡ [] → ⊥
              not_none h k = let z : ◌≡◌ {A = ℕ} 0 1 = cc in omega arith

      -- the pair's own openings are free in every run
      extracted : ((e' : ℕ) → e' < runs → Free hash p key (openings p e' (q ∷ [])))
          → (run : ℕ) × (axis : ℕ) × ((extraction hash p runs q.one q.other key work out).answer ≡ filled run axis)
      extracted all = (
        _,
        _,
        (answer-states hash p runs key q.one q.other c work out work-length out-length
            (none-when hash p runs key q.one q.other (λ e' l d. none_within e' l (all e' l) (differs-then q.one q.other e' d)))).0,
      )
        where
          none_within : (e' : ℕ) → e' < runs → Free hash p key (openings p e' (q ∷ [])) → Differ e' q
              → run_unequal hash p key (exchange_at p q.one e') (exchange_at p q.other e') ≡ []
          none_within e' l f n =
              none-unequal hash hash-length p key (openings p e' (q ∷ [])) f (in_one p e' here n) (in-other p e' here n)
              (alike_of hash p runs key q.one q.other c e' l n)

-- ---- the list

module _ (hash : List ℕ → ℕ → List ℕ) (hash-length : (s : List ℕ) (n : ℕ) → length (hash s n) ≡ n) (p : Parameters) (runs : ℕ) (key : Key)
    (e : ℕ) (salt h : List ℕ) (qs : List Pair) (within : Within p) (run : e < runs) (under : Each (Under hash p runs key e salt h) qs)
    (free : Free hash p key (openings p e qs)) where
  -- run e's prefix and h, as its message 1 gives them
  abbrev prefix₁ : List ℕ
  prefix₁ = take prefix_length (run_prefix salt e ++ h)

  abbrev h₁ : List ℕ
  h₁ = drop prefix_length (run_prefix salt e ++ h)

  good : {q : Pair} → In q qs → Under hash p runs key e salt h q
  good i = each_in (Under hash p runs key e salt h) under i

  paired : {q : Pair} → In q qs → Differ e q
      → Paired hash hash-length p key (openings p e qs) free prefix₁ h₁ (exchange_at p q.one e) (exchange_at p q.other e)
  paired {q} i d = record {
    one = in_one p e i d;
    other = in-other p e i d;
    alike = alike_of hash p runs key q.one q.other (good i).comparable e run d;
    prefix-is = unfold exchange_at exchange message1_at in ap₂ (λ (s h : List ℕ). take prefix_length (run_prefix s e ++ h)) (good i).same-salt (good i).same-h;
    h-is = unfold exchange_at exchange message1_at in ap₂ (λ (s h : List ℕ). drop prefix_length (run_prefix s e ++ h)) (good i).same-salt (good i).same-h;
  }

  module _ {q₀ : Pair} (i₀ : In q₀ qs) (d₀ : Differ e q₀) where
    abbrev y-length : length key.y ≡ y_length p
    y-length = (good i₀).comparable.lent.y

    abbrev x₀ : List ℕ
    x₀ = x_of_pair hash p runs key e q₀

    gives-x : (q : Pair) → In q qs → Differ e q → (work out : List ℕ) → work_length p ≤ length work → length out ≡ outputs_length p runs
        → Gives hash p runs key e x₀ q work out
    gives-x q i d work out wl ol = record {
      states = states-in hash hash-length p runs key e run qs free i (good i).comparable d;
      same =
          unfold x_of_pair part_for in
          same-x hash hash-length p key (openings p e qs) free prefix₁ h₁ within y-length (paired i d) (paired i₀ d₀);
      written = written hash hash-length p runs key e run qs free i (good i).comparable d work out wl ol;
      extracted = extracted hash hash-length p runs key e run qs free i (good i).comparable d work out wl ol;
    }

    met_by : (l : ℕ) (r : Point) → MeetsTwice p e qs l r → Met hash hash-length p key (openings p e qs) free prefix₁ h₁ within y-length l r
    unfolding exchange_at exchange
    met_by l r m = record {
      y = exchange_at p m.pair.one e;
      y' = exchange_at p m.pair.other e;
      z = exchange_at p m.pair'.one e;
      z' = exchange_at p m.pair'.other e;
      pair = paired m.in_list m.counts;
      pair' = paired m.in-list' m.counts';
      point = m.meets.point;
      point' = m.meets'.point;
      unequal = λ z. m.unequal (sym m.meets.multiplier ∙ z ∙ m.meets'.multiplier);
    }

    light-low : (l : ℕ) → l < p.t → (rs : List Point) → Distinct rs → p.m + p.w ≤ length rs → Each (MeetsTwice p e qs l) rs
        → weight_of (low_bytes x₀) ≤ p.w
    unfolding x_of_pair part_for
    light-low l position rs different enough met =
        light-x hash hash-length p key (openings p e qs) free prefix₁ h₁ within y-length (paired i₀ d₀) l position rs different enough
        (each_map (met_by l) rs met)

    bytes-x₀ : ((s : List ℕ) (n : ℕ) → Bytes (hash s n)) → Bytes key.y → InBytes q₀ → Bytes x₀
    unfolding x_of_pair part_for
    bytes-x₀ hash-bytes y-bytes sent =
        bytes-x hash hash-length p key (openings p e qs) free prefix₁ h₁ within y-length (paired i₀ d₀) hash-bytes y-bytes
        (bytes-part p q₀.one e sent.one) (bytes-part p q₀.other e sent.other)

-- ---- the claims

-- there are m + w points, so the list has a pair that counts
first-pair : (p : Parameters) (e : ℕ) (qs : List Pair) (l : ℕ) (rs : List Point) → Within p → p.m + p.w ≤ length rs → Each (MeetsTwice p e qs l) rs
    → (q : Pair) × In q qs × Differ e q
first-pair p e qs l [] within n met = absurd (let a = within.m-least in omega arith)
first-pair p e qs l (r ∷ rs) within n met = (met.0.pair, met.0.in_list, met.0.counts)

module _ (hash : List ℕ → ℕ → List ℕ) (hash-length : (s : List ℕ) (n : ℕ) → length (hash s n) ≡ n) (p : Parameters) (runs : ℕ) (key : Key)
    (e : ℕ) (salt h : List ℕ) (qs : List Pair) (l : ℕ) (rs : List Point) (within : Within p) (m : Meeting hash p runs key e salt h qs l rs) where
  pub low-claim : OneX hash p runs key e qs
  low-claim =
      let f = first-pair p e qs l rs within m.enough m.met in
      record {
        x = x_of_pair hash p runs key e f.0;
        gives = gives-x hash hash-length p runs key e salt h qs within m.run m.under m.free f.1 f.2;
        light =
            light-low hash hash-length p runs key e salt h qs within m.run m.under m.free f.1 f.2
            l m.position rs m.different m.enough m.met;
      }

  pub weight-claim : ((s : List ℕ) (n : ℕ) → Bytes (hash s n)) → Bytes key.y → Each InBytes qs → OneLightX hash p runs key e qs
  unfolding low-claim
  weight-claim hash-bytes y-bytes sent =
      let f = first-pair p e qs l rs within m.enough m.met in
      record {
        x = low-claim.x;
        gives = low-claim.gives;
        light =
            rw (low_bytes-bytes low-claim.x
            (bytes-x₀ hash hash-length p runs key e salt h qs within m.run m.under m.free f.1 f.2 hash-bytes y-bytes
            (each_in InBytes sent f.1))) at low-claim.light;
      }
