-- Demand 3, second half. '.. and for every list of such pairs under one key, salt and commitment, free of such strings among them all,
-- that meets m + w different points at one position, each with two unequal multipliers, x is the same in all the pairs and has at most w
-- nonzero entries.'
-- Over several runs (document 02, request 01): 'The weight claim counts points at one position of one run, only from pairs whose hidden leaves differ in
-- that run, and speaks of that run's x, as these pairs give it.' So of the commitments only h of that run is common to the pairs, and pairs whose
-- hidden leaves agree in that run stand in the list and count for nothing.
--
-- Pair                 two exchanges of one run count
-- In q qs              the element stands in the list
-- Differ e q           the pair's hidden leaves differ in run e: it counts
-- Under e salt h q     the pair is comparable, so its points are distinct (document 02, request 02); the salt of both is salt and run e's h is h
-- openings e qs        run e of all openings of the pairs that count
-- Hashed y l n         a string of layer l and number n is hashed in checking the run y
-- Free ys              'no two unequal strings of one layer, 4 to 7, and one number, hashed in checking its openings, be they of one pair or
--                      of two, give one digest': of one run, here of run e
-- Meets e q l r ε      'A pair meets r with ε at a position if its message 2 has both there', in run e
-- MeetsTwice e qs l r  pairs of the list that count meet r at position l of run e with two unequal multipliers
-- Meeting e salt h qs l rs   a 'list of such pairs under one key, salt and commitment, free of such strings among them all, that meets m + w
--                      different points at one position, each with two unequal multipliers': the points are rs, the position l, of run e
-- part_for e q          the extractor's part for run e of the pair
-- x_of_pair e q          its summed x: run e's x, as the pair gives it
-- low_bytes x           the low byte of each entry of x; x itself, where its entries are bytes
-- Wrote e q out o      the extractor's call wrote that part, or it named two unequal strings of another run and left the output untouched
-- Gives e x q work out the part is every leaf's state, whose summed x is x; the call, lent this work area and output, wrote it, unless strings
--                      of another run are unequal; and it did where the pair's openings are free in every run
-- OneX e qs            x is the same in all the pairs that count, whatever slices of fitting lengths each call is lent, and has at most w
--                      entries whose low byte is nonzero
-- OneLightX e qs       'x is the same in all the pairs and has at most w nonzero entries'
-- InBytes q            messages 5 of the pair are bytes: with a hash that gives bytes, and y bytes, the entries of x are bytes
use Rattle.std.specs.Prelude.{◌≡◌, cond, List, [], ◌∷◌, map, ℕ, ◌+◌, ◌%◌, ◌≤◌, ◌<◌, length, take}
use Rattle.algebra.specs.Each.{Each, Distinct}
use Rattle.lists.specs.Part.{part}
use Rattle.tower.specs.Field.{Point}
use Rattle.parameters.specs.declared.Parameters.{Parameters}
use Rattle.polynomial.specs.Bytes.{Bytes}
use Rattle.relation.specs.Key.{weight_of}
use Rattle.layout.specs.Layout.{leaves, work_length}
use Rattle.layout.specs.Runs.{digest_place, outputs_length}
use Rattle.exchange.specs.Values.{Key, point_of, multiplier_of}
use Rattle.exchange.specs.Opening.{Exchange}
use Rattle.exchange.specs.Extractor.{string_at, output}
use Rattle.runs.specs.Messages.{message2_at}
use Rattle.runs.specs.Opening.{Transcript, exchange_at}
use Rattle.runs.specs.Extractor.{differs}
use Rattle.calls.specs.Extractor.{pair, filled, Outcome, extraction}
use Rattle.claims.specs.Words.{Apart, Comparable, run_part, leaf_share, x_sum, States}

pub record Pair : Type 0 where
  pub one : Transcript
  pub other : Transcript

abbrev pub Differ : ℕ → Pair → Type 0
Differ e q = Apart q.one q.other e

unfoldable pub low_bytes : List ℕ → List ℕ
low_bytes x = map (λ n. n % 256) x

pub record InBytes (q : Pair) : Type 0 where
  pub one : Bytes q.one.message5
  pub other : Bytes q.other.message5

pub data In {A : Type 0} (a : A) : List A → Type 0 where
  here : {bs : List A} → In a (a ∷ bs)
  later : {b : A} {bs : List A} → In a bs → In a (b ∷ bs)

unfoldable pub openings : Parameters → ℕ → List Pair → List Exchange
openings p e [] = []
openings p e (q ∷ qs) =
    cond (differs q.one q.other e) (exchange_at p q.one e ∷ exchange_at p q.other e ∷ openings p e qs) (openings p e qs)

pub record Meets (p : Parameters) (e : ℕ) (q : Pair) (l : ℕ) (r ε : Point) : Type 0 where
  pub point : point_of p (message2_at p q.one.message2 e) l ≡ r
  pub multiplier : multiplier_of p (message2_at p q.one.message2 e) l ≡ ε

pub record MeetsTwice (p : Parameters) (e : ℕ) (qs : List Pair) (l : ℕ) (r : Point) : Type 0 where
  pub pair : Pair
  pub pair' : Pair
  pub ε : Point
  pub ε' : Point
  pub in_list : In pair qs
  pub in-list' : In pair' qs
  pub counts : Differ e pair
  pub counts' : Differ e pair'
  pub meets : Meets p e pair l r ε
  pub meets' : Meets p e pair' l r ε'
  pub unequal : ε ≡ ε' → ⊥

-- ---- free

module _ (hash : List ℕ → ℕ → List ℕ) (p : Parameters) (key : Key) where
  pub data Hashed (y : Exchange) : ℕ → ℕ → Type 0 where
    at7 : Hashed y 7 0
    at6 : (j : ℕ) → j < p.axes → Hashed y 6 (j + 1)
    at5 : Hashed y 5 0
    at4 : (i : ℕ) → i < leaves p → (i ≡ y.leaf → ⊥) → Hashed y 4 i

  abbrev pub Free : List Exchange → Type 0
  Free ys = (y y' : Exchange) → In y ys → In y' ys → (layer number : ℕ) → Hashed y layer number → Hashed y' layer number
      → (string_at hash p key y layer number ≡ string_at hash p key y' layer number → ⊥)
      → hash (string_at hash p key y layer number) 32 ≡ hash (string_at hash p key y' layer number) 32 → ⊥

-- ---- the list, and what is claimed of it

module _ (hash : List ℕ → ℕ → List ℕ) (p : Parameters) (runs : ℕ) (key : Key) where
  pub record Under (e : ℕ) (salt h : List ℕ) (q : Pair) : Type 0 where
    pub comparable : Comparable hash p runs key q.one q.other
    pub same-salt : take 32 q.one.message1 ≡ salt
    pub same-h : part q.one.message1 (digest_place e) 32 ≡ h

  pub record Meeting (e : ℕ) (salt h : List ℕ) (qs : List Pair) (l : ℕ) (rs : List Point) : Type 0 where
    pub run : e < runs
    pub under : Each (Under e salt h) qs
    pub free : Free hash p key (openings p e qs)
    pub position : l < p.t
    pub different : Distinct rs
    pub enough : p.m + p.w ≤ length rs
    pub met : Each (MeetsTwice p e qs l) rs

  unfoldable pub part_for : ℕ → Pair → List ℕ
  part_for e q = output hash p (exchange_at p q.one e) (exchange_at p q.other e)

  unfoldable pub x_of_pair : ℕ → Pair → List ℕ
  x_of_pair e q = x_sum p key (leaf_share hash p (exchange_at p q.one e).prefix (part_for e q))

  pub data Wrote (e : ℕ) (q : Pair) (out : List ℕ) (o : Outcome) : Type 0 where
    wrote : (run axis : ℕ) → o.answer ≡ filled run axis → run_part p o.out e ≡ part_for e q → Wrote e q out o
    elsewhere : (run layer number : ℕ) → o.answer ≡ pair run layer number → (run ≡ e → ⊥) → o.out ≡ out → Wrote e q out o

  pub record Gives (e : ℕ) (x : List ℕ) (q : Pair) (work out : List ℕ) : Type 0 where
    pub states : States hash p key (exchange_at p q.one e) (exchange_at p q.other e) (part_for e q)
    pub same : x_of_pair e q ≡ x
    pub written : Wrote e q out (extraction hash p runs q.one q.other key work out)
    pub extracted : ((e' : ℕ) → e' < runs → Free hash p key (openings p e' (q ∷ [])))
        → (run : ℕ) × (axis : ℕ) × ((extraction hash p runs q.one q.other key work out).answer ≡ filled run axis)

  pub record OneX (e : ℕ) (qs : List Pair) : Type 0 where
    pub x : List ℕ
    pub gives : (q : Pair) → In q qs → Differ e q → (work out : List ℕ) → work_length p ≤ length work → length out ≡ outputs_length p runs
        → Gives e x q work out
    pub light : weight_of (low_bytes x) ≤ p.w

  pub record OneLightX (e : ℕ) (qs : List Pair) : Type 0 where
    pub x : List ℕ
    pub gives : (q : Pair) → In q qs → Differ e q → (work out : List ℕ) → work_length p ≤ length work → length out ≡ outputs_length p runs
        → Gives e x q work out
    pub light : weight_of x ≤ p.w
