-- The words of demand 3, as document 01 explains them ('The words of demand 3'), over exchanges of several runs (document 02, request 01). Key is
-- parameters, matrix and y; commitment is h, one a run; response digest is h', one a run.
--
-- Lent p key               matrix and y have the lengths that document 01 gives them
-- Sent p runs t            messages 1 to 5 have theirs, and the leaves of message 4 are below n
-- Apart t t' e             the hidden leaves of run e differ
-- Comparable               two openings 'that are accepted under the same key, salt, commitment, points, multipliers and response digest
--                          and hide different leaves', in at least one run; 'An exchange is accepted when all runs are'; 'demand 3 [is] then about
--                          exchanges with distinct points' (request 02), which are the same in both
-- run_part p out e          the part of run e: 'The extractor's output has a part for each run'
-- leaf_state, aux_state      'A leaf's state: its seed and rho, and for leaf n−1 also aux', as the part of a run holds them
-- leaf_share                'its shares follow by layer 3 and aux'
-- leaf_x                    'A leaf's x is its x_A followed by H'x_A'
-- summed size f n          a sum of n lists: 'Sums run over all n leaves'
-- x_sum, q_sum               'y is then added once to x_B, the leading 1 once to Q'
-- p_sum, a_sum, b_sum, c_sum   the sums of P, a, b and c
-- Witness                  'satisfy Hx = y and ε(SQ − PF)(r) = c − ab at each position': 'S interpolates the summed x, F stands above,
--                          Hx is H'x_A + x_B'
-- At run layer number ps   the run, layer and number stand in the list
-- Same run layer number    the two strings there are equal
-- Clash                    the two strings at a run, layer and number are unequal and 'hashed to one digest', and no two before them in the order
--                          of comparison are unequal: 'The first unequal pair is the answer'; only runs whose hidden leaves differ are compared
-- States                   a run's part of the output is every leaf's state: what the run's openings disclose, and what their commitments are
--                          made of
use Rattle.std.specs.Prelude.{◌≡◌, List, [], ◌∷◌, ◌++◌, ℕ, zero, suc, ◌-◌, ◌*◌, ◌<◌, length, take, drop, replicate}
use Rattle.lists.specs.Part.{part}
use Rattle.lists.specs.Sum.{xor_list}
use Rattle.tower.specs.Field.{Point}
use Rattle.parameters.specs.declared.Parameters.{Parameters}
use Rattle.parameters.specs.Limits.{Within}
use Rattle.polynomial.specs.Interpolant.{interpolant_of}
use Rattle.layout.specs.Layout.{leaves, at_q, y_length, matrix_length, output_length}
use Rattle.layout.specs.Runs.{message1_length, messages2_length, messages3_length, messages5_length}
use Rattle.layout.specs.Runs.Laws.{RunsWithin}
use Rattle.exchange.specs.Reading.{bytes_at, value, ◌⊞◌, ◌⊠◌}
use Rattle.exchange.specs.Leaf.{share, commitment}
use Rattle.exchange.specs.Values.{Key, x_a_of, p_of, a_of, b_of, c_of, point_of, multiplier_of, image_of, F}
use Rattle.exchange.specs.Parties.{sums}
use Rattle.exchange.specs.Opening.{Exchange, aux_of, opened_state, leaf_commitment}
use Rattle.runs.specs.Messages.{leaf_at}
use Rattle.runs.specs.Points.{DistinctPoints}
use Rattle.runs.specs.Opening.{Transcript, Accepted}
use Rattle.runs.specs.Extractor.{compared, string_at}

-- ---- two openings

pub record Lent (p : Parameters) (key : Key) : Type 0 where
  pub matrix : length key.matrix ≡ matrix_length p
  pub y : length key.y ≡ y_length p

pub record Sent (p : Parameters) (runs : ℕ) (t : Transcript) : Type 0 where
  pub message1 : length t.message1 ≡ message1_length runs
  pub message2 : length t.message2 ≡ messages2_length p runs
  pub message3 : length t.message3 ≡ messages3_length runs
  pub message4 : length t.leaves ≡ runs
  pub below : (e : ℕ) → e < runs → leaf_at t.leaves e < leaves p
  pub message5 : length t.message5 ≡ messages5_length p t.leaves

abbrev pub Apart : Transcript → Transcript → ℕ → Type 0
Apart t t' e = leaf_at t.leaves e ≡ leaf_at t'.leaves e → ⊥

pub record Comparable (hash : List ℕ → ℕ → List ℕ) (p : Parameters) (runs : ℕ) (key : Key) (t t' : Transcript) : Type 0 where
  pub within : Within p
  pub counted : RunsWithin runs
  pub lent : Lent p key
  pub sent : Sent p runs t
  pub sent' : Sent p runs t'
  pub salt-and-h : t.message1 ≡ t'.message1
  pub points-and-multipliers : t.message2 ≡ t'.message2
  pub distinct : DistinctPoints p runs t.message2
  pub response : t.message3 ≡ t'.message3
  pub hidden : t.leaves ≡ t'.leaves → ⊥
  pub accepted : Accepted hash p runs t key
  pub accepted' : Accepted hash p runs t' key

-- ---- the states in an output, and what follows from them

unfoldable pub run_part : Parameters → List ℕ → ℕ → List ℕ
run_part p out e = part out (e * output_length p) (output_length p)

unfoldable pub leaf_state : List ℕ → ℕ → List ℕ
leaf_state out i = take 32 (drop (32 * i) out)

unfoldable pub aux_state : Parameters → List ℕ → List ℕ
aux_state p out = drop (32 * leaves p) out

unfoldable pub leaf_share : (List ℕ → ℕ → List ℕ) → Parameters → List ℕ → List ℕ → ℕ → List ℕ
leaf_share hash p prefix out i = share hash p prefix i (leaf_state out i) (aux_state p out)

unfoldable pub leaf_x : Parameters → Key → List ℕ → List ℕ
leaf_x p key s = x_a_of p s ++ image_of p key (x_a_of p s)

unfoldable pub summed : ℕ → (ℕ → List ℕ) → ℕ → List ℕ
summed size f zero = replicate size 0
summed size f (suc n) = xor_list (summed size f n) (f n)

-- ---- the sums over all leaves, s i being the share of leaf i

module _ (p : Parameters) (key : Key) (s : ℕ → List ℕ) where
  -- with no y yet
  abbrev pub plain_x : List ℕ
  plain_x = summed p.m (λ i. leaf_x p key (s i)) (leaves p)

  unfoldable pub x_sum : List ℕ
  x_sum = take p.k plain_x ++ xor_list (drop p.k plain_x) key.y

  unfoldable pub q_sum : List ℕ
  q_sum = summed p.w (λ i. bytes_at (s i) (at_q p) p.w) (leaves p) ++ (1 ∷ [])

  unfoldable pub p_sum : List ℕ
  p_sum = summed p.w (λ i. p_of p (s i)) (leaves p)

  unfoldable pub a_sum : ℕ → Point
  a_sum l = sums (λ i. a_of p (s i) l) (leaves p)

  unfoldable pub b_sum : ℕ → Point
  b_sum l = sums (λ i. b_of p (s i) l) (leaves p)

  unfoldable pub c_sum : ℕ → Point
  c_sum l = sums (λ i. c_of p (s i) l) (leaves p)

  pub record Witness (m2 : List ℕ) : Type 0 where
    pub syndrome : xor_list (image_of p key (take p.k x_sum)) (drop p.k x_sum) ≡ key.y
    pub relation : (l : ℕ) → l < p.t → multiplier_of p m2 l
        ⊠ (value (interpolant_of x_sum) (point_of p m2 l) ⊠ value q_sum (point_of p m2 l) ⊞ value p_sum (point_of p m2 l) ⊠ value (F p) (point_of p m2 l))
        ≡ c_sum l ⊞ a_sum l ⊠ b_sum l

-- ---- what the extractor gives

pub data At (run layer number : ℕ) : List (ℕ × (ℕ × ℕ)) → Type 0 where
  here : {ps : List (ℕ × (ℕ × ℕ))} → At run layer number ((run, (layer, number)) ∷ ps)
  later : {q : ℕ × (ℕ × ℕ)} {ps : List (ℕ × (ℕ × ℕ))} → At run layer number ps → At run layer number (q ∷ ps)

module _ (hash : List ℕ → ℕ → List ℕ) (p : Parameters) (runs : ℕ) (key : Key) (t t' : Transcript) where
  abbrev pub Same : ℕ → ℕ → ℕ → Type 0
  Same run layer number = string_at hash p runs key t (run, (layer, number)) ≡ string_at hash p runs key t' (run, (layer, number))

  pub record Clash (run layer number : ℕ) : Type 0 where
    pub apart : Apart t t' run
    pub earlier : List (ℕ × (ℕ × ℕ))
    pub later : List (ℕ × (ℕ × ℕ))
    pub is-compared : compared p runs t t' ≡ earlier ++ ((run, (layer, number)) ∷ later)
    pub first : (r l n : ℕ) → At r l n earlier → Same r l n
    pub unequal : Same run layer number → ⊥
    pub one-digest : hash (string_at hash p runs key t (run, (layer, number))) 32 ≡ hash (string_at hash p runs key t' (run, (layer, number))) 32

module _ (hash : List ℕ → ℕ → List ℕ) (p : Parameters) (key : Key) (e e' : Exchange) where
  pub record States (out : List ℕ) : Type 0 where
    pub opened : (i : ℕ) → i < leaves p → (i ≡ e.leaf → ⊥) → leaf_state out i ≡ opened_state hash p e i
    pub opened' : (i : ℕ) → i < leaves p → (i ≡ e'.leaf → ⊥) → leaf_state out i ≡ opened_state hash p e' i
    pub aux : (leaves p - 1 ≡ e.leaf → ⊥) → aux_state p out ≡ aux_of p e
    pub aux' : (leaves p - 1 ≡ e'.leaf → ⊥) → aux_state p out ≡ aux_of p e'
    pub commitments : (i : ℕ) → i < leaves p → commitment hash p e.prefix i (leaf_state out i) (aux_state p out) ≡ leaf_commitment hash p e i
    pub commitments' : (i : ℕ) → i < leaves p → commitment hash p e.prefix i (leaf_state out i) (aux_state p out) ≡ leaf_commitment hash p e' i
    pub witness : Witness p key (leaf_share hash p e.prefix out) e.message2
