-- The prover's messages are accepted: for every valid key, salt, root, points, multipliers and leaf.
--
-- own_w, own_v               α and β of the prover's leaves at a position, and their parts of v
-- zero-sum                 v of all leaves, with the constant, sums to zero: the relation of the sum
-- announced-same           what the verifier's parties announce is what the prover's do
-- axis_string-is, response_string-is   so are the strings of layers 6 and 7
-- response-is              the recomputed h' is the prover's
-- honest-accepted          the verdict on the honest exchange
-- messages-accepted        the verdict on what is read from the messages
use Rattle.std.specs.Prelude.{◌≡◌, ℕ, ◌+◌, ◌<◌, length, Ok}
use Rattle.std.proofs.Math.Path.{refl, sym, ap}
use Rattle.std.proofs.Common.{◌∙◌}
use Rattle.std.proofs.Math.Bool.{false}
use mathlib.Core.List.{List, ◌∷◌}
use Rattle.std.proofs.Math.Decide.{ℕ_discrete}
use Rattle.cube.specs.Group.{pair_path}
use Rattle.cube.specs.Sum.{sum}
use Rattle.cube.specs.Sum.Laws.{cond-eq, cond-ne, sum-ext, sum-pairs}
use Rattle.cube.specs.Party.{replaced}
use Rattle.cube.specs.Opening as cube
use Rattle.cube.specs.Opening.Laws.{announced-ext, verified-ext, completeness}
use Rattle.tower.specs.Field.{Point}
use Rattle.parameters.specs.declared.Parameters.{Parameters}
use Rattle.relation.specs.Key.{vector_of}
use Rattle.layout.specs.Layout.{side, leaves, y_length, prefix_length}
use Rattle.exchange.specs.Run.{Run}
use Rattle.exchange.proofs.Sequences.Laws.{joined-ext}
use Rattle.exchange.specs.Strings.{string, string6, string7}
use Rattle.exchange.specs.Reading.{◌⊞◌, 𝟎}
use Rattle.exchange.specs.Values.{Key, alpha, beta, part_v}
use Rattle.exchange.proofs.Values.Relation.{total_v-zero}
use Rattle.exchange.specs.Parties.{sums, announced_bytes, axis_string}
use Rattle.exchange.proofs.Parties.Cube.{axis_partition, G, GG, leaf_w, leaf_v, constant_w, constant_v, v-total, party-announced, party-formula}
use Rattle.exchange.specs.Announcing.{formula_v}
use Rattle.exchange.proofs.Announcing.Laws.{same_bytes, none-alpha, none-beta, none-v}
use Rattle.exchange.specs.Opening.{Exchange, exchange, announced, response_string, verdict}
use Rattle.exchange.proofs.Opening.Cube.{opened_w, opened_v, opened-announced, opened-verified}
use Rattle.exchange.proofs.Opening.Laws.{accepted-when, sums-agree}
use Rattle.exchange.specs.Messages.{own_share, own_party, own_announced, message1, message3, message5}
use Rattle.exchange.proofs.Messages.Laws.{Secret}
use Rattle.exchange.proofs.Messages.Opened.{honest, exchange-is, alpha-is, beta-is, share-is, commitment_string-is}
use Rattle.exchange.proofs.Messages.Sum.{own_sum, relation-of-sum}

module _ (hash : List ℕ → ℕ → List ℕ) (hash-length : (s : List ℕ) (n : ℕ) → length (hash s n) ≡ n)
    (p : Parameters) (key : Key) (x_a : List ℕ) (size : length x_a ≡ p.k) (size_y : length key.y ≡ y_length p)
    (secret : Secret p (vector_of key.matrix key.y x_a)) (run : Run) (m2 : List ℕ) (u : ℕ) (inside : u < leaves p) where
  abbrev x : List ℕ
  x = vector_of key.matrix key.y x_a

  abbrev own : ℕ → List ℕ
  own = own_share hash p x run

  abbrev e : Exchange
  e = honest hash p x run key m2 u

  -- ---- at a position and on an axis

  module _ (l : ℕ) (hl : l < p.t) where
    abbrev own_w : ℕ → Point × Point
    own_w = leaf_w p key m2 l own

    abbrev own_v : ℕ → Point × Point → Point
    own_v = leaf_v p key m2 l own

    W-is : (i : ℕ) → i < leaves p → opened_w hash p e key l i ≡ own_w i
    unfolding opened_w leaf_w replaced
    W-is i h = go (ℕ_discrete i u)
      where
        go : Dec (i ≡ u) → opened_w hash p e key l i ≡ own_w i
        go (yes q) =
            pair_path
            (cond-eq i u _ _ q ∙ alpha-is hash p x run key m2 u hash-length l hl ∙ ap (λ (i : ℕ). alpha p key m2 false (own i) l) (sym q))
            (cond-eq i u _ _ q ∙ beta-is hash p x run key m2 u hash-length l hl ∙ ap (λ (i : ℕ). beta p key m2 false (own i) l) (sym q))
        go (no n) =
            pair_path
            (cond-ne i u _ _ n ∙ ap (λ (s : List ℕ). alpha p key m2 false s l) (share-is hash p x run key m2 u hash-length inside i h n))
            (cond-ne i u _ _ n ∙ ap (λ (s : List ℕ). beta p key m2 false s l) (share-is hash p x run key m2 u hash-length inside i h n))

    V-is : (i : ℕ) → i < leaves p → (i ≡ u → ⊥) → opened_v hash p e key l i ≡ own_v i
    unfolding opened_v leaf_v
    V-is i h n =
        ap {B = Point × Point → Point} (λ (s : List ℕ) (z : Point × Point). part_v p key m2 false s z.0 z.1 l)
        (share-is hash p x run key m2 u hash-length inside i h n)

    module _ (j : ℕ) where
      abbrev own_totals : Point × Point
      own_totals = cube.totals GG G (axis_partition p j) (constant_w p key m2 l) (constant_v p key m2 l) own_w

      own-announced : (c : ℕ) → c < side p → ((own_announced hash p x run key m2 j).α c l, (own_announced hash p x run key m2 j).β c l)
          ≡ cube.announced GG G (axis_partition p j) (constant_w p key m2 l) (constant_v p key m2 l) own_w c
      unfolding own_announced own_party
      own-announced c h = pair_path (none-alpha p key m2 _ c l h) (none-beta p key m2 _ c l h) ∙ party-announced p key m2 l own j c

      own-totals : (sums (λ c. (own_announced hash p x run key m2 j).α c l) (side p), sums (λ c. (own_announced hash p x run key m2 j).β c l) (side p)) ≡ own_totals
      unfolding cube.totals
      own-totals =
          sym (sum-pairs G G (λ c. ((own_announced hash p x run key m2 j).α c l, (own_announced hash p x run key m2 j).β c l)) (side p))
          ∙ sum-ext GG (λ c. ((own_announced hash p x run key m2 j).α c l, (own_announced hash p x run key m2 j).β c l))
          (cube.announced GG G (axis_partition p j) (constant_w p key m2 l) (constant_v p key m2 l) own_w) (side p) own-announced

      own-formula : (c : ℕ) → c < side p → (own_announced hash p x run key m2 j).v c l
          ≡ cube.formula GG G (axis_partition p j) (constant_w p key m2 l) (constant_v p key m2 l) own_w own_v c
      unfolding own_announced own_party formula_v
      own-formula c h =
          none-v p key m2 _ c l h
          ∙ party-formula p key m2 l own j c
          (sums (λ c. (own_announced hash p x run key m2 j).α c l) (side p), sums (λ c. (own_announced hash p x run key m2 j).β c l) (side p)) own-totals

      zero-sum : constant_v p key m2 l own_totals ⊞ sum G (λ i. own_v i own_totals) (leaves p) ≡ 𝟎
      unfolding own_sum
      zero-sum =
          sym (v-total p key m2 l own j)
          ∙ total_v-zero p key m2 (own_sum hash p x run) l (relation-of-sum hash p x run hash-length secret key x_a size size_y refl m2 l hl)

      -- ---- what the parties announce

      W-same : (c : ℕ) → c < side p → ◌≡◌ {A = Point × Point} ((announced hash p e key j).α c l, (announced hash p e key j).β c l)
          ((own_announced hash p x run key m2 j).α c l, (own_announced hash p x run key m2 j).β c l)
      W-same c h =
          opened-announced hash p e key l inside j c
          ∙ announced-ext GG G (axis_partition p j) (constant_w p key m2 l) (constant_v p key m2 l) (opened_w hash p e key l) own_w W-is c
          ∙ sym (own-announced c h)

      V-same : (c : ℕ) → c < side p → (announced hash p e key j).v c l ≡ (own_announced hash p x run key m2 j).v c l
      V-same c h =
          opened-verified hash p e key l inside j c h
          ∙ verified-ext GG G (axis_partition p j) (constant_w p key m2 l) (constant_v p key m2 l) (opened_w hash p e key l) own_w W-is u
          (opened_v hash p e key l) own_v V-is c h
          ∙ completeness GG G (axis_partition p j) (constant_w p key m2 l) (constant_v p key m2 l) u inside own_w own_v zero-sum c
          ∙ sym (own-formula c h)

  -- ---- the strings

  announced-same : (j c : ℕ) → c < side p → announced_bytes p (announced hash p e key j) c ≡ announced_bytes p (own_announced hash p x run key m2 j) c
  announced-same j c h =
      same_bytes p _ _ c (λ l k. ap (λ (z : Point × Point). z.0) (W-same l k j c h)) (λ l k. ap (λ (z : Point × Point). z.1) (W-same l k j c h))
      (λ l k. V-same l k j c h)

  pub axis_string-is : (j : ℕ) → axis_string p run.prefix j (announced hash p e key j) ≡ axis_string p run.prefix j (own_announced hash p x run key m2 j)
  unfolding axis_string string6
  axis_string-is j =
      ap (λ (s : List ℕ). string 6 run.prefix ((j + 1) ∷ s))
      (joined-ext (announced_bytes p (announced hash p e key j)) (announced_bytes p (own_announced hash p x run key m2 j)) (side p) (announced-same j))

  pub response_string-is : response_string hash p e key
      ≡ string7 run.prefix (λ j. hash (axis_string p run.prefix j (own_announced hash p x run key m2 j)) 32) p.axes
  unfolding response_string string7
  response_string-is =
      ap (string 7 run.prefix)
      (joined-ext (λ j. hash (axis_string p run.prefix j (announced hash p e key j)) 32)
      (λ j. hash (axis_string p run.prefix j (own_announced hash p x run key m2 j)) 32) p.axes
      (λ j h. ap (λ (s : List ℕ). hash s 32) (axis_string-is j)))

  response-is : hash (response_string hash p e key) 32 ≡ message3 hash p x run key m2
  unfolding message3
  response-is = ap (λ (s : List ℕ). hash s 32) response_string-is

  pub honest-accepted : verdict hash p (honest hash p x run key m2 u) key ≡ Ok tt
  honest-accepted =
      accepted-when hash p e key (record {
        commitment = ap (λ (s : List ℕ). hash s 32) (commitment_string-is hash p x run key m2 u hash-length inside);
        sums_same = λ j h. sums-agree hash p e key j 0;
        response = response-is;
      })

  pub messages-accepted : length run.prefix ≡ prefix_length
      → verdict hash p (exchange (message1 hash p x run) m2 (message3 hash p x run key m2) u (message5 hash p x run key m2 u)) key ≡ Ok tt
  messages-accepted h = ap (λ (e : Exchange). verdict hash p e key) (exchange-is hash p x run key m2 u h) ∙ honest-accepted
