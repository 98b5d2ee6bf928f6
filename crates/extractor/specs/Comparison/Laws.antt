-- The comparison of what was recomputed is the extractor's answer.
--
-- eq_list-same          comparisons that say the same
-- joined-apart         strings of joined families differ where the families do
-- Shows                what a view shows of an exchange
-- comparison-is        two views of exchanges with one salt and different hidden leaves give what the extractor answers
use Rattle.std.specs.Prelude.{◌≡◌, Bool, true, ◌&&◌, ℕ, ◌+◌, ◌<◌, eqb, ltb, length, drop}
use Rattle.std.proofs.Math.Path.{refl, sym, ap, ap₂}
use Rattle.std.proofs.Common.{◌∙◌, arith}
use Rattle.std.proofs.Math.Bool.{false, not, cond}
use mathlib.Core.List.{List, ◌∷◌, ◌++◌}
use Rattle.std.proofs.Math.Decide.{dec_lt, ℕ_discrete}
use borrow.Author.Tests.{lt-ltb, le-ltb, eq-eqb, ne_eqb, eqb-false, not-true, not-false}
use Rattle.lists.specs.Checks.Laws.{and_left, and_right}
use Rattle.lists.specs.Equal.{eq_list}
use Rattle.lists.specs.Equal.Laws.{eq_list-true, eq_list-false, eq_list-of}
use Rattle.shake256.specs.Fips.{SHAKE256}
use Rattle.shake256.proofs.Laws.{length-SHAKE256}
use Rattle.parameters.specs.declared.Parameters.{Parameters}
use Rattle.parameters.specs.Limits.{Within}
use Rattle.layout.specs.Layout.{leaves, message5_length}
use Rattle.exchange.proofs.FirstAxis.{first-trailing}
use Rattle.exchange.specs.Sequences.{joined, least}
use Rattle.exchange.proofs.Sequences.Laws.{joined-ext, joined-inj, Least, least-is}
use Rattle.exchange.specs.Strings.{string, string4, string5, string7}
use Rattle.exchange.specs.Values.{Key}
use Rattle.exchange.specs.Parties.{axis_string}
use Rattle.exchange.proofs.Parties.Laws.{string-inj}
use Rattle.exchange.specs.Opening.{Exchange, commitment_of, aux_of, opened_state, leaf_string, leaf_commitment, commitment_string, announced, response_string}
use Rattle.exchange.proofs.Opening.Laws.{length-commitments}
use Rattle.exchange.specs.Extractor.{opened_in_both, axis, aux_from, state_from, output, extract}
use Rattle.exchange.proofs.Extractor.Laws.{string-7, string-6, string-5, string-4, axis-is}
use Rattle.leaves.specs.Commitments.{commitments_of}
use Rattle.leaves.specs.Commitments.Laws.{opened-commitments}
use Rattle.extractor.specs.Head.{least-ext}
use Rattle.extractor.specs.Chain.{differs_at, extract-chain}
use Rattle.extractor.specs.Comparison.{View, state_at, row_at, digest_at, leaf_at, apart, commitments, first_apart, first_opened, state_of, output_of, axis_of, leaf_comparison, comparison}

-- ---- comparisons

eq_list-apart : (a b : List ℕ) → (a ≡ b → ⊥) → eq_list a b ≡ false
eq_list-apart a b h = go (eq_list a b) refl
  where
    go : (t : Bool) → eq_list a b ≡ t → eq_list a b ≡ false
    go true e = absurd (h (eq_list-true a b e))
    go false e = e

pub eq_list-same : (a b c d : List ℕ) → (a ≡ b → c ≡ d) → (c ≡ d → a ≡ b) → eq_list a b ≡ eq_list c d
eq_list-same a b c d to from = go (eq_list a b) refl
  where
    go : (t : Bool) → eq_list a b ≡ t → eq_list a b ≡ eq_list c d
    go true e = e ∙ sym (eq_list-of c d (to (eq_list-true a b e)))
    go false e = e ∙ sym (eq_list-apart c d (λ q. eq_list-false a b e (from q)))

module _ (f g : ℕ → List ℕ) (n size layer : ℕ) (prefix : List ℕ) (hf : (i : ℕ) → i < n → length (f i) ≡ size)
    (hg : (i : ℕ) → i < n → length (g i) ≡ size) where
  pub joined-apart : ltb (least (apart f g) n) n ≡ not (eq_list (string layer prefix (joined f n)) (string layer prefix (joined g n)))
  unfolding apart
  joined-apart = go (dec_lt (least (apart f g) n) n)
    where
      first : Least (apart f g) n (least (apart f g) n)
      first = least-is (apart f g) n

      same : (least (apart f g) n < n → ⊥) → (i : ℕ) → i < n → f i ≡ g i
      same h i l = eq_list-true (f i) (g i) (not-false (eq_list (f i) (g i)) (first.before i (let m = first.most in omega arith)))

      other : least (apart f g) n < n → string layer prefix (joined f n) ≡ string layer prefix (joined g n) → ⊥
      other l e =
          eq_list-false (f (least (apart f g) n)) (g (least (apart f g) n)) (not-true _ (first.passes l))
          (joined-inj f g n size hf hg (string-inj layer prefix (joined f n) (joined g n) e) (least (apart f g) n) l)

      go : Dec (least (apart f g) n < n)
          → ltb (least (apart f g) n) n ≡ not (eq_list (string layer prefix (joined f n)) (string layer prefix (joined g n)))
      go (yes l) = lt-ltb _ _ l ∙ sym (ap not (eq_list-apart _ _ (other l)))
      go (no h) =
          le-ltb (least (apart f g) n) n (omega arith)
          ∙ sym (ap not (eq_list-of _ _ (ap (string layer prefix) (joined-ext f g n (same h)))))

-- ---- a view of an exchange

pub record Shows (p : Parameters) (key : Key) (prefix : List ℕ) (e : Exchange) (v : View) : Type 0 where
  pub salt : e.prefix ≡ prefix
  pub leaf : e.leaf ≡ v.leaf
  pub given : commitment_of p e ≡ v.given
  pub aux : aux_of p e ≡ v.aux
  pub state : (i : ℕ) → i < leaves p → (i ≡ e.leaf → ⊥) → opened_state SHAKE256 p e i ≡ state_at v.states i
  pub row : (j : ℕ) → j < p.axes → axis_string p e.prefix j (announced SHAKE256 p e key j) ≡ string 6 e.prefix ((j + 1) ∷ row_at p v.rows j)
  pub sent : length e.message5 ≡ message5_length p e.leaf

module _ (p : Parameters) (key : Key) (prefix : List ℕ) (e : Exchange) (v : View) (s : Shows p key prefix e v) where
  row-string : (j : ℕ) → j < p.axes → axis_string p e.prefix j (announced SHAKE256 p e key j) ≡ string 6 prefix ((j + 1) ∷ row_at p v.rows j)
  row-string j l = s.row j l ∙ ap (λ (q : List ℕ). string 6 q ((j + 1) ∷ row_at p v.rows j)) s.salt

  response-string : response_string SHAKE256 p e key ≡ string 7 prefix (joined (digest_at p prefix v.rows) p.axes)
  unfolding response_string string7 digest_at
  response-string =
      ap₂ (string 7) s.salt
      (joined-ext (λ j. SHAKE256 (axis_string p e.prefix j (announced SHAKE256 p e key j)) 32) (digest_at p prefix v.rows) p.axes
      (λ j l. ap (λ (x : List ℕ). SHAKE256 x 32) (row-string j l)))

  commitment-at : (i : ℕ) → i < leaves p → leaf_commitment SHAKE256 p e i ≡ commitments p prefix v i
  commitment-at i l =
      sym (opened-commitments p e v.states v.given v.aux (λ i l q. sym (s.state i l q)) (sym s.given) (sym s.aux) i l)
      ∙ ap₂ (λ (q : List ℕ) (u : ℕ). commitments_of p q v.states u v.given v.aux i) s.salt s.leaf

  commitment-string : commitment_string SHAKE256 p e ≡ string 5 prefix (joined (commitments p prefix v) (leaves p))
  unfolding commitment_string string5
  commitment-string =
      ap₂ (string 5) s.salt
      (joined-ext (leaf_commitment SHAKE256 p e) (commitments p prefix v) (leaves p) commitment-at)

  length-commitment : (i : ℕ) → i < leaves p → length (commitments p prefix v i) ≡ 32
  length-commitment i l = ap length (sym (commitment-at i l)) ∙ length-commitments SHAKE256 p e length-SHAKE256 s.sent i

  leaf-string : (i : ℕ) → i < leaves p → (i ≡ e.leaf → ⊥) → leaf_string SHAKE256 p e i ≡ string 4 prefix (i ∷ leaf_at p v.states v.aux i)
  unfolding leaf_string string4 leaf_at
  leaf-string i l q = rw (s.state i l q, s.aux, s.salt)

-- ---- two views

module _ (p : Parameters) (within : Within p) (key : Key) (prefix : List ℕ) (e e' : Exchange) (v v' : View) (s : Shows p key prefix e v)
    (s' : Shows p key prefix e' v') (inside : e.leaf < leaves p) (inside' : e'.leaf < leaves p) (other : e.leaf ≡ e'.leaf → ⊥) where
  at_7 : differs_at SHAKE256 p key e e' 7 0 ≡ ltb (first_apart (digest_at p prefix v.rows) (digest_at p prefix v'.rows) p.axes) p.axes
  unfolding differs_at first_apart
  at_7 =
      ap₂ (λ (a b : List ℕ). not (eq_list a b)) (string-7 SHAKE256 p key e ∙ response-string p key prefix e v s)
      (string-7 SHAKE256 p key e' ∙ response-string p key prefix e' v' s')
      ∙ sym (joined-apart (digest_at p prefix v.rows) (digest_at p prefix v'.rows) p.axes 32 7 prefix
      (λ j l. unfold digest_at in length-SHAKE256 _ 32) (λ j l. unfold digest_at in length-SHAKE256 _ 32))

  at-6 : least (λ j. differs_at SHAKE256 p key e e' 6 (j + 1)) p.axes ≡ first_apart (row_at p v.rows) (row_at p v'.rows) p.axes
  unfolding differs_at first_apart apart
  at-6 =
      least-ext (λ j. differs_at SHAKE256 p key e e' 6 (j + 1)) (apart (row_at p v.rows) (row_at p v'.rows)) p.axes
      (λ j l.
      ap₂ (λ (a b : List ℕ). not (eq_list a b)) (string-6 SHAKE256 p key e j ∙ row-string p key prefix e v s j l)
      (string-6 SHAKE256 p key e' j ∙ row-string p key prefix e' v' s' j l)
      ∙ ap not
      (eq_list-same _ _ _ _ (λ q. ap (drop 1) (string-inj 6 prefix _ _ q)) (λ q. ap (λ (r : List ℕ). string 6 prefix ((j + 1) ∷ r)) q)))

  at_5 : differs_at SHAKE256 p key e e' 5 0 ≡ ltb (first_apart (commitments p prefix v) (commitments p prefix v') (leaves p)) (leaves p)
  unfolding differs_at first_apart
  at_5 =
      ap₂ (λ (a b : List ℕ). not (eq_list a b)) (string-5 SHAKE256 p key e ∙ commitment-string p key prefix e v s)
      (string-5 SHAKE256 p key e' ∙ commitment-string p key prefix e' v' s')
      ∙ sym (joined-apart _ _ (leaves p) 32 5 prefix (length-commitment p key prefix e v s) (length-commitment p key prefix e' v' s'))

  at-4 : least (λ i. opened_in_both e.leaf e'.leaf i && differs_at SHAKE256 p key e e' 4 i) (leaves p) ≡ first_opened v.leaf v'.leaf (leaf_at p v.states v.aux) (leaf_at p v'.states v'.aux) (leaves p)
  unfolding first_opened
  at-4 =
      least-ext (λ i. opened_in_both e.leaf e'.leaf i && differs_at SHAKE256 p key e e' 4 i)
      (λ i. opened_in_both v.leaf v'.leaf i && apart (leaf_at p v.states v.aux) (leaf_at p v'.states v'.aux) i) (leaves p)
      (λ i l. go i l (opened_in_both e.leaf e'.leaf i) refl ∙ ap (λ (b : Bool). b && apart (leaf_at p v.states v.aux) (leaf_at p v'.states v'.aux) i) (both i))
    where
      both : (i : ℕ) → opened_in_both e.leaf e'.leaf i ≡ opened_in_both v.leaf v'.leaf i
      both i = ap₂ (λ (a b : ℕ). opened_in_both a b i) s.leaf s'.leaf

      differ : (i : ℕ) → i < leaves p → (i ≡ e.leaf → ⊥) → (i ≡ e'.leaf → ⊥)
          → differs_at SHAKE256 p key e e' 4 i ≡ apart (leaf_at p v.states v.aux) (leaf_at p v'.states v'.aux) i
      differ i l q q' =
          unfold differs_at apart in
          ap₂ (λ (a b : List ℕ). not (eq_list a b)) (string-4 SHAKE256 p key e i ∙ leaf-string p key prefix e v s i l q)
          (string-4 SHAKE256 p key e' i ∙ leaf-string p key prefix e' v' s' i l q')
          ∙ ap not
          (eq_list-same _ _ _ _ (λ z. ap (drop 1) (string-inj 4 prefix _ _ z)) (λ z. ap (λ (r : List ℕ). string 4 prefix (i ∷ r)) z))

      go : (i : ℕ) → i < leaves p → (b : Bool) → opened_in_both e.leaf e'.leaf i ≡ b
          → (b && differs_at SHAKE256 p key e e' 4 i) ≡ (b && apart (leaf_at p v.states v.aux) (leaf_at p v'.states v'.aux) i)
      go i l true z =
          unfold opened_in_both in
          differ i l (eqb-false i e.leaf (not-true _ (and_left (not (eqb i e.leaf)) _ z)))
          (eqb-false i e'.leaf (not-true _ (and_right (not (eqb i e.leaf)) _ z)))
      go i l false z = refl

  axis-same : axis p e e' ≡ axis_of v.leaf v'.leaf
  axis-same =
      axis-is p e e'
      ∙ ap (λ (n : ℕ). n + 1) (first-trailing p e.leaf e'.leaf inside inside' other 8 within.axes-most)
      ∙ ap₂ axis_of s.leaf s'.leaf

  state-same : (i : ℕ) → i < leaves p → state_from SHAKE256 p e e' i ≡ state_of v.leaf v.states v'.states i
  unfolding state_from state_of
  state-same i l = go (ℕ_discrete i e.leaf)
    where
      go : Dec (i ≡ e.leaf)
          → cond (eqb i e.leaf) (opened_state SHAKE256 p e' i) (opened_state SHAKE256 p e i)
          ≡ cond (eqb i v.leaf) (state_at v'.states i) (state_at v.states i)
      go (yes q) = rw (eq-eqb i e.leaf q, eq-eqb i v.leaf (q ∙ s.leaf)) (s'.state i l (λ z. other (sym q ∙ z)))
      go (no q) = rw (ne_eqb i e.leaf q, ne_eqb i v.leaf (λ z. q (z ∙ sym s.leaf))) (s.state i l q)

  output-same : output SHAKE256 p e e' ≡ output_of p v.leaf v.states v.aux v'.states v'.aux
  unfolding output output_of aux_from
  output-same =
      ap₂ ◌++◌ (joined-ext (state_from SHAKE256 p e e') (state_of v.leaf v.states v'.states) (leaves p) state-same) (rw (s.aux, s'.aux, s.leaf))

  pub comparison-is : comparison p prefix v v' ≡ extract SHAKE256 p key e e'
  unfolding comparison leaf_comparison
  comparison-is = sym (extract-chain SHAKE256 p key e e' ∙ rw (at_7, at-6, at_5, at-4, axis-same, output-same))
