-- What the verifier reads from the prover's messages. Of the hash only the length of what it gives is used.
--
-- honest                    the exchange with the prover's messages and hidden leaf u
-- exchange-is               it is what is read from these messages, the salt having 32 bytes
-- path-is, commitment-is, alpha-is, beta-is, aux-is   message 5 read back
-- state-is, share-is, leaf_string-is   a disclosed leaf's state, share and layer 4 string are the prover's
-- commitments-are           so are all commitments
-- commitment_string-is       and layer 5's string
use Rattle.std.specs.Prelude.{◌≡◌, ℕ, ◌+◌, ◌*◌, ◌<◌, eqb, length, get_or, drop}
use Rattle.std.proofs.Math.Path.{refl, sym, ap, ap₂}
use Rattle.std.proofs.Common.{◌∙◌, arith, eq-eqb, ne_eqb, length-append}
use Rattle.std.proofs.Math.Bool.{false, cond}
use mathlib.Core.List.{List, [], ◌++◌, append_assoc}
use Rattle.std.proofs.Math.Decide.{ℕ_discrete}
use Rattle.std.proofs.Math.ListN.{take}
use Rattle.std.proofs.Math.Seq.{take_at, drop_at}
use Rattle.parameters.specs.declared.Parameters.{Parameters}
use Rattle.layout.specs.Layout.{levels, leaves, is_last, factor_length, values_length, siblings_length, prefix_length}
use Rattle.layout.specs.Layout.Laws.{is_last-false, is_last-last}
use Rattle.exchange.specs.Run.{Run}
use Rattle.exchange.proofs.Sequences.Laws.{joined-ext}
use Rattle.exchange.specs.Strings.{string, string4, string5}
use Rattle.exchange.specs.Tree.{sibling_seeds, opened_seeds}
use Rattle.exchange.proofs.Tree.Laws.{length-sibling_seeds, opened-is}
use Rattle.exchange.specs.Leaf.{state, commitment}
use Rattle.exchange.proofs.Leaf.Laws.{SameAux, share-ext, string4-ext, length-commitment}
use Rattle.exchange.specs.Reading.{point_at, encode}
use Rattle.exchange.proofs.Reading.Laws.{length-encode, point_at-encode}
use Rattle.exchange.specs.Values.{Key, alpha, beta}
use Rattle.exchange.specs.Messages.{own_state, own_aux, own_share, own_commitment, message1, message3, message5}
use Rattle.exchange.specs.Opening.{Exchange, exchange, path_of, commitment_of, alpha_of, beta_of, aux_of, opened_state, opened_share, leaf_string, leaf_commitment, commitment_string}

module _ (hash : List ℕ → ℕ → List ℕ) (p : Parameters) (x : List ℕ) (run : Run) (key : Key) (m2 : List ℕ) (u : ℕ) where
  abbrev pub honest : Exchange
  honest = record {
    prefix = run.prefix;
    h = hash (string5 run.prefix (own_commitment hash p x run) (leaves p)) 32;
    message2 = m2;
    message3 = message3 hash p x run key m2;
    leaf = u;
    message5 = message5 hash p x run key m2 u;
  }

  pub exchange-is : length run.prefix ≡ prefix_length
      → exchange (message1 hash p x run) m2 (message3 hash p x run key m2) u (message5 hash p x run key m2 u) ≡ honest
  unfolding exchange message1
  exchange-is e =
      ap₂ (λ (prefix h : List ℕ). record {
        prefix = prefix;
        h = h;
        message2 = m2;
        message3 = message3 hash p x run key m2;
        leaf = u;
        message5 = message5 hash p x run key m2 u;
      })
      (take_at run.prefix _ prefix_length e) (drop_at run.prefix _ prefix_length e)

  -- ---- message 5, part by part

  path : List ℕ
  path = sibling_seeds hash run.prefix (levels p) 1 run.root u

  hidden : List ℕ
  hidden = own_commitment hash p x run u

  alphas : List ℕ
  alphas = encode (alpha p key m2 false (own_share hash p x run u)) p.t

  betas : List ℕ
  betas = encode (beta p key m2 false (own_share hash p x run u)) p.t

  rest : List ℕ
  rest = cond (is_last p u) [] (own_aux hash p x run)

  parts : message5 hash p x run key m2 u ≡ path ++ (hidden ++ (alphas ++ (betas ++ rest)))
  unfolding message5 path hidden alphas betas rest
  parts = refl

  module _ (hash-length : (s : List ℕ) (n : ℕ) → length (hash s n) ≡ n) where
    length-path : length path ≡ siblings_length p
    unfolding path
    length-path = length-sibling_seeds hash run.prefix hash-length (levels p) 1 run.root u

    length-hidden : length hidden ≡ 32
    unfolding hidden own_commitment
    length-hidden = length-commitment hash hash-length p run.prefix u _ _

    length-alphas : length alphas ≡ factor_length p
    unfolding alphas
    length-alphas = length-encode _ p.t

    length-betas : length betas ≡ factor_length p
    unfolding betas
    length-betas = length-encode _ p.t

    before-alphas : length (path ++ hidden) ≡ siblings_length p + 32
    before-alphas = length-append path hidden ∙ ap₂ ◌+◌ length-path length-hidden

    before-betas : length ((path ++ hidden) ++ alphas) ≡ siblings_length p + 32 + factor_length p
    before-betas = length-append (path ++ hidden) alphas ∙ ap₂ ◌+◌ before-alphas length-alphas

    before-rest : length (((path ++ hidden) ++ alphas) ++ betas) ≡ siblings_length p + 32 + values_length p
    before-rest = length-append ((path ++ hidden) ++ alphas) betas ∙ ap₂ ◌+◌ before-betas length-betas ∙ omega arith

    pub path-is : path_of p honest ≡ sibling_seeds hash run.prefix (levels p) 1 run.root u
    unfolding path_of path
    path-is = ap (take (siblings_length p)) parts ∙ take_at path _ (siblings_length p) length-path

    pub commitment-is : commitment_of p honest ≡ own_commitment hash p x run u
    unfolding commitment_of hidden
    commitment-is =
        ap (λ (s : List ℕ). take 32 (drop (siblings_length p) s)) parts
        ∙ ap (take 32) (drop_at path _ (siblings_length p) length-path) ∙ take_at hidden _ 32 length-hidden

    pub alpha-is : (l : ℕ) → l < p.t → alpha_of p honest l ≡ alpha p key m2 false (own_share hash p x run u) l
    unfolding alpha_of alphas
    alpha-is l h =
        ap (λ (s : List ℕ). point_at s (siblings_length p + 32 + 4 * l)) (parts ∙ sym (append_assoc path hidden (alphas ++ (betas ++ rest))))
        ∙ point_at-encode (path ++ hidden) (alpha p key m2 false (own_share hash p x run u)) p.t (betas ++ rest) (siblings_length p + 32) l before-alphas h

    pub beta-is : (l : ℕ) → l < p.t → beta_of p honest l ≡ beta p key m2 false (own_share hash p x run u) l
    unfolding beta_of betas
    beta-is l h =
        ap (λ (s : List ℕ). point_at s (siblings_length p + 32 + factor_length p + 4 * l))
        (parts ∙ sym (append_assoc path hidden (alphas ++ (betas ++ rest))) ∙ sym (append_assoc (path ++ hidden) alphas (betas ++ rest)))
        ∙ point_at-encode ((path ++ hidden) ++ alphas) (beta p key m2 false (own_share hash p x run u)) p.t rest
        (siblings_length p + 32 + factor_length p) l before-betas h

    regroup : (a b c d e : List ℕ) → a ++ (b ++ (c ++ (d ++ e))) ≡ (((a ++ b) ++ c) ++ d) ++ e
    regroup a b c d e = simp append_assoc

    pub aux-is : aux_of p honest ≡ cond (is_last p u) [] (own_aux hash p x run)
    unfolding aux_of rest
    aux-is =
        ap (drop (siblings_length p + 32 + values_length p)) (parts ∙ regroup path hidden alphas betas rest)
        ∙ drop_at (((path ++ hidden) ++ alphas) ++ betas) rest (siblings_length p + 32 + values_length p) before-rest

    -- ---- the disclosed leaves

    module _ (inside : u < leaves p) where
      pub state-is : (i : ℕ) → i < leaves p → (i ≡ u → ⊥) → opened_state hash p honest i ≡ own_state hash p x run i
      unfolding opened_state own_state
      state-is i l n =
          ap (λ (q : List ℕ). state hash run.prefix i (get_or (opened_seeds hash run.prefix (levels p) 1 u q) i [])) path-is
          ∙ ap (state hash run.prefix i) (opened-is hash run.prefix hash-length (levels p) 1 run.root u i l inside n)

      -- where aux counts, it is there
      aux-counts : (i : ℕ) → (i ≡ u → ⊥) → SameAux p i (aux_of p honest) (own_aux hash p x run)
      aux-counts i n t = aux-is ∙ rw (is_last-false p u (λ q. n (is_last-last p i t ∙ sym q)))

      pub share-is : (i : ℕ) → i < leaves p → (i ≡ u → ⊥) → opened_share hash p honest i ≡ own_share hash p x run i
      unfolding opened_share own_share
      share-is i l n = share-ext p run.prefix i _ _ _ _ hash (state-is i l n) (aux-counts i n)

      pub leaf_string-is : (i : ℕ) → i < leaves p → (i ≡ u → ⊥)
          → leaf_string hash p honest i ≡ string4 p run.prefix i (own_state hash p x run i) (own_aux hash p x run)
      unfolding leaf_string
      leaf_string-is i l n = string4-ext p run.prefix i _ _ _ _ (state-is i l n) (aux-counts i n)

      pub commitments-are : (i : ℕ) → i < leaves p → leaf_commitment hash p honest i ≡ own_commitment hash p x run i
      unfolding leaf_commitment own_commitment commitment
      commitments-are i l = go (ℕ_discrete i u)
        where
          go : Dec (i ≡ u) → cond (eqb i u) (commitment_of p honest) (hash (leaf_string hash p honest i) 32) ≡ own_commitment hash p x run i
          go (yes e) = rw (eq-eqb i u e) (commitment-is ∙ ap (own_commitment hash p x run) (sym e))
          go (no n) = rw (ne_eqb i u n) (ap (λ (s : List ℕ). hash s 32) (leaf_string-is i l n))

      pub commitment_string-is : commitment_string hash p honest ≡ string5 run.prefix (own_commitment hash p x run) (leaves p)
      unfolding commitment_string string5
      commitment_string-is =
          ap (string 5 run.prefix) (joined-ext (leaf_commitment hash p honest) (own_commitment hash p x run) (leaves p) commitments-are)
