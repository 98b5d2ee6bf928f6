-- The laws of the commitments of all leaves.
--
-- commitments_of-hidden, commitments_of-other   the hidden leaf's commitment, and any other's
-- commitments-begun     hashed on from the start of layer 4, they are these
-- committed-none, committed-more, committed-digest   a sponge that absorbs them one after another, and its digest
-- string5-ext           layer 5's string depends on the commitments alone that it holds
-- commitments-message1  the prover's states and aux, and no leaf hidden: message 1
-- opened-commitments    the commitments of an opening, from the states of its disclosed leaves, its aux and the hidden leaf's commitment
-- commitments-string    the states of an opening's disclosed leaves, its aux and the hidden leaf's commitment: layer 5's string
use Rattle.std.specs.Prelude.{◌≡◌, refl, ℕ, ◌+◌, ◌≤◌, ◌<◌, eqb}
use Rattle.std.proofs.Common.{sym, ◌∙◌, add-one, arith, eq-eqb, ne_eqb}
use Rattle.std.proofs.Math.Path.{ap, ap₂}
use Rattle.std.proofs.Math.Bool.{cond}
use mathlib.Core.List.{List, [], ◌++◌}
use Rattle.std.proofs.Math.Decide.{ℕ_discrete}
use Rattle.shake256.specs.declared.Sponge.{Sponge}
use Rattle.shake256.specs.Stream.{absorbed}
use Rattle.shake256.specs.Fips.{SHAKE256}
use Rattle.parameters.specs.declared.Parameters.{Parameters}
use Rattle.layout.specs.Layout.{leaves}
use Rattle.exchange.specs.Run.{Run}
use Rattle.exchange.specs.Sequences.{joined}
use Rattle.exchange.proofs.Sequences.Laws.{joined-ext}
use Rattle.exchange.specs.Strings.{string, string5}
use Rattle.exchange.specs.Leaf.{commitment}
use Rattle.exchange.specs.Messages.{own_state, own_aux, own_commitment, message1}
use Rattle.exchange.specs.Opening.{Exchange, commitment_of, aux_of, opened_state, leaf_string, leaf_commitment, commitment_string}
use Rattle.strings.specs.Digest.{begun, hashed}
use Rattle.strings.specs.Digest.Laws.{hashed-begun, hashed-streamed, absorbed-joined}
use Rattle.leaves.specs.After.Laws.{commitment-begun}
use Rattle.leaves.specs.States.{state_at}
use Rattle.leaves.specs.Commitments.{commitments_of, commitments_after, committed}

pub committed-none : (prefix : List ℕ) (f : ℕ → List ℕ) → begun 5 prefix ≡ committed prefix f 0
unfolding committed joined absorbed
committed-none prefix f = refl

pub committed-more : (prefix : List ℕ) (f : ℕ → List ℕ) (n : ℕ) → absorbed (committed prefix f n) (f n) ≡ committed prefix f (n + 1)
unfolding committed
committed-more prefix f n = absorbed-joined (begun 5 prefix) f n ∙ ap (λ (k : ℕ). absorbed (begun 5 prefix) (joined f k)) (sym (add-one n))

pub committed-digest : (prefix : List ℕ) (f : ℕ → List ℕ) (n size : ℕ) → hashed (committed prefix f n) [] size ≡ SHAKE256 (string5 prefix f n) size
unfolding committed string5
committed-digest prefix f n size = hashed-streamed (begun 5 prefix) (joined f n) size ∙ hashed-begun 5 prefix (joined f n) size

pub string5-ext : (prefix : List ℕ) (f g : ℕ → List ℕ) (n : ℕ) → ((i : ℕ) → i < n → f i ≡ g i) → string5 prefix f n ≡ string5 prefix g n
unfolding string5
string5-ext prefix f g n h = ap (string 5 prefix) (joined-ext f g n h)

module _ (p : Parameters) (prefix states : List ℕ) (hidden : ℕ) (given aux : List ℕ) (i : ℕ) where
  pub commitments_of-hidden : i ≡ hidden → commitments_of p prefix states hidden given aux i ≡ given
  unfolding commitments_of
  commitments_of-hidden e = rw (eq-eqb i hidden e)

  pub commitments_of-other : (i ≡ hidden → ⊥)
      → commitments_of p prefix states hidden given aux i ≡ commitment SHAKE256 p prefix i (state_at states i) aux
  unfolding commitments_of
  commitments_of-other e = rw (ne_eqb i hidden e)

  pub commitments-begun : (s : Sponge) → s ≡ begun 4 prefix → commitments_after s p states hidden given aux i ≡ commitments_of p prefix states hidden given aux i
  unfolding commitments_after commitments_of
  commitments-begun s b = ap (cond (eqb i hidden) given) (commitment-begun s prefix p i (state_at states i) aux b)

-- ---- the prover's

module _ (p : Parameters) (x : List ℕ) (run : Run) (states : List ℕ) (hidden : ℕ) (given aux : List ℕ)
    (own : (i : ℕ) → i < leaves p → state_at states i ≡ own_state SHAKE256 p x run i)
    (aux-is : aux ≡ own_aux SHAKE256 p x run)
    (none : leaves p ≤ hidden)
  where
    own-commitments : (i : ℕ) → i < leaves p → commitments_of p run.prefix states hidden given aux i ≡ own_commitment SHAKE256 p x run i
    unfolding own_commitment
    own-commitments i h =
        commitments_of-other p run.prefix states hidden given aux i (λ e. omega arith) ∙ ap₂ (commitment SHAKE256 p run.prefix i) (own i h) aux-is

    pub commitments-message1 : run.prefix ++ SHAKE256 (string5 run.prefix (commitments_of p run.prefix states hidden given aux) (leaves p)) 32 ≡ message1 SHAKE256 p x run
    unfolding message1
    commitments-message1 =
        ap (λ (s : List ℕ). run.prefix ++ SHAKE256 s 32)
        (string5-ext run.prefix (commitments_of p run.prefix states hidden given aux) (own_commitment SHAKE256 p x run) (leaves p) own-commitments)

-- ---- an opening's

module _ (p : Parameters) (e : Exchange) (states given aux : List ℕ)
    (opened : (i : ℕ) → i < leaves p → (i ≡ e.leaf → ⊥) → state_at states i ≡ opened_state SHAKE256 p e i)
    (given_is : given ≡ commitment_of p e)
    (aux-is : aux ≡ aux_of p e)
  where
    pub opened-commitments : (i : ℕ) → i < leaves p → commitments_of p e.prefix states e.leaf given aux i ≡ leaf_commitment SHAKE256 p e i
    unfolding leaf_commitment leaf_string commitment
    opened-commitments i h = go (ℕ_discrete i e.leaf)
      where
        go : Dec (i ≡ e.leaf) → commitments_of p e.prefix states e.leaf given aux i
            ≡ cond (eqb i e.leaf) (commitment_of p e) (commitment SHAKE256 p e.prefix i (opened_state SHAKE256 p e i) (aux_of p e))
        go (yes q) = commitments_of-hidden p e.prefix states e.leaf given aux i q ∙ given_is ∙ rw (eq-eqb i e.leaf q)
        go (no q) =
            commitments_of-other p e.prefix states e.leaf given aux i q
            ∙ ap₂ (commitment SHAKE256 p e.prefix i) (opened i h q) aux-is ∙ rw (ne_eqb i e.leaf q)

    pub commitments-string : string5 e.prefix (commitments_of p e.prefix states e.leaf given aux) (leaves p) ≡ commitment_string SHAKE256 p e
    unfolding commitment_string
    commitments-string = string5-ext e.prefix (commitments_of p e.prefix states e.leaf given aux) (leaf_commitment SHAKE256 p e) (leaves p) opened-commitments
