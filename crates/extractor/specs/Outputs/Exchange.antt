-- The output of all runs is the extractor's.
--
-- prefix-at          the prefix of run e
-- recalled-at        the states from its part of message 5
-- output-at          its part of the output
-- written_is         the output of all runs
use Rattle.std.specs.Prelude.{◌≡◌, ℕ, ◌*◌, ◌≤◌, ◌<◌, eqb, take}
use Rattle.std.proofs.Common.{sym, ◌∙◌, arith, eq-eqb, ne_eqb, length-append}
use Rattle.std.proofs.Math.Path.{ap, ap₂}
use Rattle.std.proofs.Math.Bool.{cond}
use mathlib.Core.List.{List, ◌++◌}
use Rattle.std.proofs.Math.Decide.{ℕ_discrete}
use Rattle.std.proofs.Math.ListN.{length}
use Rattle.std.proofs.Math.Seq.{take_at, length-take-le}
use Rattle.lists.specs.Part.{part}
use Rattle.shake256.specs.Fips.{SHAKE256}
use Rattle.parameters.specs.declared.Parameters.{Parameters}
use Rattle.layout.specs.Layout.{leaves, message5_length, prefix_length, output_length}
use Rattle.layout.specs.Runs.{digest_place}
use Rattle.exchange.specs.Sequences.{joined}
use Rattle.exchange.proofs.Sequences.Laws.{joined-ext}
use Rattle.exchange.specs.Opening.{Exchange, exchange, path_of, aux_of, opened_state}
use Rattle.exchange.specs.Extractor.{state_from, aux_from, output}
use Rattle.runs.specs.Run.{run_prefix}
use Rattle.runs.specs.Messages.{leaf_at}
use Rattle.runs.specs.Opening.{Transcript, message1_at, exchange_at}
use Rattle.runs.specs.Extractor.{differs, outputs}
use Rattle.leaves.specs.States.{states_from}
use Rattle.reader.specs.Message5.{siblings_in, aux_in}
use Rattle.openings.specs.Opened.{opened_states}
use Rattle.openings.specs.Opened.Laws.{opened-state}
use Rattle.extractor.specs.Comparison.{state_at, state_of, output_of}
use Rattle.extractor.specs.Pairs.{place_at, message_in, Lies, length-message, message-at}
use Rattle.extractor.specs.Recall.{prefix_of, recalled}
use Rattle.extractor.specs.Outputs.{part_from, part_at, written}

module _ (p : Parameters) (e e' : Exchange) (inside : e.leaf < leaves p) (inside' : e'.leaf < leaves p) (other : e.leaf ≡ e'.leaf → ⊥)
    (sent : length e.message5 ≡ message5_length p e.leaf) (sent' : length e'.message5 ≡ message5_length p e'.leaf) where
  state-same : (i : ℕ) → i < leaves p → state_from SHAKE256 p e e' i ≡ state_of e.leaf (opened_states p e) (opened_states p e') i
  unfolding state_from state_of
  state-same i l = go (ℕ_discrete i e.leaf)
    where
      go : Dec (i ≡ e.leaf)
          → cond (eqb i e.leaf) (opened_state SHAKE256 p e' i) (opened_state SHAKE256 p e i)
          ≡ cond (eqb i e.leaf) (state_at (opened_states p e') i) (state_at (opened_states p e) i)
      go (yes q) = rw (eq-eqb i e.leaf q) (sym (opened-state p e' inside' sent' i l (λ z. other (sym q ∙ z))))
      go (no q) = rw (ne_eqb i e.leaf q) (sym (opened-state p e inside sent i l q))

  pub output-is : output SHAKE256 p e e' ≡ output_of p e.leaf (opened_states p e) (aux_of p e) (opened_states p e') (aux_of p e')
  unfolding output output_of aux_from
  output-is =
      ap (λ (l : List ℕ). l ++ aux_from p e e')
      (joined-ext (state_from SHAKE256 p e e') (state_of e.leaf (opened_states p e) (opened_states p e')) (leaves p) state-same)

module _ (p : Parameters) (t : Transcript) (e : ℕ) (reaches : 32 ≤ length t.message1) where
  pub prefix-at : (exchange_at p t e).prefix ≡ prefix_of t.message1 e
  unfolding exchange_at exchange message1_at run_prefix
  prefix-at =
      take_at (run_prefix (take 32 t.message1) e) (part t.message1 (digest_place e) 32) prefix_length
      (length-append (take 32 t.message1) _ ∙ omega (arith, length-take-le 32 t.message1 reaches))

  pub recalled-at : recalled p (prefix_of t.message1 e) (place_at p t.leaves e) t.message5 ≡ opened_states p (exchange_at p t e)
  unfolding recalled opened_states path_of siblings_in exchange_at exchange
  recalled-at =
      ap₂ (λ (pre m : List ℕ). states_from p pre (leaf_at t.leaves e) (siblings_in p m)) (sym prefix-at) (message-at p t.leaves t.message5 e)

  pub aux-at : aux_in p (message_in (place_at p t.leaves e) t.message5) ≡ aux_of p (exchange_at p t e)
  unfolding aux_in aux_of exchange_at exchange
  aux-at = ap (aux_in p) (message-at p t.leaves t.message5 e)

  pub sent-at : Lies p (place_at p t.leaves e) t.message5 → length (exchange_at p t e).message5 ≡ message5_length p (exchange_at p t e).leaf
  unfolding exchange_at exchange
  sent-at l = ap length (sym (message-at p t.leaves t.message5 e)) ∙ length-message p (place_at p t.leaves e) t.message5 l

module _ (p : Parameters) (t t' : Transcript) (same : t.message1 ≡ t'.message1) (reaches : 32 ≤ length t.message1) where
  reaches' : 32 ≤ length t'.message1
  reaches' = omega (arith, reaches, ap length same)

  pub recalled-other : (e : ℕ) → recalled p (prefix_of t.message1 e) (place_at p t'.leaves e) t'.message5 ≡ opened_states p (exchange_at p t' e)
  recalled-other e =
      ap (λ (m1 : List ℕ). recalled p (prefix_of m1 e) (place_at p t'.leaves e) t'.message5) same ∙ recalled-at p t' e reaches'

  output-at : (e : ℕ) → Lies p (place_at p t.leaves e) t.message5 → Lies p (place_at p t'.leaves e) t'.message5
      → (leaf_at t.leaves e ≡ leaf_at t'.leaves e → ⊥)
      → output_of p (leaf_at t.leaves e) (recalled p (prefix_of t.message1 e) (place_at p t.leaves e) t.message5)
      (aux_in p (message_in (place_at p t.leaves e) t.message5))
      (recalled p (prefix_of t.message1 e) (place_at p t'.leaves e) t'.message5) (aux_in p (message_in (place_at p t'.leaves e) t'.message5))
      ≡ output SHAKE256 p (exchange_at p t e) (exchange_at p t' e)
  output-at e l l' other =
      ap₂ (λ (st aux : List ℕ). output_of p (leaf_at t.leaves e) st aux
      (recalled p (prefix_of t.message1 e) (place_at p t'.leaves e) t'.message5) (aux_in p (message_in (place_at p t'.leaves e) t'.message5)))
      (recalled-at p t e reaches) (aux-at p t e reaches)
      ∙ ap₂ (output_of p (leaf_at t.leaves e) (opened_states p (exchange_at p t e)) (aux_of p (exchange_at p t e))) (recalled-other e) (aux-at p t' e reaches')
      ∙ sym (is (output-is p (exchange_at p t e) (exchange_at p t' e)))
    where
      is : (((exchange_at p t e).leaf < leaves p) → ((exchange_at p t' e).leaf < leaves p) → ((exchange_at p t e).leaf ≡ (exchange_at p t' e).leaf → ⊥)
          → length (exchange_at p t e).message5 ≡ message5_length p (exchange_at p t e).leaf
          → length (exchange_at p t' e).message5 ≡ message5_length p (exchange_at p t' e).leaf
          → output SHAKE256 p (exchange_at p t e) (exchange_at p t' e)
          ≡ output_of p (exchange_at p t e).leaf (opened_states p (exchange_at p t e)) (aux_of p (exchange_at p t e)) (opened_states p (exchange_at p t' e))
          (aux_of p (exchange_at p t' e)))
          → output SHAKE256 p (exchange_at p t e) (exchange_at p t' e)
          ≡ output_of p (leaf_at t.leaves e) (opened_states p (exchange_at p t e)) (aux_of p (exchange_at p t e)) (opened_states p (exchange_at p t' e))
          (aux_of p (exchange_at p t' e))
      is f = unfold exchange_at exchange in f l.below l'.below other (sent-at p t e reaches l) (sent-at p t' e reaches' l')

  pub written_is : (n : ℕ) → length t.leaves ≡ n → ((e : ℕ) → e < n → Lies p (place_at p t.leaves e) t.message5)
      → ((e : ℕ) → e < n → Lies p (place_at p t'.leaves e) t'.message5) → (out : List ℕ)
      → written p t.message1 t.leaves t.message5 t'.leaves t'.message5 out ≡ outputs SHAKE256 p n t t' out
  unfolding written outputs
  written_is n size l l' out =
      ap (joined (part_at p t.message1 t.leaves t.message5 t'.leaves t'.message5 out)) size
      ∙ joined-ext _ _ n (λ e k. go e k (ℕ_discrete (leaf_at t.leaves e) (leaf_at t'.leaves e)))
    where
      go : (e : ℕ) → e < n → Dec (leaf_at t.leaves e ≡ leaf_at t'.leaves e)
          → part_at p t.message1 t.leaves t.message5 t'.leaves t'.message5 out e
          ≡ cond (differs t t' e) (output SHAKE256 p (exchange_at p t e) (exchange_at p t' e)) (part out (e * output_length p) (output_length p))
      go e k (yes q) = unfold part_from differs in rw (eq-eqb _ _ q)
      go e k (no q) = unfold part_from differs in rw (ne_eqb _ _ q) (output-at e (l e k) (l' e k) q)
