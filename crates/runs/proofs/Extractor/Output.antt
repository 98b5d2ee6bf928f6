-- The laws of the extractor's output.
--
-- length-output                  the length of a run's part
-- output_part e                   the part of run e
-- length-outputs, part-outputs, part-extracted, part-untouched   the length of the output, and its parts
-- outputs_to n                    the output when the runs below n are written: outputs-none, outputs-turn, outputs-stay, outputs-all
use Rattle.std.specs.Prelude.{◌≡◌, Bool, cond, eqb, take}
use Rattle.std.proofs.Math.Path.{refl, sym, ap, ap₂}
use Rattle.std.proofs.Common.{◌∙◌, le_of_eq, suc-mul, zero-mul, arith, take-append-drop, drop_of_length-le, take_at, drop-drop}
use Rattle.std.proofs.Math.Bool.{true, false}
use mathlib.Core.List.{List, ◌++◌, append_assoc, append-nil}
use Prim.Native.Nat.{ℕ, suc, ◌+◌, ◌*◌, ◌<◌}
use Rattle.std.proofs.Math.Nat.{mul_comm}
use Rattle.std.proofs.Math.ListN.{length, drop, length-append, length-drop}
use Rattle.std.proofs.Math.Seq.{drop-append-add}
use Rattle.lists.specs.Part.{part, put_at}
use Rattle.lists.specs.Part.Laws.{length_part, part-fits}
use Rattle.parameters.specs.declared.Parameters.{Parameters}
use Rattle.layout.specs.Layout.{leaves, is_last, values_length, aux_length, siblings_length, message5_length, output_length}
use Rattle.layout.specs.Layout.Laws.{is_last-false, is_last-last}
use Rattle.layout.specs.Runs.{outputs_length}
use Rattle.exchange.specs.Sequences.{joined}
use Rattle.exchange.proofs.Sequences.Laws.{length-joined, part-joined}
use Rattle.exchange.proofs.Leaf.Laws.{length-state}
use Rattle.exchange.specs.Opening.{Exchange, aux_of, opened_state}
use Rattle.exchange.specs.Extractor as run
use Rattle.exchange.specs.Extractor.{state_from, aux_from}
use Rattle.runs.specs.Opening.{Transcript, exchange_at}
use Rattle.runs.specs.Extractor.{differs, outputs}

-- ---- a run's part

module _ (hash : List ℕ → ℕ → List ℕ) (hash-length : (s : List ℕ) (n : ℕ) → length (hash s n) ≡ n) (p : Parameters) where
  length-aux : (y : Exchange) → length y.message5 ≡ message5_length p y.leaf → is_last p y.leaf ≡ false → length (aux_of p y) ≡ aux_length p
  unfolding aux_of message5_length
  length-aux y h l = length-drop (siblings_length p + 32 + values_length p) y.message5 ∙ (let k = rw l at h in omega (arith, k))

  module _ (y y' : Exchange) (length5 : length y.message5 ≡ message5_length p y.leaf) (length5' : length y'.message5 ≡ message5_length p y'.leaf)
      (apart : y.leaf ≡ y'.leaf → ⊥) where
    length_from : (i : ℕ) → length (state_from hash p y y' i) ≡ 32
    unfolding state_from
    length_from i = go (eqb i y.leaf)
      where
        go : (b : Bool) → length (cond b (opened_state hash p y' i) (opened_state hash p y i)) ≡ 32
        go true = unfold opened_state in length-state hash hash-length y'.prefix i _
        go false = unfold opened_state in length-state hash hash-length y.prefix i _

    length-aux_from : length (aux_from p y y') ≡ aux_length p
    unfolding aux_from
    length-aux_from = go (is_last p y.leaf) refl
      where
        go : (b : Bool) → is_last p y.leaf ≡ b → length (cond b (aux_of p y') (aux_of p y)) ≡ aux_length p
        go true q = length-aux y' length5' (is_last-false p y'.leaf (λ z. apart (is_last-last p y.leaf q ∙ sym z)))
        go false q = length-aux y length5 q

    pub length-output : length (run.output hash p y y') ≡ output_length p
    unfolding run.output output_length
    length-output =
        length-append (joined (state_from hash p y y') (leaves p)) (aux_from p y y')
        ∙ ap₂ ◌+◌ (length-joined (state_from hash p y y') (leaves p) 32 (λ i l. length_from i) ∙ mul_comm (leaves p) 32) length-aux_from

-- ---- part by part

module _ (hash : List ℕ → ℕ → List ℕ) (p : Parameters) (n : ℕ) (t t' : Transcript) (out : List ℕ) where
  unfoldable pub output_part : ℕ → List ℕ
  output_part e =
      cond (differs t t' e) (run.output hash p (exchange_at p t e) (exchange_at p t' e)) (part out (e * output_length p) (output_length p))

  outputs-are : outputs hash p n t t' out ≡ joined output_part n
  unfolding outputs output_part
  outputs-are = refl

  module _ (out-length : length out ≡ outputs_length p n)
      (part_length : (e : ℕ) → e < n → differs t t' e ≡ true → length (run.output hash p (exchange_at p t e) (exchange_at p t' e)) ≡ output_length p) where
    length-output_part : (e : ℕ) → e < n → length (output_part e) ≡ output_length p
    unfolding output_part
    length-output_part e l = go (differs t t' e) refl
      where
        go : (d : Bool) → differs t t' e ≡ d
            → length (cond d (run.output hash p (exchange_at p t e) (exchange_at p t' e)) (part out (e * output_length p) (output_length p)))
            ≡ output_length p
        go true q = part_length e l q
        go false q = length_part out (e * output_length p) (output_length p) (let k = part-fits e n (output_length p) l in omega (arith, k, out-length))

    pub length-outputs : length (outputs hash p n t t' out) ≡ outputs_length p n
    length-outputs = ap length outputs-are ∙ length-joined output_part n (output_length p) length-output_part

    pub part-outputs : (e : ℕ) → e < n → part (outputs hash p n t t' out) (e * output_length p) (output_length p) ≡ output_part e
    part-outputs e l =
        ap (λ (s : List ℕ). part s (e * output_length p) (output_length p)) outputs-are ∙ part-joined output_part (output_length p) n length-output_part e l

    pub part-extracted : (e : ℕ) → e < n → differs t t' e ≡ true
        → part (outputs hash p n t t' out) (e * output_length p) (output_length p) ≡ run.output hash p (exchange_at p t e) (exchange_at p t' e)
    part-extracted e l d = part-outputs e l ∙ (unfold output_part in rw d)

    pub part-untouched : (e : ℕ) → e < n → differs t t' e ≡ false
        → part (outputs hash p n t t' out) (e * output_length p) (output_length p) ≡ part out (e * output_length p) (output_length p)
    part-untouched e l d = part-outputs e l ∙ (unfold output_part in rw d)

-- ---- written run after run

put-behind : (a out s : List ℕ) (at : ℕ) → length a ≡ at → put_at (a ++ drop at out) at s ≡ a ++ (s ++ drop (at + length s) out)
unfolding put_at
put-behind a out s at h =
    ap₂ (λ (f b : List ℕ). f ++ (s ++ b)) (take_at a (drop at out) at h)
    (ap (λ (k : ℕ). drop (k + length s) (a ++ drop at out)) (sym h) ∙ drop-append-add a (drop at out) (length s) ∙ drop-drop (length s) at out)

module _ (hash : List ℕ → ℕ → List ℕ) (p : Parameters) (t t' : Transcript) (out : List ℕ) where
  -- the parts of the runs below n, then the output as lent
  unfoldable pub outputs_to : ℕ → List ℕ
  outputs_to n = outputs hash p n t t' out ++ drop (n * output_length p) out

  pub outputs-none : out ≡ outputs_to 0
  unfolding outputs_to outputs joined
  outputs-none = ap (λ (k : ℕ). drop k out) (sym (zero-mul (output_length p)))

  pub outputs-all : (n : ℕ) → length out ≡ outputs_length p n → outputs_to n ≡ outputs hash p n t t' out
  unfolding outputs_to
  outputs-all n h =
      ap (◌++◌ (outputs hash p n t t' out)) (drop_of_length-le out (le_of_eq h)) ∙ append-nil (outputs hash p n t t' out)

  -- run n is left out: its hidden leaves agree
  pub outputs-stay : (n : ℕ) → differs t t' n ≡ false → outputs_to n ≡ outputs_to (suc n)
  unfolding outputs_to outputs joined part
  outputs-stay n d =
      rw d
      (ap (◌++◌ (outputs hash p n t t' out))
      (sym (take-append-drop (output_length p) (drop (n * output_length p) out))
      ∙ ap (◌++◌ (take (output_length p) (drop (n * output_length p) out))) (drop-drop (output_length p) (n * output_length p) out
      ∙ ap (λ (k : ℕ). drop k out) (sym (suc-mul n (output_length p)))))
      ∙ sym (append_assoc (outputs hash p n t t' out) _ _))

  -- run n is written
  pub outputs-turn : (n : ℕ) → differs t t' n ≡ true → length (outputs hash p n t t' out) ≡ n * output_length p
      → length (run.output hash p (exchange_at p t n) (exchange_at p t' n)) ≡ output_length p
      → put_at (outputs_to n) (n * output_length p) (run.output hash p (exchange_at p t n) (exchange_at p t' n)) ≡ outputs_to (suc n)
  unfolding outputs_to outputs joined
  outputs-turn n d h l =
      rw d
      (put-behind (outputs hash p n t t' out) out (run.output hash p (exchange_at p t n) (exchange_at p t' n)) (n * output_length p) h
      ∙ ap (λ (k : ℕ). outputs hash p n t t' out ++ (run.output hash p (exchange_at p t n) (exchange_at p t' n) ++ drop k out))
      (ap (λ (k : ℕ). n * output_length p + k) l ∙ sym (suc-mul n (output_length p)))
      ∙ sym (append_assoc (outputs hash p n t t' out) _ _))
