-- The laws of what the extractor compares, run after run.
--
-- differs-when, differs-then, differs-not, agrees-then   the test for a run whose hidden leaves differ
-- same-leaves                    where they differ in no run, messages 4 are equal
-- Lowest, lowest-run             the lowest run in which they differ
-- compared-mem, mem-compared     what is compared: the places of each run whose hidden leaves differ
use Rattle.std.proofs.Math.Path.{◌≡◌, refl, ap}
use Rattle.std.proofs.Common.{sym, ◌∙◌, subst, arith, ext_get_or}
use Rattle.std.specs.Prelude.{Bool, ℕ, ◌<◌, length}
use Rattle.std.proofs.Math.Bool.{true, false, not, cond}
use mathlib.Core.List.Memᴰ
use mathlib.Core.List.{List, [], ◌∷◌, map, Memᴰ}
use Rattle.std.proofs.Math.Decide.{dec_lt}
use borrow.Author.Tests.{eq-eqb, ne_eqb, eqb-true, eqb-false, not-true, not-false}
use Rattle.lists.specs.Equal.{eq_list}
use Rattle.parameters.specs.declared.Parameters.{Parameters}
use Rattle.exchange.specs.Sequences.{those, least}
use Rattle.exchange.proofs.Sequences.Laws.{Least, least-is}
use Rattle.exchange.specs.Values.{Key}
use Rattle.exchange.specs.Extractor as run
use Rattle.runs.specs.Messages.{leaf_at}
use Rattle.runs.specs.Opening.{Transcript, exchange_at}
use Rattle.runs.specs.Extractor.{unequal, states, gathered, differs, compared, lowest_run, outputs, string_at, unequal_at, finding, extract}
use Rattle.runs.specs.Extractor.Gathered.{mem-gathered, gathered-mem, gathered_none, none-gathered, FirstOf, gathered-first, first-gathered, gathered-ext, those-gathered, those-map, mem-map, map-mem}

-- ---- runs whose hidden leaves differ

module _ (t t' : Transcript) where
  pub differs-when : (e : ℕ) → (leaf_at t.leaves e ≡ leaf_at t'.leaves e → ⊥) → differs t t' e ≡ true
  unfolding differs
  differs-when e n = ap not (ne_eqb _ _ n)

  pub differs-then : (e : ℕ) → differs t t' e ≡ true → leaf_at t.leaves e ≡ leaf_at t'.leaves e → ⊥
  unfolding differs
  differs-then e h = eqb-false _ _ (not-true _ h)

  pub differs-not : (e : ℕ) → leaf_at t.leaves e ≡ leaf_at t'.leaves e → differs t t' e ≡ false
  unfolding differs
  differs-not e q = ap not (eq-eqb _ _ q)

  pub agrees-then : (e : ℕ) → differs t t' e ≡ false → leaf_at t.leaves e ≡ leaf_at t'.leaves e
  unfolding differs
  agrees-then e h = eqb-true _ _ (not-false _ h)

  pub same-leaves : (n : ℕ) → length t.leaves ≡ n → length t'.leaves ≡ n → ((e : ℕ) → e < n → differs t t' e ≡ false) → t.leaves ≡ t'.leaves
  same-leaves n l l' h = ext_get_or 0 t.leaves t'.leaves (l ∙ sym l') (λ e k. agrees-then e (h e (omega arith)))

  pub record Lowest (n e : ℕ) : Type 0 where
    pub inside : e < n
    pub apart : leaf_at t.leaves e ≡ leaf_at t'.leaves e → ⊥
    pub before : (e' : ℕ) → e' < e → leaf_at t.leaves e' ≡ leaf_at t'.leaves e'

  pub lowest-run : (p : Parameters) (n : ℕ) → length t.leaves ≡ n → length t'.leaves ≡ n → (t.leaves ≡ t'.leaves → ⊥)
      → Lowest n (lowest_run p n t t')
  unfolding lowest_run
  lowest-run p n l l' h = go (dec_lt (least (differs t t') n) n) (least-is (differs t t') n)
    where
      go : Dec (least (differs t t') n < n) → Least (differs t t') n (least (differs t t') n) → Lowest n (least (differs t t') n)
      go (yes k) is = record {
        inside = k;
        apart = differs-then _ (is.passes k);
        before = λ e b. agrees-then e (is.before e b);
      }
      go (no k) is = absurd (h (same-leaves n l l' (λ e b. is.before e (omega arith))))

-- ---- what is compared

-- a place of run e
abbrev pub placed : ℕ → ℕ × ℕ → ℕ × (ℕ × ℕ)
placed e a = (e, a)

module _ (p : Parameters) (n : ℕ) (t t' : Transcript) where
  abbrev pub compared_in : ℕ → List (ℕ × (ℕ × ℕ))
  compared_in e = cond (differs t t' e) (map (placed e) (run.compared p (exchange_at p t e) (exchange_at p t' e))) []

  pub mem-compared : (e : ℕ) (a : ℕ × ℕ) → e < n → differs t t' e ≡ true → Memᴰ a (run.compared p (exchange_at p t e) (exchange_at p t' e))
      → Memᴰ (e, a) (compared p n t t')
  unfolding compared
  mem-compared e a l d m =
      mem-gathered compared_in n e (e, a) l (rw d (mem-map (placed e) a (run.compared p (exchange_at p t e) (exchange_at p t' e)) m))

  pub compared-mem : (a : ℕ × (ℕ × ℕ)) → Memᴰ a (compared p n t t')
      → (a.0 < n) × (differs t t' a.0 ≡ true) × Memᴰ a.1 (run.compared p (exchange_at p t a.0) (exchange_at p t' a.0))
  unfolding compared
  compared-mem a m = let g = gathered-mem compared_in n a m in go g.0 g.1 (differs t t' g.0) refl g.2
    where
      go : (e : ℕ) → e < n → (d : Bool) → differs t t' e ≡ d
          → Memᴰ a (cond d (map (placed e) (run.compared p (exchange_at p t e) (exchange_at p t' e))) [])
          → (a.0 < n) × (differs t t' a.0 ≡ true) × Memᴰ a.1 (run.compared p (exchange_at p t a.0) (exchange_at p t' a.0))
      go e l false d k = absurd (Memᴰ.not-nil k)
      go e l true d k =
          let f = map-mem (placed e) (run.compared p (exchange_at p t e) (exchange_at p t' e)) a k in
          rw f.2 (l, d, f.1)
