-- The output written in three steps: all states of the first opening, over them the state of the leaf that it hides, then aux.
--
-- blocks-joined      blocks of one size that are f 0, f 1, .. one after another
-- placed             the output after the first two steps
-- second-size        it keeps its length
-- written_is         after the third it holds every leaf's state, then aux
use Rattle.std.specs.Prelude.{◌≡◌, cond, ℕ, zero, suc, ◌+◌, ◌*◌, ◌≤◌, ◌<◌, eqb, take}
use Rattle.std.proofs.Common.{sym, ap₂, ◌∙◌, le_refl, mul-zero, mul-suc, eq-eqb, ne_eqb, take-append-drop, drop_of_length-le, length-take-le, take-add}
use Rattle.std.proofs.Math.Path.{ap}
use mathlib.Core.List.{List, ◌++◌, append-nil}
use Rattle.std.proofs.Math.Decide.{dec_lt, ℕ_discrete}
use native.Mathlib.Omega.{arith}
use Rattle.std.proofs.Math.ListN.{length, drop}
use Rattle.std.proofs.Math.Seq.{drop_at}
use Rattle.lists.specs.Part.{part, put_at}
use Rattle.lists.specs.Part.Laws.{length_part, length-put_at, part-part, part-append-left, part-put_at-same, part-put_at-before, part-put_at-behind}
use Rattle.exchange.specs.Sequences.{joined}
use Rattle.extractor.specs.Comparison.{state_at, state_of}

pub blocks-joined : (f : ℕ → List ℕ) (d : List ℕ) (n size : ℕ) → ((i : ℕ) → i < n → part d (size * i) size ≡ f i) → take (size * n) d ≡ joined f n
unfolding joined part
blocks-joined f d zero size h = rw mul-zero
blocks-joined f d (suc n) size h =
    ap (λ (m : ℕ). take m d) (mul-suc size n) ∙ take-add (size * n) size d
    ∙ ap₂ ◌++◌ (blocks-joined f d n size (λ i l. h i (omega arith))) (h n (le_refl (suc n)))

-- ---- the three steps

abbrev pub placed : ℕ → ℕ → List ℕ → List ℕ → List ℕ → List ℕ
placed n u states others out = put_at (put_at out 0 (take (32 * n) states)) (32 * u) (state_at others u)

module _ (n u : ℕ) (states others aux out : List ℕ) where
  abbrev first : List ℕ
  first = put_at out 0 (take (32 * n) states)

  abbrev second : List ℕ
  second = placed n u states others out

  abbrev written : List ℕ
  written = put_at second (32 * n) aux

  module _ (all : 32 * n ≤ length states) (all' : 32 * n ≤ length others) (inside : u < n) (room : length out ≡ 32 * n + length aux) where
    size : length (take (32 * n) states) ≡ 32 * n
    size = length-take-le (32 * n) states all

    state-size : length (state_at others u) ≡ 32
    state-size = length_part others (32 * u) 32 (omega arith)

    first-size : length first ≡ length out
    first-size = let q = size in length-put_at out 0 (take (32 * n) states) (omega arith)

    pub second-size : length second ≡ length out
    second-size = let q = first-size in let r = state-size in length-put_at first (32 * u) (state_at others u) (omega arith) ∙ q

    front_at : (i : ℕ) → i < n → part (take (32 * n) states) (32 * i) 32 ≡ state_at states i
    unfolding part
    front_at i l =
        let z : 0 + 32 * i ≡ 32 * i = omega arith in
        part-part states 0 (32 * n) (32 * i) 32 (omega arith) ∙ ap (λ (m : ℕ). part states m 32) z

    first-at : (i : ℕ) → i < n → part first (32 * i) 32 ≡ state_at states i
    unfolding put_at
    first-at i l =
        let q = size in
        part-append-left (take (32 * n) states) (drop (0 + length (take (32 * n) states)) out) (32 * i) 32 (omega arith)
        ∙ front_at i l

    second_at : (i : ℕ) → i < n → part second (32 * i) 32 ≡ state_of u states others i
    unfolding state_of
    second_at i l = go (ℕ_discrete i u) (dec_lt i u)
      where
        fits : 32 * u + length (state_at others u) ≤ length first
        fits = let q = first-size in let r = state-size in omega arith

        go : Dec (i ≡ u) → Dec (i < u) → part second (32 * i) 32 ≡ cond (eqb i u) (state_at others i) (state_at states i)
        go (yes q) d =
            rw (eq-eqb i u q, q)
            (ap (λ (m : ℕ). part second (32 * u) m) (sym state-size) ∙ part-put_at-same first (32 * u) (state_at others u) fits)
        go (no q) (yes b) = rw (ne_eqb i u q) (part-put_at-before first (32 * u) (state_at others u) fits (32 * i) 32 (omega arith) ∙ first-at i l)
        go (no q) (no b) =
            rw (ne_eqb i u q)
            (part-put_at-behind first (32 * u) (state_at others u) fits (32 * i) 32 (let r = state-size in omega arith) ∙ first-at i l)

    written_at : (i : ℕ) → i < n → part written (32 * i) 32 ≡ state_of u states others i
    written_at i l =
        part-put_at-before second (32 * n) aux (let q = second-size in omega arith) (32 * i) 32 (omega arith) ∙ second_at i l

    rest : drop (32 * n) written ≡ aux
    unfolding put_at
    rest =
        let q = second-size in
        drop_at (take (32 * n) second) (aux ++ drop (32 * n + length aux) second) (32 * n) (length-take-le (32 * n) second (omega arith))
        ∙ ap (◌++◌ aux) (drop_of_length-le second {i = 32 * n + length aux} (omega arith))
        ∙ append-nil aux

    pub written_is : written ≡ joined (state_of u states others) n ++ aux
    written_is =
        sym (take-append-drop (32 * n) written) ∙ ap₂ ◌++◌ (blocks-joined (state_of u states others) written n 32 written_at) rest
