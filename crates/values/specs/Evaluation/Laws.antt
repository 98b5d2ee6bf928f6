-- The laws of evaluation with a running power.
--
--   place-small, place_inside     where coefficient i of a term stands
--   count_turn, count_small, count-twice   the count of products: n + 1 for each coefficient, at most two for each of each polynomial
--   terms-ready                   a term of each of n polynomials lies within the list
--   terms-turn, terms-end         the first i terms are added
--   value-snoc                    a coefficient more adds its product with the power
--   word_of-zero                   the word of the zero point
--   values-none, values-turn      the values of the first j coefficients, from one j to the next
--   power-none, -point, -turn      the same for the power
use Rattle.std.specs.Prelude.{◌≡◌, refl, List, [], ◌∷◌, ◌++◌, map, ℕ, zero, suc, ◌+◌, ◌-◌, ◌*◌, ◌≤◌, ◌<◌, length, get_or, set, replicate}
use Rattle.std.proofs.Common.{sym, ap, ap₂, ◌∙◌, mul-le-mul, mul-le-mul_right, suc-mul, mul-suc, mul_comm, add-one, arith, lit<, ext_get_or}
use Rattle.std.proofs.lemmas.List.{map-append, length-replicate, get_or-replicate, length-map}
use Rattle.algebra.specs.Polynomial.{eval, pow}
use Rattle.algebra.specs.Polynomial.Evaluation.{eval-snoc}
use Rattle.lists.specs.Xor.{◌⊕◌}
use Rattle.lists.specs.Blend.{blend}
use Rattle.lists.specs.Blend.Laws.{blend-up, blend-late, blend-all}
use Rattle.bytefield.specs.Byte.{byte_ring}
use Rattle.tower.specs.Field.{Point, point, bytes_of}
use Rattle.tower.proofs.Field.Laws.{point-bytes_of}
use Rattle.packed.specs.Word.{word}
use Rattle.exchange.proofs.Sequences.Laws.{length-listed, get_d-listed, listed-ext}
use Rattle.exchange.specs.Reading.{points, bytes_at, value, ◌⊞◌, ◌⊠◌, 𝟎}
use Rattle.exchange.proofs.Reading.Laws.{length-bytes_at, lone-homomorphism}
use Rattle.points.specs.Written.{scalar, lone-bytes}
use Rattle.points.specs.Multiples.{word_of}
use Rattle.points.specs.Multiples.Laws.{word_of-sum}
use Rattle.values.specs.Evaluation.{point_power, terms_of, values_of, TermsAsked, EvaluationAsked}

-- ---- places and counts

pub place-small : (i n stride : ℕ) → i < n → n ≤ 64 → stride ≤ 65536 → i * stride ≤ 4194304
place-small i n stride l h k = let e : i ≤ 64 = omega arith in mul-le-mul e k

pub place_inside : (size n stride at i : ℕ) → i < n → (0 < n → at + (n - 1) * stride < size) → at + i * stride < size
place_inside size n stride at i l h =
    let a = h (omega arith) in
    let b : i * stride ≤ (n - 1) * stride = mul-le-mul_right stride (omega arith) in
    omega arith

-- a turn goes from j to k coefficients
pub count_turn : (n j k made : ℕ) → k ≡ j + 1 → made ≡ j * (n + 1) → made + n + 1 ≡ k * (n + 1)
count_turn n j k made ek e = let d : k * (n + 1) ≡ j * (n + 1) + (n + 1) = ap (λ (x : ℕ). x * (n + 1)) (ek ∙ add-one j) ∙ suc-mul j (n + 1) in omega arith

pub count_small : (n len : ℕ) → n ≤ 64 → len ≤ 256 → len * (n + 1) ≤ 16640
count_small n len h k = let e : n + 1 ≤ 65 = omega arith in mul-le-mul k e

pub count-twice : (n len : ℕ) → 0 < n → len * (n + 1) ≤ 2 * (n * len)
count-twice n len h =
    let a : len * (n + 1) ≡ len * n + len = ap (◌*◌ len) (add-one n) ∙ mul-suc len n in
    let b : 1 * len ≤ n * len = mul-le-mul_right len h in
    let c = mul_comm len n in
    omega arith

pub terms-ready : (size n stride from len entries j at now k : ℕ) → EvaluationAsked size n stride from len entries → j < len → at ≡ from + j
    → now ≡ n → k ≡ j * (n + 1) → TermsAsked size n stride at now k
terms-ready size n stride from len entries j at now k a l ea b e =
    let c = count_small n j a.few (let h = a.short in omega arith) in
    record {
      few = a.few;
      near = a.near;
      start = omega arith;
      inside = λ z. let h = a.inside z in omega arith;
      sized = b;
      count = omega arith;
    }

-- ---- one term of each

module _ (s : List ℕ) (n stride at : ℕ) (x : Point) (d : List ℕ) (sized : length d ≡ n) where
  length-terms : length (terms_of s n stride at x d) ≡ length d
  length-terms = length-listed (λ i. get_or d i 0 ⊕ word_of (scalar (get_or s (at + i * stride) 0) ⊠ x)) n ∙ sym sized

  pub terms-turn : (p : List ℕ) (i w : ℕ) → i < n → p ≡ blend i (terms_of s n stride at x d) d → w ≡ word_of (scalar (get_or s (at + i * stride) 0) ⊠ x)
      → set p i (get_or p i 0 ⊕ w) ≡ blend (i + 1) (terms_of s n stride at x d) d
  terms-turn p i w l ep ew =
      blend-up i _ (terms_of s n stride at x d) d p length-terms (omega arith) ep
      (ap₂ ◌⊕◌ (ap (λ (q : List ℕ). get_or q i 0) ep ∙ blend-late i i (terms_of s n stride at x d) d length-terms (omega arith)) ew
      ∙ sym (get_d-listed (λ i. get_or d i 0 ⊕ word_of (scalar (get_or s (at + i * stride) 0) ⊠ x)) n i 0 l))

  pub terms-end : (p : List ℕ) (i : ℕ) → i ≡ n → p ≡ blend i (terms_of s n stride at x d) d → p ≡ terms_of s n stride at x d
  terms-end p i l ep = ep ∙ blend-all i (terms_of s n stride at x d) d length-terms (omega arith)

-- ---- values

pub value-snoc : (p : List ℕ) (c : ℕ) (r : Point) → value (p ++ (c ∷ [])) r ≡ value p r ⊞ scalar c ⊠ point_power r (length p)
unfolding value
value-snoc p c r =
    rw (map-append scalar p (c ∷ []), eval-snoc points.base (map scalar p) (scalar c) r, length-map p scalar)
    (ap (◌⊞◌ (value p r)) (points.base.mul_comm _ _))

bytes_at-snoc : (s : List ℕ) (i j : ℕ) → bytes_at s i (suc j) ≡ bytes_at s i j ++ (get_or s (i + j) 0 ∷ [])
unfolding bytes_at
bytes_at-snoc s i zero = let e : i ≡ i + 0 = omega arith in ap (λ (k : ℕ). get_or s k 0 ∷ []) e
bytes_at-snoc s i (suc j) = let e : suc i + j ≡ i + suc j = omega arith in ap (◌∷◌ (get_or s i 0)) (rw e at (bytes_at-snoc s (suc i) j))

value-turn : (s : List ℕ) (i j : ℕ) (r : Point) → value (bytes_at s i (j + 1)) r ≡ value (bytes_at s i j) r ⊞ scalar (get_or s (i + j) 0) ⊠ point_power r j
value-turn s i j r = rw (add-one j, bytes_at-snoc s i j, value-snoc (bytes_at s i j) (get_or s (i + j) 0) r, length-bytes_at s i j) refl

pub word_of-zero : 0 ≡ word_of 𝟎
unfolding word_of bytes_of points byte_ring word ◌⊕◌
word_of-zero = refl

pub values-none : (s : List ℕ) (n stride from : ℕ) (r : Point) (d : List ℕ) → d ≡ replicate n 0 → d ≡ values_of s n stride from 0 r
unfolding bytes_at value eval
values-none s n stride from r d e =
    e ∙ ext_get_or 0 (replicate n 0) (values_of s n stride from 0 r) (length-replicate {A = ℕ} n 0 ∙ sym (length-listed (λ i. word_of 𝟎) n))
    (λ i l.
    let q : length (replicate n 0) ≡ n = length-replicate {A = ℕ} n 0 in
    let b : i < n = omega arith in
    get_or-replicate {A = ℕ} n i 0 0 b ∙ word_of-zero ∙ sym (get_d-listed (λ i. word_of 𝟎) n i 0 b))

pub values-turn : (s : List ℕ) (n stride from j k at : ℕ) (r x : Point) (d e : List ℕ) → k ≡ j + 1 → at ≡ from + j → x ≡ point_power r j
    → d ≡ values_of s n stride from j r → e ≡ terms_of s n stride at x d → e ≡ values_of s n stride from k r
values-turn s n stride from j k at r x d e ek ea ex ed ee = rw ek (ee ∙ listed-ext _ _ n turn)
  where
    turn : (i : ℕ) → i < n → get_or d i 0 ⊕ word_of (scalar (get_or s (at + i * stride) 0) ⊠ x) ≡ word_of (value (bytes_at s (from + i * stride) (j + 1)) r)
    turn i l =
        let place : at + i * stride ≡ from + i * stride + j = omega arith in
        rw (place, ex, ed, get_d-listed (λ i. word_of (value (bytes_at s (from + i * stride) j) r)) n i 0 l, value-turn s (from + i * stride) j r)
        (sym (word_of-sum _ _))

-- ---- powers

pub power-none : (r : Point) → 1 ∷ 0 ∷ 0 ∷ 0 ∷ [] ≡ bytes_of (point_power r 0)
unfolding pow
power-none r = lone-bytes 1 (lit< tt) ∙ ap bytes_of lone-homomorphism.one

pub power-point : (r : Point) (power : List ℕ) (j : ℕ) → power ≡ bytes_of (point_power r j) → point power ≡ point_power r j
power-point r power j e = ap point e ∙ point-bytes_of (point_power r j)

pub power-turn : (r : Point) (power q : List ℕ) (j k : ℕ) → k ≡ j + 1 → power ≡ bytes_of (point_power r j) → q ≡ bytes_of (point power ⊠ r)
    → q ≡ bytes_of (point_power r k)
unfolding pow
power-turn r power q j k ek ep eq = rw (eq, power-point r power j ep, ek, add-one j) refl
