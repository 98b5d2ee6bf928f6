-- What the evaluation gives, in the words of the exchange.
--
-- inside-part          bytes within a part, read from the whole
-- leading-one          a leading 1 adds the power
-- locator-value        Q(r): the value of its low coefficients, and the leading term where `first`
-- vanishing-value      F(r): the value of its low coefficients, and the leading term
-- locators-made, interpolants-made, quotients-made    the values of Q, S and P of n shares, from those of their bytes
-- vanishing-made       the value of the low coefficients of F, which stand behind those of S
-- length-words, end-lent, words-kept    how many words there are where three parts are lent one after another
-- word-front, -middle, -end    what stands in the parts: the words of Q, of S and F, and of P
-- evaluation-asked     n polynomials that stand in blocks of one size, at one place of each, can be evaluated
-- factor-made          ε·F(r)
use Rattle.std.specs.Prelude.{◌≡◌, Bool, true, false, cond, ℕ, ◌+◌, ◌-◌, ◌*◌, ◌≤◌, ◌<◌, length, take, drop}
use Rattle.std.proofs.Common.{sym, ap₂, ◌∙◌, arith, length-append, length-take, length-drop, length-take-le, take_at, drop_at, get_or-append-add}
use Rattle.std.proofs.Math.Path.{ap}
use mathlib.Core.List.{List, [], ◌∷◌, ◌++◌, append-nil, append_assoc}
use Rattle.std.proofs.Math.ListN.{get_or, get_or-append}
use Rattle.lists.specs.Xor.{◌⊕◌}
use Rattle.lists.specs.Part.{part}
use Rattle.lists.specs.Part.Laws.{get_d_part, part-fits, part-append-left, tail-back}
use Rattle.algebra.specs.Ring.{Ring2}
use Rattle.algebra.specs.Ring.Laws.{ring}
use Rattle.tower.specs.Field.{Point, point, bytes_of}
use Rattle.tower.proofs.Field.Laws.{point-bytes_of}
use Rattle.polynomial.specs.Interpolant.{vanishing_of}
use Rattle.polynomial.specs.Interpolant.Laws.{length-vanishing, vanishing-monic}
use Rattle.parameters.specs.declared.Parameters.{Parameters}
use Rattle.layout.specs.Layout.{share_length, at_q, at_p}
use Rattle.exchange.specs.Sequences.{joined}
use Rattle.exchange.proofs.Sequences.Laws.{get_d-listed, length-joined, part-joined}
use Rattle.exchange.specs.Reading.{points, bytes_at, value, ◌⊞◌, ◌⊠◌, 𝟎}
use Rattle.exchange.proofs.Reading.Laws.{length-bytes_at, bytes_at-ext, bytes_at-part, bytes_at-inside, lone-homomorphism}
use Rattle.exchange.specs.Values.{Key, q_of, p_of, s_of, F, point_of}
use Rattle.exchange.proofs.Values.Laws.{length-s_of}
use Rattle.coefficients.specs.Shares.{share_of}
use Rattle.points.specs.Multiples.{word_of}
use Rattle.points.specs.Multiples.Laws.{word_of-sum}
use Rattle.values.specs.Evaluation.{point_power, values_of, EvaluationAsked}
use Rattle.values.specs.Evaluation.Laws.{value-snoc}
use Rattle.values.specs.Position.{RowsOf}

pub inside-part : (s : List ℕ) (at size from n : ℕ) → from + n ≤ size → bytes_at s (from + at) n ≡ bytes_at (part s at size) from n
inside-part s at size from n h =
    bytes_at-ext s (part s at size) (from + at) from n
    (λ k l. let e : from + at + k ≡ at + (from + k) = omega arith in ap (λ (m : ℕ). get_or s m 0) e ∙ sym (get_d_part s at size (from + k) (omega arith)))

-- ---- the leading term

module _ {K : Type 0} (R : Ring2 K) where
  one-times : (a w : K) → R.add a (R.mul R.one w) ≡ R.add a w
  one-times a w = simp (ring, R)

  zero-times : (a w : K) → R.add a (R.mul R.zero w) ≡ R.add a R.zero
  zero-times a w = simp (ring, R)

leading-one : (q : List ℕ) (n : ℕ) (x : Point) → length q ≡ n → value (q ++ (1 ∷ [])) x ≡ value q x ⊞ point_power x n
leading-one q n x e =
    value-snoc q 1 x ∙ ap₂ (λ (o : Point) (k : ℕ). value q x ⊞ o ⊠ point_power x k) lone-homomorphism.one e ∙ one-times points.base _ _

pub locator-value : (p : Parameters) (first : Bool) (s : List ℕ) (x : Point)
    → value (q_of p first s) x ≡ value (bytes_at s (at_q p) p.w) x ⊞ cond first (point_power x p.w) 𝟎
unfolding q_of
locator-value p true s x = leading-one (bytes_at s (at_q p) p.w) p.w x (length-bytes_at s (at_q p) p.w)
locator-value p false s x =
    value-snoc (bytes_at s (at_q p) p.w) 0 x
    ∙ ap (λ (o : Point). value (bytes_at s (at_q p) p.w) x ⊞ o ⊠ point_power x (length (bytes_at s (at_q p) p.w))) lone-homomorphism.zero ∙ zero-times points.base _ _

length-low : (m : ℕ) → length (take m (vanishing_of m)) ≡ m
length-low m = length-take-le m (vanishing_of m) (omega (arith, length-vanishing m))

pub vanishing-value : (p : Parameters) (x : Point) → value (F p) x ≡ value (take p.m (F p)) x ⊞ point_power x p.m
unfolding F
vanishing-value p x =
    ap (λ (q : List ℕ). value q x) (vanishing-monic p.m) ∙ leading-one (take p.m (vanishing_of p.m)) p.m x (length-low p.m)

-- ---- the words of n shares

module _ (p : Parameters) (n : ℕ) (shares : List ℕ) (x : Point) where
  pub locators-made : (first : Bool) (qs power : List ℕ) (leading : ℕ) → qs ≡ values_of shares n (share_length p) (at_q p) p.w x
      → power ≡ bytes_of (point_power x p.w) → leading ≡ word_of (cond first (point power) 𝟎)
      → (i : ℕ) → i < n → get_or qs i 0 ⊕ leading ≡ word_of (value (q_of p first (share_of p shares i)) x)
  locators-made first qs power leading e ep el i h =
      ap₂ ◌⊕◌ (ap (λ (d : List ℕ). get_or d i 0) e ∙ get_d-listed _ n i 0 h)
      (el ∙ ap (λ (y : Point). word_of (cond first y 𝟎)) (ap point ep ∙ point-bytes_of (point_power x p.w)))
      ∙ sym (word_of-sum _ _)
      ∙ ap word_of
      (ap (λ (l : List ℕ). value l x ⊞ cond first (point_power x p.w) 𝟎) (inside-part shares (i * share_length p) (share_length p) (at_q p) p.w (omega arith))
      ∙ sym (locator-value p first (share_of p shares i) x))

  pub quotients-made : (ps : List ℕ) → ps ≡ values_of shares n (share_length p) (at_p p) p.w x
      → (i : ℕ) → i < n → get_or ps i 0 ≡ word_of (value (p_of p (share_of p shares i)) x)
  unfolding p_of
  quotients-made ps e i h =
      ap (λ (d : List ℕ). get_or d i 0) e ∙ get_d-listed _ n i 0 h
      ∙ ap (λ (l : List ℕ). word_of (value l x)) (inside-part shares (i * share_length p) (share_length p) (at_p p) p.w (omega arith))

  module _ (key : Key) (first : Bool) (rows ss : List ℕ) (small : p.k < p.m) (given : RowsOf p key first shares rows n)
      (e : ss ≡ values_of rows (n + 1) p.m 0 p.m x) where
    abbrev row : ℕ → List ℕ
    row i = s_of p key first (share_of p shares i)

    sized : (i : ℕ) → i < n → length (row i) ≡ p.m
    sized i h = length-s_of p key first (share_of p shares i) small

    value-at : (i : ℕ) → i < n + 1 → (q : List ℕ) → bytes_at (joined row n ++ take p.m (F p)) (i * p.m) p.m ≡ q → get_or ss i 0 ≡ word_of (value q x)
    value-at i h q eq =
        ap (λ (d : List ℕ). get_or d i 0) e ∙ get_d-listed _ (n + 1) i 0 h
        ∙ ap (λ (l : List ℕ). word_of (value l x))
        ((let z : 0 + i * p.m ≡ i * p.m = omega arith in ap₂ (λ (d : List ℕ) (a : ℕ). bytes_at d a p.m) given z) ∙ eq)

    pub interpolants-made : (i : ℕ) → i < n → get_or ss i 0 ≡ word_of (value (s_of p key first (share_of p shares i)) x)
    interpolants-made i h =
        let a = length-joined row n p.m sized in
        let f = part-fits i n p.m h in
        value-at i (omega arith) (row i)
        (bytes_at-part _ (i * p.m) p.m (omega (arith, length-append (joined row n) (take p.m (F p))))
        ∙ part-append-left (joined row n) (take p.m (F p)) (i * p.m) p.m (omega arith) ∙ part-joined row p.m n sized i h)

    pub vanishing-made : get_or ss n 0 ≡ word_of (value (take p.m (F p)) x)
    unfolding F
    vanishing-made =
        value-at n (omega arith) (take p.m (F p))
        (ap (λ (q : List ℕ). bytes_at (joined row n ++ q) (n * p.m) p.m) (sym (append-nil (take p.m (F p))))
        ∙ bytes_at-inside (joined row n) (take p.m (F p)) [] (n * p.m) p.m (length-joined row n p.m sized) (length-low p.m))

-- ---- the words as they come back: the front, the middle and the end of w are lent one after another, and become u, s and v

module _ (w u s : List ℕ) (n b : ℕ) (fits : b ≤ length w) (lu : length u ≡ n) (ls : n + length s ≡ b) where
  abbrev words₂ : List ℕ
  words₂ = take n (u ++ drop n w) ++ (s ++ drop (b - n) (drop n (u ++ drop n w)))

  second : words₂ ≡ (u ++ s) ++ drop (b - n) (drop n w)
  second =
      ap₂ (λ (x y : List ℕ). x ++ (s ++ drop (b - n) y)) (take_at u (drop n w) n lu) (drop_at u (drop n w) n lu)
      ∙ sym (append_assoc u s (drop (b - n) (drop n w)))

  length_front : length (u ++ s) ≡ b
  length_front = length-append u s ∙ omega arith

  pub length-words : length words₂ ≡ length w
  length-words = ap length second ∙ simp (length-append, length-drop) (omega arith)

  pub end-lent : length (take (length words₂ - b) (drop b words₂)) ≡ length w - b
  end-lent = simp (length-take, length-drop) (omega (arith, length-words))

  module _ (v : List ℕ) where
    abbrev words₃ : List ℕ
    words₃ = take b words₂ ++ (v ++ drop (length words₂ - b) (drop b words₂))

    words-made : words₃ ≡ (u ++ s) ++ v
    words-made =
        tail-back words₂ v b (omega (arith, length-words))
        ∙ ap (λ (x : List ℕ). x ++ v) (ap (take b) second ∙ take_at (u ++ s) (drop (b - n) (drop n w)) b length_front)

    pub words-kept : length v ≡ length w - b → length words₃ ≡ length w
    words-kept l = ap length words-made ∙ length-append (u ++ s) v ∙ omega (arith, length_front)

    -- what stands at their places
    pub word-front : (i : ℕ) → i < n → get_or words₃ i 0 ≡ get_or u i 0
    word-front i h =
        ap (λ (x : List ℕ). get_or x i 0) words-made ∙ get_or-append (u ++ s) v 0 i (omega (arith, length_front))
        ∙ get_or-append u s 0 i (omega arith)

    pub word-middle : (i : ℕ) → n + i < b → get_or words₃ (n + i) 0 ≡ get_or s i 0
    word-middle i h =
        ap (λ (x : List ℕ). get_or x (n + i) 0) words-made ∙ get_or-append (u ++ s) v 0 (n + i) (omega (arith, length_front))
        ∙ ap (λ (k : ℕ). get_or (u ++ s) (k + i) 0) (sym lu) ∙ get_or-append-add u s i 0

    pub word_end : (i : ℕ) → get_or words₃ (b + i) 0 ≡ get_or v i 0
    word_end i =
        ap (λ (x : List ℕ). get_or x (b + i) 0) words-made ∙ ap (λ (k : ℕ). get_or ((u ++ s) ++ v) (k + i) 0) (sym length_front)
        ∙ get_or-append-add (u ++ s) v i 0

-- ---- what the evaluations ask

pub evaluation-asked : (total n size from len entries : ℕ)
    → (n ≤ 16) × (size ≤ 65536) × (len ≤ 255) × (from + len ≤ size) × (total ≡ n * size) × (entries ≡ n)
    → EvaluationAsked total n size from len entries
evaluation-asked total n size from len entries (few, near, short, h, e, sized) =
    let inside : 0 < n → from + (n - 1) * size + len ≤ total = λ z. let f = part-fits (n - 1) n size (omega arith) in omega arith in search arith

-- ---- ε·F(r)

pub factor-made : (p : Parameters) (message2 f x : List ℕ) (l : ℕ) (ε : Point) → f ≡ bytes_of (value (F p) (point_of p message2 l))
    → x ≡ bytes_of (point f ⊠ ε) → x ≡ bytes_of (ε ⊠ value (F p) (point_of p message2 l))
factor-made p message2 f x l ε ef ex =
    ex ∙ ap bytes_of (ap (λ (y : Point). y ⊠ ε) (ap point ef ∙ point-bytes_of _) ∙ points.base.mul_comm _ _)
