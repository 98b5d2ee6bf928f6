-- Three evaluations at the point, each into its part of the words: of Q's low coefficients, of S of each share and of F's low coefficients, and
-- of P. The power with which the second ends is F's leading term, that of the first Q's.
use Rattle.std.proofs.Common.{List, ap, ap₂, arith, drop, length, length-append, length-drop, length-take, subst, sym, take, ℕ, ◌*◌, ◌++◌, ◌+◌, ◌-◌, ◌<◌, ◌∙◌, ◌≡◌, ◌≤◌}
use Rattle.lists.specs.Xor.{◌⊕◌}
use Rattle.tower.specs.Field.{Point, bytes_of}
use Rattle.packed.specs.Word.{bytes}
use Rattle.points.specs.Multiples.Laws.{bytes-word_of}
use Rattle.points.specs.Written.{front_length}
use Rattle.values.specs.Evaluation.{values_of}
use Rattle.values.specs.Position.Evaluated.{vanishing-value, locators-made, quotients-made, interpolants-made, vanishing-made, evaluation-asked, end-lent, words-kept, word-front, word-middle, word_end}
use Rattle.values.specs.Products.{evaluations-few}
use Rattle.values.specs.Terms.{sum-made}
use Rattle.values.proofs.valued.evaluate.Goals as goal
use Rattle.values.proofs.valued.evaluate.Goals.{After-values_at-q, After-values_at-s, After-values_at-v}

-- the part of the words that is lent for Q
front : (n : ℕ) (w : List ℕ) → length w ≡ 3 * n + 1 → n ≡ length (take n w)
front n w e = front_length n w (omega arith)

-- the part that is lent for S and F
middle : (n : ℕ) (w qs : List ℕ) → length w ≡ 3 * n + 1 → length qs ≡ n → length (take (2 * n + 1 - n) (drop n (qs ++ drop n w))) ≡ n + 1
middle n w qs e l = simp (length-take, length-drop, length-append) (omega arith)

-- the words of Q
length-qs : (c : After-values_at-q) → length c.values_at-q.new.values ≡ c.args.group.n
length-qs c = c.values_at-q.auto.values ∙ sym (front _ _ c.requires.0.sized-words)

-- and those of S and F
length-ss : (c : After-values_at-s) → c.args.group.n + length c.values_at-s.new.values ≡ 2 * c.args.group.n + 1
length-ss c =
    let e = c.requires.0.sized-words in
    let l : length c.values_at-q.new.values ≡ c.args.group.n = c.values_at-q.auto.values ∙ sym (front _ _ e) in
    let k : length c.values_at-s.new.values ≡ c.args.group.n + 1 = c.values_at-s.auto.values ∙ middle _ _ _ e l in omega arith

-- how many products were made
few : (c : After-values_at-v) → c.values_at-q.result.made + c.values_at-s.result.made + c.values_at-v.result.made ≤ 13005
few c =
    let a = evaluations-few c.args.p c.args.group.n c.requires.0.within c.requires.0.few in
    omega (arith, c.values_at-q.ensures.1, c.values_at-s.ensures.1, c.values_at-v.ensures.1)

pub slice_bounds-values_at-end-2 : goal.slice_bounds-values_at-end-2
slice_bounds-values_at-end-2 c = front _ _ c.requires.0.sized-words

pub values_at-q-requires : goal.values_at-q-requires
values_at-q-requires c =
    let (g, t) = c.requires in let e = c.share_length-size.ensures in
    let f = c.at_q-at.ensures in (evaluation-asked _ _ _ _ _ _ (omega (arith, front _ _ c.requires.0.sized-words, ap (◌*◌ c.args.group.n) e)), t)

pub values_at-s-requires : goal.values_at-s-requires
values_at-s-requires c =
    let (g, t) = c.requires in (evaluation-asked _ _ _ _ _ _ (omega (arith, middle _ _ _ g.sized-words (length-qs (goal.at.values_at-s-requires c).After-values_at-q))), t)

pub values_at-v-requires : goal.values_at-v-requires
values_at-v-requires c =
    let room : 2 * c.args.group.n + 1 ≤ length c.args.words.now = omega (arith, c.requires.0.sized-words) in
    let lq = length-qs (goal.at.values_at-v-requires c).After-values_at-q in
    let ls = length-ss (goal.at.values_at-v-requires c).After-values_at-s in
    let (g, t) = c.requires in let e = c.share_length-size.ensures in let f = c.at_p-behind.ensures in
    let l = end-lent c.args.words.now c.values_at-q.new.values c.values_at-s.new.values c.args.group.n _ room lq ls in
    (evaluation-asked _ _ _ _ _ _ (omega (arith, l, ap (◌*◌ c.args.group.n) e)), t)

pub overflow_add-n-2 : goal.overflow_add-n-2
overflow_add-n-2 c = omega (arith, c.requires.0.few)

pub offset_bounds-words-n-2 : goal.offset_bounds-words-n-2
offset_bounds-words-n-2 c = omega (arith, c.requires.0.few)

pub bounds-words-n : goal.bounds-words-n
bounds-words-n c =
    let room : 2 * c.args.group.n + 1 ≤ length c.args.words.now = omega (arith, c.requires.0.sized-words) in
    let lq = length-qs (goal.at.bounds-words-n c).After-values_at-q in
    let ls = length-ss (goal.at.bounds-words-n c).After-values_at-s in
    let kept : length c.values_at-v.new.values ≡ length c.args.words.now - (2 * c.args.group.n + 1) = c.values_at-v.auto.values ∙ end-lent c.args.words.now c.values_at-q.new.values c.values_at-s.new.values c.args.group.n _ room lq ls in
    let l : c.args.group.n + c.args.group.n < length c.args.words.now = omega arith in
    subst (λ (k : ℕ). c.args.group.n + c.args.group.n < k) (sym (words-kept c.args.words.now c.values_at-q.new.values c.values_at-s.new.values c.args.group.n _ room lq ls
    c.values_at-v.new.values kept)) l

pub overflow_add-result : goal.overflow_add-result
overflow_add-result c = omega (arith, few (goal.at.overflow_add-result c).After-values_at-v)

pub overflow_add-result-2 : goal.overflow_add-result-2
overflow_add-result-2 c = omega (arith, few (goal.at.overflow_add-result-2 c).After-values_at-v)

pub returns : goal.returns
returns c =
    let room : 2 * c.args.group.n + 1 ≤ length c.args.words.now = omega (arith, c.requires.0.sized-words) in
    let lq = length-qs (goal.at.returns c).After-values_at-q in
    let ls = length-ss (goal.at.returns c).After-values_at-s in
    let q = c.args.p in let first = c.args.group.first in let shares = c.args.shares.now in let k = c.args.group.n in
    let e = c.share_length-size.ensures in let at : Point → ℕ → ℕ → List ℕ = λ x size from. values_of shares k size from q.w x in
    let small = c.requires.0.within.k-most in let ps = c.values_at-v.new.values in
    let middle = word-middle c.args.words.now c.values_at-q.new.values c.values_at-s.new.values k _ room lq ls ps in (
      λ key x given table. (
        record {
          locators = λ i h. ap (λ (z : ℕ). z ⊕ c.leading_word.result) (word-front c.args.words.now c.values_at-q.new.values c.values_at-s.new.values k _ room lq ls ps i h)
              ∙ locators-made q k shares x first _ _ _ ((c.values_at-q.ensures.0 x table).0 ∙ ap₂ (at x) e c.at_q-at.ensures) (c.values_at-q.ensures.0 x table).1
              c.leading_word.ensures i h;
          interpolants = λ i h. middle i (omega arith) ∙ interpolants-made q k shares x key first _ _ small given (c.values_at-s.ensures.0 x table).0 i h;
          quotients = λ i h. word_end c.args.words.now c.values_at-q.new.values c.values_at-s.new.values k _ room lq ls ps i
              ∙ quotients-made q k shares x _ ((c.values_at-v.ensures.0 x table).0 ∙ ap₂ (at x) e c.at_p-behind.ensures) i h;
        },
        sum-made _ _ _ _ _
            (c.point_of.ensures ∙ ap (bytes 4) (middle k (omega arith)
            ∙ vanishing-made q k shares x key first _ _ small given (c.values_at-s.ensures.0 x table).0) ∙ bytes-word_of _)
            (c.values_at-s.ensures.0 x table).1 c.sum.ensures ∙ ap bytes_of (sym (vanishing-value q x)),
      ),
      omega (arith, c.values_at-q.ensures.1, c.values_at-s.ensures.1, c.values_at-v.ensures.1),
    )
