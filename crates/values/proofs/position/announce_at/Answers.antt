-- The words have room for fifteen shares and F. They become the values at r, so that each share announces what it should.
use Rattle.std.proofs.Common.{List, ap, arith, drop, length, replicate, rules, subst, sym, take, take_at, ℕ, ◌*◌, ◌++◌, ◌+◌, ◌∙◌, ◌≡◌, ◌≤◌}
use Rattle.tower.specs.Field.{point, bytes_of}
use Rattle.tower.proofs.Field.Laws.{point-bytes_of}
use Rattle.exchange.specs.Reading.{point_at}
use Rattle.exchange.specs.Values.{point_of, multiplier_of}
use Rattle.points.specs.Multiples.{multiples_of}
use Rattle.points.specs.Written.{front_length, front_kept}
use Rattle.layout.specs.Maxima.{most_evaluations}
use Rattle.values.specs.Position.{Valued}
use Rattle.values.specs.Products.{evaluations-few}
use Rattle.values.proofs.position.announce_at.Goals as goal
use Rattle.values.proofs.position.announce_at.Goals.{After-evaluate-values}

abbrev zeros : List ℕ
zeros = replicate most_evaluations 0

-- the words that are lent
fits : (n : ℕ) → n ≤ 15 → 3 * n + 1 ≤ most_evaluations
fits n few = omega arith

lent : (n : ℕ) → n ≤ 15 → 3 * n + 1 ≡ length (take (3 * n + 1) zeros)
lent n few = front_length (3 * n + 1) zeros (fits n few)

-- and what they become
length-words : (c : After-evaluate-values) → length c.evaluate-values.new.words ≡ 3 * c.args.group.n + 1
length-words c = c.evaluate-values.auto.words ∙ sym (lent c.args.group.n c.requires.0.few)

room : (c : After-evaluate-values) → let size = 3 * c.args.group.n + 1 in size ≤ length (c.evaluate-values.new.words ++ drop size zeros)
room c =
    let size : ℕ = 3 * c.args.group.n + 1 in
    let f = fits c.args.group.n c.requires.0.few in
    omega (arith, front_kept size c.evaluate-values.new.words zeros (length-words c) f, f)

again : (c : After-evaluate-values) → let size = 3 * c.args.group.n + 1 in
    size ≡ length (take size (c.evaluate-values.new.words ++ drop size zeros))
again c = front_length (3 * c.args.group.n + 1) (c.evaluate-values.new.words ++ drop (3 * c.args.group.n + 1) zeros) (room c)

pub slice_bounds-evaluate-end-2 : goal.slice_bounds-evaluate-end-2
slice_bounds-evaluate-end-2 c = lent c.args.group.n c.requires.0.few

pub evaluate-values-requires : goal.evaluate-values-requires
evaluate-values-requires c =
    let (f, position) = c.requires in let sized-words = sym (lent c.args.group.n c.requires.0.few) in search rules

pub slice_bounds-words-end-2 : goal.slice_bounds-words-end-2
slice_bounds-words-end-2 c = room (goal.at.slice_bounds-words-end-2 c).After-evaluate-values

pub slice_bounds-announce_valued-end : goal.slice_bounds-announce_valued-end
slice_bounds-announce_valued-end c = again (goal.at.slice_bounds-announce_valued-end c).After-evaluate-values

pub announce_valued-requires : goal.announce_valued-requires
announce_valued-requires c =
    let (f, position) = c.requires in let sized-words = sym (again (goal.at.announce_valued-requires c).After-evaluate-values) in
    (search, omega (arith, c.evaluate-values.ensures.1, evaluations-few c.args.p c.args.group.n f.within f.few), c.multiples_of.auto.out)

pub returns : goal.returns
unfolding point_of multiplier_of
returns c = let a = c.args in let size : ℕ = 3 * a.group.n + 1 in (
  λ key given.
      let v = c.evaluate-values.ensures.0 key (point_of a.p a.message2.now a.l) given
      (c.multiples_of.ensures ∙ ap multiples_of (ap point c.point_at-r.ensures ∙ point-bytes_of _)) in
      c.announce_valued.ensures.0 key a.message2.now a.group.first
      (subst (λ (w : List ℕ). Valued a.p key a.group.first a.shares.now a.group.n (point_of a.p a.message2.now a.l) w
      c.evaluate-values.result.leading)
      (sym (take_at c.evaluate-values.new.words (drop size zeros) size (length-words (goal.at.returns c).After-evaluate-values))) v.0)
      (c.point_at-multiplier.ensures ∙ ap (λ (k : ℕ). bytes_of (point_at a.message2.now (k + 4 * a.l))) c.points_length.ensures) v.1,
  omega (arith, c.announce_valued.ensures.1, c.evaluate-values.ensures.1),
)
