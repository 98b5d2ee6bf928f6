-- Each check has the value of its test, and those before it hold; where all hold, x has the vector.
use Rattle.std.proofs.Common.{List, ap, length, refl, sym, true, ℕ, ◌∙◌, ◌≡◌, ◌&&◌}
use Rattle.lists.specs.Checks.{all_true}
use Rattle.shake256.specs.Fips.{SHAKE256}
use Rattle.answers.specs.Checks.Laws.{require-passed, require-refused}
use Rattle.parameters.specs.Limits.{within_limits}
use Rattle.layout.specs.Runs.{runs_within}
use Rattle.exchange.specs.Values.{key_of}
use Rattle.prover.specs.declared.arguments.Lengths.{Lengths}
use Rattle.prover.specs.Arguments.{Limited, begin_tests, lengths_of}
use Rattle.prover.specs.Arguments.Laws.{limited, begin-sized}
use Rattle.prover.specs.Checks.{begin-row}
use Rattle.prover.proofs.checks.begin_checks.Goals as goal
use Rattle.prover.proofs.checks.begin_checks.Goals.{In_ok-require, In_ok-require-2, In_ok-require-3, After-begin_lengths}

within : (c : In_ok-require) → true ≡ (within_limits c.args.p && runs_within c.args.runs)
within c = sym (require-passed c.within.result _ c.require.ensures c.in_ok-require.was) ∙ c.within.ensures

limits : (c : In_ok-require) → Limited c.args.p c.args.runs
limits c = limited _ _ (sym (within c))

-- the lengths' test, over the slices that have these lengths
tested : (c : After-begin_lengths) (salt root work out : List ℕ) → c.args.others ≡ lengths_of salt root work out
    → (let a = c.args in c.begin_lengths.result
    ≡ all_true (begin_tests a.p a.runs (length a.x_a.now) (length a.matrix.now) (length a.y.now) (lengths_of salt root work out)))
tested c salt root work out of =
    let a = c.args in
    c.begin_lengths.ensures
    ∙ ap (λ (l : Lengths). all_true (begin_tests a.p a.runs (length a.x_a.now) (length a.matrix.now) (length a.y.now) l)) of

pub returns-in_err-require-clause-value : goal.returns-in_err-require-clause-value
returns-in_err-require-clause-value c = λ s salt root work out of told.
    let a = c.args in
    require-refused _ _ _ c.require.ensures c.in_err-require.was c.from_residual.ensures.1
    ∙ begin-row SHAKE256 s work out (key_of a.matrix.now a.y.now) a.p a.runs a.x_a.now salt root _ _ _ _
    c.within.ensures refl refl refl

pub begin_lengths-requires : goal.begin_lengths-requires
begin_lengths-requires c = limits (goal.at.begin_lengths-requires c).In_ok-require

pub returns-in_err-require-2-clause-value : goal.returns-in_err-require-2-clause-value
returns-in_err-require-2-clause-value c = λ s salt root work out of told.
    let a = c.args in let at = goal.at.returns-in_err-require-2-clause-value c in
    require-refused _ _ _ c.require-2.ensures c.in_err-require-2.was c.from_residual-in_err-require-2.ensures.1
    ∙ begin-row SHAKE256 s work out (key_of a.matrix.now a.y.now) a.p a.runs a.x_a.now salt root true _ _ _
    (within at.In_ok-require) (tested at.After-begin_lengths salt root work out of) refl refl

pub weigh-requires : goal.weigh-requires
weigh-requires c =
    let a = c.args in
    let h =
    begin-sized a.p a.runs a.x_a.now a.matrix.now a.y.now a.others
    (sym c.begin_lengths.ensures ∙ require-passed c.begin_lengths.result _ c.require-2.ensures c.in_ok-require-2.was) in
    record {
      within = (limits (goal.at.weigh-requires c).In_ok-require).within;
      x_a-is = h.x_a-is;
      matrix-is = h.lent.matrix-is;
      y-is = h.lent.y-is;
      zeros = c.requires;
    }

pub returns-in_err-require-3-clause-value : goal.returns-in_err-require-3-clause-value
returns-in_err-require-3-clause-value c = λ s salt root work out of told.
    let a = c.args in let at = goal.at.returns-in_err-require-3-clause-value c in
    require-refused _ _ _ c.require-3.ensures c.in_err-require-3.was c.from_residual-in_err-require-3.ensures.1
    ∙ begin-row SHAKE256 s work out (key_of a.matrix.now a.y.now) a.p a.runs a.x_a.now salt root true true _ _
    (within at.In_ok-require)
    (sym (require-passed c.begin_lengths.result _ c.require-2.ensures c.in_ok-require-2.was) ∙ tested at.After-begin_lengths salt root work out of)
    c.weigh.ensures.1 refl

pub returns-clause-value : goal.returns-clause-value
returns-clause-value c = λ s salt root work out of told.
    let a = c.args in let at = goal.at.returns-clause-value c in
    c.require-4.ensures
    ∙ begin-row SHAKE256 s work out (key_of a.matrix.now a.y.now) a.p a.runs a.x_a.now salt root true true true _
    (within at.In_ok-require)
    (sym (require-passed c.begin_lengths.result _ c.require-2.ensures c.in_ok-require-2.was) ∙ tested at.After-begin_lengths salt root work out of)
    (sym (require-passed c.weigh.result _ c.require-3.ensures c.in_ok-require-3.was) ∙ c.weigh.ensures.1) told
