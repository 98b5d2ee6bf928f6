-- Where the checks pass, the slices hold what the parameters say, and the run count is within its limits.
use Rattle.std.specs.Prelude.{⊤, Ok}
use Rattle.std.proofs.Common.{arith, length-take-le, sym, ℕ, ◌∙◌, ◌≡◌}
use Rattle.answers.specs.Answer.{Answer}
use Rattle.layout.specs.Runs.Laws.{RunsWithin}
use Rattle.keytext.specs.declared.KeyScan.{KeyScan}
use Rattle.keytext.specs.Finish.{read_checks}
use Rattle.keytext.proofs.Laws.Finish.{Read, read_done, read-within, read_held}
use Rattle.unlock.specs.Count.{with_runs}
use Rattle.unlock.specs.Count.Laws.{runs_done}
use Rattle.unlock.proofs.on_key_read.Goals as goal

passed : {read checked : Answer} {u : ⊤} {runs m y x : ℕ} (s : KeyScan) → read ≡ read_checks s m y x → checked ≡ with_runs read runs → checked ≡ Ok u
    → Read s m y x × RunsWithin runs
passed s e f d = let h = runs_done _ _ (sym f ∙ d) in (read_done _ _ _ _ (sym e ∙ h.0), h.1)

pub matrix_length-size-requires : goal.matrix_length-size-requires
matrix_length-size-requires g c = let h = passed c.args.scan c.read_checks-read.ensures c.with_runs.ensures c.in_default.is in
    read-within c.args.scan c.parameters_of-p.ensures h.0

pub y_length-rows-requires : goal.y_length-rows-requires
y_length-rows-requires g c = let h = passed c.args.scan c.read_checks-read.ensures c.with_runs.ensures c.in_default.is in
    read-within c.args.scan c.parameters_of-p.ensures h.0

pub slice_bounds-exchange-end : goal.slice_bounds-exchange-end
slice_bounds-exchange-end g c = let h = passed c.args.scan c.read_checks-read.ensures c.with_runs.ensures c.in_default.is in
    let l = read_held c.args.scan c.parameters_of-p.ensures h.0 in
    sym (length-take-le _ c.args.matrix.now (omega (arith, l.0, c.matrix_length-size.ensures)))

pub slice_bounds-exchange-end-2 : goal.slice_bounds-exchange-end-2
slice_bounds-exchange-end-2 g c = let h = passed c.args.scan c.read_checks-read.ensures c.with_runs.ensures c.in_default.is in
    let l = read_held c.args.scan c.parameters_of-p.ensures h.0 in
    sym (length-take-le _ c.args.y.now (omega (arith, l.1, c.y_length-rows.ensures)))

pub slice_bounds-exchange-end-3 : goal.slice_bounds-exchange-end-3
slice_bounds-exchange-end-3 g c = let h = passed c.args.scan c.read_checks-read.ensures c.with_runs.ensures c.in_default.is in
    let l = read_held c.args.scan c.parameters_of-p.ensures h.0 in
    sym (length-take-le _ c.args.x_a.now l.2)

pub exchange-requires : goal.exchange-requires
exchange-requires g c = let h = passed c.args.scan c.read_checks-read.ensures c.with_runs.ensures c.in_default.is in
    (read-within c.args.scan c.parameters_of-p.ensures h.0, h.1.most)
