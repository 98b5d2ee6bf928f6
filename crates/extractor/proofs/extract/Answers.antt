-- Each return has the answers of the steps before it (`Given.Laws`); the steps of a turn are asked what `Loop` says.
use Rattle.std.proofs.Common.{ap, arith, length, sym, ℕ, ◌+◌, ◌<◌, ◌∙◌}
use Rattle.std.proofs.lemmas.List.{length-replicate}
use Rattle.std.proofs.lemmas.Result.{err_from_is_err_and}
use Rattle.shake256.specs.Fips.{SHAKE256}
use Rattle.layout.specs.Maxima.{most_statement}
use Rattle.exchange.specs.Values.{key_of}
use Rattle.extractor.specs.Best.Laws.{verdict-next}
use Rattle.extractor.specs.Early.{Early, early-passed}
use Rattle.extractor.specs.Given.Laws.{refused-early, answered-first, answered-second, answered-pair, lowest-inside, filled}
use Rattle.extractor.specs.Loop.{statement-asked, statement_fits, statement-front, statement-whole, statement-lent, places, lies, lies', turn-asked, turn-checked, loop-starts, zeros-now, loop-turns, loop-ends, outputs-asked}
use Rattle.extractor.specs.Lowest.{extracted-some}
use Rattle.extractor.specs.Messages.{messages}
use Rattle.extractor.specs.Outputs.Exchange.{written_is}
use Rattle.extractor.specs.Run.{most_openings}
use Rattle.extractor.proofs.extract.Goals as goal
use Rattle.extractor.proofs.extract.Goals.{In_ok-early_checks}

known : (c : In_ok-early_checks) → Early SHAKE256 c.args.p c.args.runs (messages c.args.first) (messages c.args.second) (key_of c.args.matrix.now c.args.y.now)
    c.args.work.now c.args.out.now
known c = early-passed _ _ _ _ _ _ _ _ (sym c.early_checks.ensures ∙ c.in_ok-early_checks.was)

pub returns-in_err-early_checks : goal.returns-in_err-early_checks
returns-in_err-early_checks c = let p = err_from_is_err_and c.from_residual.result c.from_residual.ensures.1 in
    rw (p.1, p.2) (refused-early _ _ _ _ _ _ _ _ c.early_checks.ensures _ c.in_err-early_checks.was)

pub statement_length-size-requires : goal.statement_length-size-requires
statement_length-size-requires c = (known (goal.at.statement_length-size-requires c).In_ok-early_checks).within

pub loop-run-init : goal.loop-run-init
loop-run-init c = λ k. rw c.nothing_yet-best.ensures (loop-starts _ _ _ _ _ _ _ k _ _ (length-replicate {A = ℕ} most_statement 0) (length-replicate {A = ℕ} most_openings 0))

-- ---- a turn

pub overflow_cast-run : goal.overflow_cast-run
overflow_cast-run c = let k = known (goal.at.overflow_cast-run c).In_ok-early_checks in let now = c.loop-run in let x = now.invariant k in
    let below : now.run < c.args.runs = omega (arith, c.loop-run-test.true, k.count.least) in
    omega (arith, below, k.count.most)

pub slice_bounds-statement-end : goal.slice_bounds-statement-end
slice_bounds-statement-end c = let k = known (goal.at.slice_bounds-statement-end c).In_ok-early_checks in let now = c.loop-run in let x = now.invariant k in
    statement_fits _ _ _ _ _ _ _ k _ _ c.statement_length-size.ensures x.sized-statement

pub slice_bounds-put_statement-end : goal.slice_bounds-put_statement-end
slice_bounds-put_statement-end c = let k = known (goal.at.slice_bounds-put_statement-end c).In_ok-early_checks in let now = c.loop-run in let x = now.invariant k in
    sym (statement-front _ _ _ _ _ _ _ k _ _ c.statement_length-size.ensures x.sized-statement)

pub put_statement-requires : goal.put_statement-requires
put_statement-requires c = let k = known (goal.at.put_statement-requires c).In_ok-early_checks in let now = c.loop-run in let x = now.invariant k in
    let below : now.run < c.args.runs = omega (arith, c.loop-run-test.true, k.count.least) in
    statement-asked _ _ _ _ _ _ _ k now.run _ below (statement-front _ _ _ _ _ _ _ k _ _ c.statement_length-size.ensures x.sized-statement ∙ c.statement_length-size.ensures)

pub pair_at-pair-requires : goal.pair_at-pair-requires
pair_at-pair-requires c = let k = known (goal.at.pair_at-pair-requires c).In_ok-early_checks in let now = c.loop-run in let x = now.invariant k in
    let below : now.run < c.args.runs = omega (arith, c.loop-run-test.true, k.count.least) in
    places _ _ _ _ _ _ _ k now.run below

pub slice_bounds-statement-end-in-loop-run : goal.slice_bounds-statement-end-in-loop-run
slice_bounds-statement-end-in-loop-run c = let k = known (goal.at.slice_bounds-statement-end-in-loop-run c).In_ok-early_checks in let now = c.loop-run in let x = now.invariant k in
    omega (arith, statement_fits _ _ _ _ _ _ _ k _ _ c.statement_length-size.ensures x.sized-statement, x.sized-statement, statement-whole _ _ _ _ _ _ _ k _ _ c.statement_length-size.ensures x.sized-statement c.put_statement.new.out c.put_statement.auto.out)

pub slice_bounds-check_run-end : goal.slice_bounds-check_run-end
slice_bounds-check_run-end c = let k = known (goal.at.slice_bounds-check_run-end c).In_ok-early_checks in let now = c.loop-run in let x = now.invariant k in
    sym (ap length (statement-lent _ _ _ _ _ _ _ k _ _ c.statement_length-size.ensures x.sized-statement c.put_statement.new.out c.put_statement.auto.out) ∙ c.put_statement.auto.out ∙ statement-front _ _ _ _ _ _ _ k _ _ c.statement_length-size.ensures x.sized-statement)

pub check_run-requires : goal.check_run-requires
check_run-requires c = let k = known (goal.at.check_run-requires c).In_ok-early_checks in let now = c.loop-run in let x = now.invariant k in
    let below : now.run < c.args.runs = omega (arith, c.loop-run-test.true, k.count.least) in
    turn-asked _ _ _ _ _ _ _ k _ _ c.statement_length-size.ensures x.sized-statement c.put_statement.new.out c.put_statement.auto.out now.run below
    c.put_statement.ensures _ c.pair_at-pair.ensures _ _ x.sized-work x.sized-openings

pub overflow_cast-run-in-loop-run : goal.overflow_cast-run-in-loop-run
overflow_cast-run-in-loop-run c = let k = known (goal.at.overflow_cast-run-in-loop-run c).In_ok-early_checks in let now = c.loop-run in let x = now.invariant k in
    let below : now.run < c.args.runs = omega (arith, c.loop-run-test.true, k.count.least) in
    omega (arith, below, k.count.most)

pub returns-in_err-found : goal.returns-in_err-found
returns-in_err-found c = let k = known (goal.at.returns-in_err-found c).In_ok-early_checks in let now = c.loop-run in let x = now.invariant k in
    let below : now.run < c.args.runs = omega (arith, c.loop-run-test.true, k.count.least) in
    let checked = turn-checked _ _ _ _ _ _ _ k _ _ c.statement_length-size.ensures x.sized-statement c.put_statement.new.out c.put_statement.auto.out now.run below
    c.put_statement.ensures _ c.pair_at-pair.ensures _ _ _ _ c.in_err-found.ensures in
    let p = err_from_is_err_and c.from_residual-in_err-found.result c.from_residual-in_err-found.ensures.1 in
    rw (p.1, p.2)
    (answered-first _ _ _ _ _ _ _ k.passed c.check_run.new.work
    (zeros-now _ _ _ _ _ _ _ k now.work now.statement now.openings now.best now.run below x _ now.statement _ _ checked) (now.run + 1) _ (omega (arith, below))
    (verdict-next _ c.args.runs _ (messages c.args.second) _ now.run x.progress.first ∙ checked.found))

pub loop-run-preserved : goal.loop-run-preserved
loop-run-preserved c = λ k. let now = c.loop-run in let x = now.invariant k in
    let below : now.run < c.args.runs = omega (arith, c.loop-run-test.true, k.count.least) in
    let checked = turn-checked _ _ _ _ _ _ _ k _ _ c.statement_length-size.ensures x.sized-statement c.put_statement.new.out c.put_statement.auto.out now.run below
    c.put_statement.ensures _ c.pair_at-pair.ensures _ _ _ _ c.in_ok-found.ensures in
    rw c.better-best.ensures
    (loop-turns _ _ _ _ _ _ _ k now.work now.statement now.openings now.best now.run below x _ _ _ c.in_ok-found.found checked c.check_run.auto.work
    (statement-whole _ _ _ _ _ _ _ k _ _ c.statement_length-size.ensures x.sized-statement c.put_statement.new.out c.put_statement.auto.out)
    (c.check_run.auto.openings ∙ x.sized-openings))

-- ---- after the last run

pub returns-in_err-best : goal.returns-in_err-best
returns-in_err-best c = let k = known (goal.at.returns-in_err-best c).In_ok-early_checks in let now = c.loop-run in
    let x = loop-ends _ _ _ _ _ _ _ k now.work now.statement now.openings now.best now.run
    (omega (arith, now.auto.run-end, k.count.least)) c.loop-run-test.false (now.invariant k) in
    let p = err_from_is_err_and c.from_residual-in_err-best.result c.from_residual-in_err-best.ensures.1 in
    rw (p.1, p.2) (answered-second _ _ _ _ _ _ _ k.passed now.work (x.zeros k.count.least) now.best x.progress _ c.in_err-best.was)

pub returns-in-Some : goal.returns-in-Some
returns-in-Some c = let k = known (goal.at.returns-in-Some c).In_ok-early_checks in let now = c.loop-run in
    let x = loop-ends _ _ _ _ _ _ _ k now.work now.statement now.openings now.best now.run
    (omega (arith, now.auto.run-end, k.count.least)) c.loop-run-test.false (now.invariant k) in
    rw (c.layer.ensures, c.number.ensures)
    (answered-pair _ _ _ _ _ _ _ k.passed now.work (x.zeros k.count.least) now.best x.progress c.in_ok-best.was _ _ c.in-Some.is)

pub write_outputs-requires : goal.write_outputs-requires
write_outputs-requires c = let k = known (goal.at.write_outputs-requires c).In_ok-early_checks in let now = c.loop-run in
    let x = loop-ends _ _ _ _ _ _ _ k now.work now.statement now.openings now.best now.run
    (omega (arith, now.auto.run-end, k.count.least)) c.loop-run-test.false (now.invariant k) in
    outputs-asked _ _ _ _ _ _ _ k now.work now.statement now.openings now.best x

pub extracted-requires : goal.extracted-requires
extracted-requires c = let k = known (goal.at.extracted-requires c).In_ok-early_checks in
    record { same = k.first.size4 ∙ sym k.second.size4; few = omega (arith, k.first.size4, k.count.most) }

pub returns : goal.returns
returns c = let k = known (goal.at.returns c).In_ok-early_checks in let now = c.loop-run in
    let x = loop-ends _ _ _ _ _ _ _ k now.work now.statement now.openings now.best now.run
    (omega (arith, now.auto.run-end, k.count.least)) c.loop-run-test.false (now.invariant k) in
    let low = lowest-inside _ _ _ _ _ _ _ k.passed now.work (x.zeros k.count.least) now.best x.progress k in
    rw (c.ok_or.ensures.value, c.extracted.ensures, extracted-some _ _ low)
    (filled _ _ _ _ _ _ _ k.passed now.work (x.zeros k.count.least) now.best x.progress k c.in_ok-best.was c.in_default.is c.write_outputs.new.out
    (c.write_outputs.ensures
    ∙ written_is _ _ _ k.message1 (omega (arith, k.first.size1)) _ k.first.size4 (lies _ _ _ _ _ _ _ k) (lies' _ _ _ _ _ _ _ k) c.args.out.now))
