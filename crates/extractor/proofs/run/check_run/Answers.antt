-- Each half is lent to one opening; both come back, and what they hold is compared (`run-checked`).
use Rattle.std.proofs.Common.{arith, subst, sym, ◌∙◌}
use Rattle.std.proofs.lemmas.Result.{err_from_is_err_and}
use Rattle.layout.specs.Layout.Bounds.{opened-most}
use Rattle.exchange.specs.Values.{key_of}
use Rattle.openings.specs.Statement.{exchange_in}
use Rattle.extractor.specs.Pairs.{message_in, length-message}
use Rattle.extractor.specs.Judged.{Judged}
use Rattle.extractor.specs.Run.Laws.{front-long, back-long, first-half, second-half, run-checked}
use Rattle.extractor.proofs.run.check_run.Goals as goal

pub slice_bounds-judge-end-3 : goal.slice_bounds-judge-end-3
slice_bounds-judge-end-3 c = sym (front-long c.args.openings.now c.requires.compared.room)

pub judge-requires : goal.judge-requires
judge-requires c = let q = c.requires.compared in
    record {
      within = q.within;
      sized-statement = omega (arith, q.sized-statement);
      below = q.first.below;
      sized-message5 = length-message c.args.pair.p c.args.pair.first c.args.first5.now q.first;
      lent = c.requires.lent;
      room = omega (arith, front-long c.args.openings.now q.room, opened-most c.args.pair.p q.within);
    }

pub returns-in_err-judge : goal.returns-in_err-judge
returns-in_err-judge c = let p = err_from_is_err_and c.from_residual.result c.from_residual.ensures.1 in
    rw (p.1, p.2) (record { zeros = c.judge.ensures.zeros; found = sym c.judge.ensures.checked.answer ∙ c.in_err-judge.was })

pub judge-verdict-requires : goal.judge-verdict-requires
judge-verdict-requires c = let q = c.requires.compared in
    record {
      within = q.within;
      sized-statement = omega (arith, q.sized-statement);
      below = q.second.below;
      sized-message5 = length-message c.args.pair.p c.args.pair.second c.args.second5.now q.second;
      lent = record {
        matrix-is = c.requires.lent.matrix-is;
        y-is = c.requires.lent.y-is;
        work-fits = omega (arith, c.requires.lent.work-fits, c.judge.auto.work);
      };
      room = omega (arith, back-long c.args.openings.now c.judge.new.opened q.room c.judge.auto.opened, opened-most c.args.pair.p q.within);
    }

pub returns : goal.returns
returns c = let a = c.args in let q = c.requires.compared in
    let o = a.openings.now in let one = c.judge.new.opened in let two = c.judge-verdict.new.opened in
    let j = subst (Judged a.pair.p (exchange_in a.pair.p a.statement.now a.pair.first.leaf (message_in a.pair.first a.first5.now))
    (key_of a.matrix.now a.y.now) a.work.now _ c.judge.result c.judge.new.work)
    (first-half o one q.room c.judge.auto.opened two c.judge-verdict.auto.opened) c.judge.ensures in
    let j' = subst (Judged a.pair.p (exchange_in a.pair.p a.statement.now a.pair.second.leaf (message_in a.pair.second a.second5.now))
    (key_of a.matrix.now a.y.now) c.judge.new.work _ c.judge-verdict.result c.judge-verdict.new.work)
    (second-half o one q.room c.judge.auto.opened two c.judge-verdict.auto.opened) c.judge-verdict.ensures in
    run-checked a.pair a.statement.now a.first5.now a.second5.now (key_of a.matrix.now a.y.now) q.within q.first q.second
    _ j j' c.in_ok-judge.was c.compare_run-difference.result c.compare_run-difference.ensures
