-- The messages held make the statement of the run, and what is lent has the lengths that the check asks.
use Rattle.std.proofs.Common.{List, ap, arith, drop, length, length-append, length-take-le, replicate, sym, take, take_at, ℕ, ◌*◌, ◌++◌, ◌+◌, ◌∙◌, ◌≡◌, ◌≤◌}
use Rattle.lists.specs.Part.{part}
use Rattle.lists.specs.Part.Laws.{length_part, part-fits}
use Rattle.shake256.specs.Fips.{SHAKE256}
use Rattle.layout.specs.Layout.{message2_length}
use Rattle.layout.specs.Layout.Bounds.{opened-most}
use Rattle.layout.specs.Maxima.{most_opened, most_statement, most_runs}
use Rattle.layout.specs.Runs.Laws.{messages2-most}
use Rattle.exchange.specs.Opening.{verdict}
use Rattle.exchange.specs.Values.{key_of}
use Rattle.openings.specs.Statement.{exchange_in}
use Rattle.verifier.specs.Held.{message1_in, message2_in, message3_in}
use Rattle.verifier.specs.Judging.{run_in}
use Rattle.verifier.proofs.judge.judge_run.Goals as goal
use Rattle.verifier.proofs.judge.judge_run.Goals.{After-put_statement, After-statement_length-stated, Start}

stated-fit : (c : After-statement_length-stated) → c.statement_length-stated.result ≤ most_statement
stated-fit c =
    omega (arith, c.statement_length-stated.ensures, c.requires.within.t-most)

points-reach : (c : Start) → c.args.run * message2_length c.args.p + message2_length c.args.p ≤ 2_048
points-reach c =
    let most = messages2-most c.args.p c.requires.within most_runs (omega arith) in
    omega (arith, part-fits c.args.run most_runs (message2_length c.args.p) c.requires.few, most)

length-made : (c : After-put_statement) → length (c.put_statement.new.out) ≡ c.statement_length-stated.result
length-made c =
    let stated-fit : c.statement_length-stated.result ≤ most_statement = omega (arith, c.statement_length-stated.ensures, c.requires.within.t-most) in
    c.put_statement.auto.out ∙ length-take-le _ _ (stated-fit)

lent_is : (c : After-put_statement) → (let n = c.statement_length-stated.result in take n (c.put_statement.new.out ++ drop n (replicate most_statement 0))) ≡ c.put_statement.new.out
lent_is c =
    let stated-fit : c.statement_length-stated.result ≤ most_statement = omega (arith, c.statement_length-stated.ensures, c.requires.within.t-most) in
    let length-made : length (c.put_statement.new.out) ≡ c.statement_length-stated.result = c.put_statement.auto.out ∙ length-take-le _ _ (stated-fit) in
    take_at (c.put_statement.new.out) _ _ (length-made)

length-lent : (c : After-put_statement) → length ((let n = c.statement_length-stated.result in take n (c.put_statement.new.out ++ drop n (replicate most_statement 0)))) ≡ c.statement_length-stated.result
length-lent c =
    let stated-fit : c.statement_length-stated.result ≤ most_statement = omega (arith, c.statement_length-stated.ensures, c.requires.within.t-most) in
    let length-made : length (c.put_statement.new.out) ≡ c.statement_length-stated.result = c.put_statement.auto.out ∙ length-take-le _ _ (stated-fit) in
    let stated-fit : c.statement_length-stated.result ≤ most_statement = omega (arith, c.statement_length-stated.ensures, c.requires.within.t-most) in
    let length-made : length (c.put_statement.new.out) ≡ c.statement_length-stated.result = c.put_statement.auto.out ∙ length-take-le _ _ (stated-fit) in
    let lent_is : (let n = c.statement_length-stated.result in take n (c.put_statement.new.out ++ drop n (replicate most_statement 0))) ≡ c.put_statement.new.out = take_at (c.put_statement.new.out) _ _ (length-made) in
    ap length (lent_is) ∙ length-made

given-fits : (c : After-put_statement) → c.opened_length-given.result ≤ most_opened
given-fits c =
    omega (arith, c.opened_length-given.ensures, opened-most c.args.p c.requires.within)

pub slice_bounds-put_statement-end : goal.slice_bounds-put_statement-end
slice_bounds-put_statement-end c = let sized = c.requires.sized-messages in
    sym (length-take-le 1_056 c.args.messages.now (omega arith))

pub slice_bounds-put_statement-end-4 : goal.slice_bounds-put_statement-end-4
slice_bounds-put_statement-end-4 c = sym (length-take-le _ _ (stated-fit (goal.at.slice_bounds-put_statement-end-4 c).After-statement_length-stated))

pub put_statement-requires : goal.put_statement-requires
unfolding part
put_statement-requires c = let m = c.args.messages.now in
    let sized = c.requires.sized-messages in
    record {
      within = c.requires.within;
      few = c.requires.few;
      reaches-message1 = omega (arith, length-take-le 1_056 m (omega arith), c.requires.few);
      reaches-message2 = omega (arith, length_part m 1_056 2_048 (omega arith), points-reach (goal.at.put_statement-requires c).Start);
      reaches-message3 = omega (arith, length_part m 3_104 1_024 (omega arith), c.requires.few);
      room = length-take-le _ _ (stated-fit (goal.at.put_statement-requires c).After-statement_length-stated) ∙ c.statement_length-stated.ensures;
    }

pub slice_bounds-statement-end-2 : goal.slice_bounds-statement-end-2
slice_bounds-statement-end-2 c = omega (arith, length-made (goal.at.slice_bounds-statement-end-2 c).After-put_statement, length-append (c.put_statement.new.out) (drop c.statement_length-stated.result (replicate most_statement 0)))

pub slice_bounds-check_opening-end : goal.slice_bounds-check_opening-end
slice_bounds-check_opening-end c = sym (length-lent (goal.at.slice_bounds-check_opening-end c).After-put_statement)

pub slice_bounds-opened-end : goal.slice_bounds-opened-end
slice_bounds-opened-end c = given-fits (goal.at.slice_bounds-opened-end c).After-put_statement

pub slice_bounds-check_opening-end-2 : goal.slice_bounds-check_opening-end-2
slice_bounds-check_opening-end-2 c = sym (length-take-le _ _ (given-fits (goal.at.slice_bounds-check_opening-end-2 c).After-put_statement))

pub check_opening-requires : goal.check_opening-requires
check_opening-requires c = record {
  within = c.requires.within;
  sized-statement = omega (arith, length-lent (goal.at.check_opening-requires c).After-put_statement, c.statement_length-stated.ensures);
  below = c.requires.below;
  sized-message5 = c.requires.sized-message5;
  sized-matrix = c.requires.sized-matrix;
  sized-y = c.requires.sized-y;
  sized-work = c.requires.sized-work;
  sized-opened = length-take-le _ _ (given-fits (goal.at.check_opening-requires c).After-put_statement) ∙ c.opened_length-given.ensures;
}

pub returns : goal.returns
unfolding run_in message1_in message2_in message3_in part
returns c = record {
  value = c.check_opening.ensures.answer
      ∙ ap (λ (l : List ℕ). verdict SHAKE256 c.args.p (exchange_in c.args.p l c.args.leaf c.args.message5.now)
      (key_of c.args.matrix.now c.args.y.now)) (lent_is (goal.at.returns c).After-put_statement ∙ c.put_statement.ensures);
  work_after = c.check_opening.ensures.zeros;
}
