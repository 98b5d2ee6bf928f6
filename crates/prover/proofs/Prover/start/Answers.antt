-- The checks refuse and nothing changes, or they pass and the call is carried out with the x that they left.
use Rattle.std.proofs.Common.{List, ap, refl, ℕ, ◌∙◌, ◌≡◌}
use Rattle.shake256.specs.Fips.{SHAKE256}
use Rattle.exchange.specs.Values.{key_of}
use Rattle.calls.specs.Prover.{begin, begin_checks}
use Rattle.prover.specs.Facts.{Begins}
use Rattle.prover.specs.Next.{begun_with}
use Rattle.prover.specs.Carried.{starting, begun-with}
use Rattle.prover.specs.Checks.{refused-call, done-call, begin-facts}
use Rattle.prover.specs.Held.{held}
use Rattle.prover.proofs.Prover.start.Goals as goal
use Rattle.prover.proofs.Prover.start.Goals.{After-begin_checks, In_ok-begin_checks}

-- what the checks answer, of the session
answers : (c : After-begin_checks) → (let a = c.args in c.begin_checks.result
    ≡ begin_checks SHAKE256 (held a.self.now) a.p a.runs a.x_a.now a.salt.now a.root.now (key_of a.matrix.now a.y.now) a.work.now a.out.now)
answers c =
    let a = c.args in
    c.begin_checks.ensures.value (held a.self.now) a.salt.now a.root.now a.work.now a.out.now refl c.repeated-again.ensures

facts : (c : In_ok-begin_checks) → (let a = c.args in Begins a.p a.runs a.x_a.now a.salt.now a.root.now a.matrix.now a.y.now
    a.work.now a.out.now)
facts c =
    let a = c.args in
    begin-facts SHAKE256 (held a.self.now) a.work.now a.out.now (key_of a.matrix.now a.y.now) a.p a.runs a.x_a.now a.salt.now a.root.now _
    (c.begin_checks.ensures.value (held a.self.now) a.salt.now a.root.now a.work.now a.out.now refl c.repeated-again.ensures)
    c.in_ok-begin_checks.was

pub returns-in_err-begin_checks : goal.returns-in_err-begin_checks
unfolding begin
returns-in_err-begin_checks c =
    let a = c.args in
    refused-call _ _ (held a.self.now) a.out.now a.work.now _ _ (answers (goal.at.returns-in_err-begin_checks c).After-begin_checks)
    c.in_err-begin_checks.was c.from_residual.ensures.1

pub begun-requires : goal.begun-requires
begun-requires c =
    let a = c.args in
    starting (held a.self.now) a.p a.runs a.x_a.now a.salt.now a.root.now (key_of a.matrix.now a.y.now) a.work.now a.out.now
    (facts (goal.at.begun-requires c).In_ok-begin_checks) _ (c.begin_checks.ensures.vector c.in_ok-begin_checks.was)

pub returns : goal.returns
unfolding begin
returns c =
    let a = c.args in
    let key = key_of a.matrix.now a.y.now in
    c.begun.ensures
    ∙ ap (λ (x : List ℕ). begun_with a.p a.runs x a.salt.now a.root.now a.work.now) (c.begin_checks.ensures.vector c.in_ok-begin_checks.was)
    ∙ begun-with (held a.self.now) a.p a.runs a.x_a.now a.salt.now a.root.now key a.work.now a.out.now (facts (goal.at.returns c).In_ok-begin_checks)
    ∙ done-call _ _ (held a.self.now) a.out.now a.work.now _ (answers (goal.at.returns c).After-begin_checks) c.in_ok-begin_checks.was
