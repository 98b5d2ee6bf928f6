-- The entry that is read, by the table's rule.
use Rattle.std.proofs.Common.{List, ap, arith, get_or, rules, ℕ, ◌∙◌, ◌≡◌}
use Rattle.bytefield.specs.Tables.{logs, tables-log}
use Rattle.bytefield.specs.Powers.{power}
use Rattle.bytefield.proofs.Laws.Powers.{logs_at, logs-small}
use Rattle.bytefield.proofs.FieldTables.log_of.Goals as goal

pub overflow_cast-result-2 : goal.overflow_cast-result-2
overflow_cast-result-2 c =
    let a = c.args in
    let e : get_or a.self.now.entries a.a 0 ≡ get_or logs a.a 0
    = ap (λ (l : List ℕ). get_or l a.a 0) a.self.now.as_defined ∙ tables-log a.a (search rules) in
    omega (arith, e, logs-small a.a c.requires (search rules))

pub returns : goal.returns
returns c =
    let a = c.args in
    let e : get_or a.self.now.entries a.a 0 ≡ get_or logs a.a 0
    = ap (λ (l : List ℕ). get_or l a.a 0) a.self.now.as_defined ∙ tables-log a.a (search rules) in
    (omega (arith, e, logs-small a.a c.requires (search rules)), ap power e ∙ logs_at a.a c.requires (search rules))
