-- Each return follows from the place that led to it.
use Rattle.std.proofs.Common.{arith, eq-eqb, ne_eqb}
use Rattle.keytext.specs.Scan.{accepted}
use Rattle.keytext.proofs.KeyScan.accepts.Goals as goal

pub returns-in-0-default : goal.returns-in-0-default
unfolding accepted
returns-in-0-default c = rw (eq-eqb c.args.self.field 0 (omega arith)) c.accepts_word.ensures

pub returns-in_default-eq0 : goal.returns-in_default-eq0
unfolding accepted
returns-in_default-eq0 c = let s = c.args.self in rw (ne_eqb s.field 0 (omega arith), eq-eqb s.line 0 (omega arith)) c.accepts.ensures

pub returns-in_default : goal.returns-in_default
unfolding accepted
returns-in_default c = let s = c.args.self in rw (ne_eqb s.field 0 (omega arith), ne_eqb s.line 0 (omega arith)) c.accepts-in_default.ensures
