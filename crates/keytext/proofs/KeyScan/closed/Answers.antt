-- Each part is what its function answers.
use Rattle.std.proofs.Common.{◌&&◌, ◌≡◌, ◌∙◌}
use Rattle.keytext.specs.Scan.{accepted, closed}
use Rattle.keytext.proofs.KeyScan.closed.Goals as goal
use Rattle.keytext.proofs.KeyScan.closed.Goals.{then-self, else-self}

pub returns : goal.returns
unfolding closed
returns c =
    let s = c.args.self in
    let e : c.if-self.result ≡ (s.sound && accepted s) =
    elim c.if-self.branch [ then-self w ↦ w.result-is ∙ w.accepts.ensures ∙ rw (w.if-self.true) | else-self w ↦ w.result-is ∙ rw (w.if-self.false) ] in
    rw (e, c.new.ensures, c.new-2.ensures, c.new-3.ensures, c.numbers_kept.ensures, c.lengths_kept.ensures)
