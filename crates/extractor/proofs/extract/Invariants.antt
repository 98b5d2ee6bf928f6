-- Each return has the answers of the steps before it (`Given.Laws`); the loop over the runs keeps what they give so far (`Loop`).
use Rattle.shake256.specs.Fips.{SHAKE256}
use Rattle.exchange.specs.Values.{key_of}
use Rattle.extractor.specs.Early.{Early}
use Rattle.extractor.specs.Messages.{messages}
use Rattle.extractor.specs.Loop.{Loop}
use Rattle.extractor.proofs.extract.Given as goal

abbrev pub invariant-loop-run : goal.invariant-loop-run
invariant-loop-run l =
    (known : Early SHAKE256 l.p l.runs (messages l.first) (messages l.second) (key_of l.matrix l.y) l.initial.work l.out)
    → Loop l.p l.runs (messages l.first) (messages l.second) (key_of l.matrix l.y) l.initial.work l.out known l.work
    l.statement l.openings l.best l.run
