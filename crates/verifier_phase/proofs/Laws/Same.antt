-- What `==` says of two phases: whether their places in the order are the same.
--
-- same-step   a phase compared with another
use Rattle.std.specs.Prelude.{◌≡◌, refl, eqb}
use denote.Enum.Bare.{sameb}
use Rattle.verifier_phase.specs.declared.Phase.{Phase}
use Rattle.verifier_phase.specs.declared.Phase.TheVariants.{Fresh, Begun, Pointed, Responded, Chosen, Closed}
use Rattle.verifier_phase.specs.contracts.Phase.{the_type}
use Rattle.verifier_phase.specs.Phases.{step}

pub same-step : (f g : Phase) → sameb the_type f g ≡ eqb (step f) (step g)
same-step Fresh Fresh = refl
same-step Fresh Begun = refl
same-step Fresh Pointed = refl
same-step Fresh Responded = refl
same-step Fresh Chosen = refl
same-step Fresh Closed = refl
same-step Begun Fresh = refl
same-step Begun Begun = refl
same-step Begun Pointed = refl
same-step Begun Responded = refl
same-step Begun Chosen = refl
same-step Begun Closed = refl
same-step Pointed Fresh = refl
same-step Pointed Begun = refl
same-step Pointed Pointed = refl
same-step Pointed Responded = refl
same-step Pointed Chosen = refl
same-step Pointed Closed = refl
same-step Responded Fresh = refl
same-step Responded Begun = refl
same-step Responded Pointed = refl
same-step Responded Responded = refl
same-step Responded Chosen = refl
same-step Responded Closed = refl
same-step Chosen Fresh = refl
same-step Chosen Begun = refl
same-step Chosen Pointed = refl
same-step Chosen Responded = refl
same-step Chosen Chosen = refl
same-step Chosen Closed = refl
same-step Closed Fresh = refl
same-step Closed Begun = refl
same-step Closed Pointed = refl
same-step Closed Responded = refl
same-step Closed Chosen = refl
same-step Closed Closed = refl
