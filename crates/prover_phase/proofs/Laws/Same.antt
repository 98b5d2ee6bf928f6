-- What `==` says of two phases: the test of each phase.
--
-- same-begun, same-answered, same-closed   a phase compared with this one
use Rattle.std.specs.Prelude.{◌≡◌, refl}
use denote.Enum.Bare.{sameb}
use Rattle.prover_phase.specs.declared.Phase.{Phase}
use Rattle.prover_phase.specs.declared.Phase.TheVariants.{Fresh, Begun, Answered, Closed}
use Rattle.prover_phase.specs.contracts.Phase.{the_type}
use Rattle.prover_phase.specs.Phases.{is_begun, is_answered, is_closed}

pub same-begun : (f : Phase) → sameb the_type f Begun ≡ is_begun f
same-begun Fresh = refl
same-begun Begun = refl
same-begun Answered = refl
same-begun Closed = refl

pub same-answered : (f : Phase) → sameb the_type f Answered ≡ is_answered f
same-answered Fresh = refl
same-answered Begun = refl
same-answered Answered = refl
same-answered Closed = refl

pub same-closed : (f : Phase) → sameb the_type f Closed ≡ is_closed f
same-closed Fresh = refl
same-closed Begun = refl
same-closed Answered = refl
same-closed Closed = refl
