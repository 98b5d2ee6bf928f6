-- The session after a call that is carried out.
--
-- next_begun f p runs x salt root  begin: a new exchange, x in 255 bytes, in the phase f
-- next_answered s message2    points: message 2 is held, at the front of its place
-- next_closed s               leaf: 'Closing changes nothing else that a session holds'
-- begun_with                  begin carried out, with x at the front of 255 bytes
-- begun_held, answered_held   the session whose fields were changed in place
use Rattle.std.specs.Prelude.{◌≡◌, List, ℕ, replicate, take}
use Rattle.lists.specs.Part.{put_at}
use Rattle.lists.specs.Zeroed.{zeroed}
use Rattle.shake256.specs.Fips.{SHAKE256}
use Rattle.parameters.specs.declared.Parameters.{Parameters}
use Rattle.layout.specs.Layout.{work_length}
use Rattle.layout.specs.Maxima.{most_messages2}
use Rattle.runs.specs.Messages.{message1}
use Rattle.prover_phase.specs.declared.Phase.{Phase}
use Rattle.prover_phase.specs.declared.Phase.TheVariants.{Begun, Answered, Closed}
use Rattle.calls.specs.Prover.{Prover, Outcome}

abbrev pub next_begun : Phase → Parameters → ℕ → List ℕ → List ℕ → List ℕ → Prover
next_begun f p runs x salt root =
    record { phase = f; parameters = p; runs = runs; x = x; salt = salt; root = root; message2 = replicate most_messages2 0 }

abbrev pub next_answered : Prover → List ℕ → Prover
next_answered s message2 = record {
  phase = Answered;
  parameters = s.parameters;
  runs = s.runs;
  x = s.x;
  salt = s.salt;
  root = s.root;
  message2 = put_at s.message2 0 message2;
}

abbrev pub next_closed : Prover → Prover
next_closed s = record {
  phase = Closed;
  parameters = s.parameters;
  runs = s.runs;
  x = s.x;
  salt = s.salt;
  root = s.root;
  message2 = s.message2;
}

unfoldable pub begun_with : Parameters → ℕ → List ℕ → List ℕ → List ℕ → List ℕ → Outcome
begun_with p runs x salt root work = record {
  answer = 0;
  prover = next_begun Begun p runs x salt root;
  out = message1 SHAKE256 p runs (take p.m x) salt root;
  work = zeroed (work_length p) work;
}

pub begun_held : (p : Parameters) (runs : ℕ) (x : List ℕ) {salt root message2 salt' root' : List ℕ} → salt' ≡ salt → root' ≡ root → message2 ≡ replicate most_messages2 0
    → record { phase = Begun; parameters = p; runs = runs; x = x; salt = salt'; root = root'; message2 = message2 } ≡ next_begun Begun p runs x salt root
begun_held p runs x e f g = rw (e, f, g)

pub answered_held : (s : Prover) (m : List ℕ) {message2 : List ℕ} → message2 ≡ put_at s.message2 0 m
    → record { phase = Answered; parameters = s.parameters; runs = s.runs; x = s.x; salt = s.salt; root = s.root; message2 = message2 } ≡ next_answered s m
answered_held s m e = rw e
