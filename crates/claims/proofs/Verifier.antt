-- The verifier's opening past the checks that stand before 5 in the order.
--
-- opening-closes        it gets the verdict's number, closes the session, changes nothing else that it holds ('Closing changes nothing else that
--                       a session holds'), and leaves the named length of the work area zeros
use Rattle.std.specs.Prelude.{◌≡◌, List, ℕ, Ok}
use Rattle.lists.specs.Zeroed.{zeroed}
use Rattle.answers.specs.Number.{answer_number}
use Rattle.layout.specs.Layout.{work_length}
use Rattle.exchange.specs.Values.{Key}
use Rattle.runs.specs.Opening.{verdict}
use Rattle.calls.specs.Verifier.{Verifier, ended, held_transcript, opening_checks, judge, opening}

pub opening-closes : (hash : List ℕ → ℕ → List ℕ) (s : Verifier) (m5 : List ℕ) (key : Key) (work : List ℕ)
    → opening_checks hash s m5 key work ≡ Ok tt
    → opening hash s m5 key work
    ≡ record {
      answer = answer_number (verdict hash s.parameters s.runs (held_transcript s m5) key);
      verifier = ended s;
      work = zeroed (work_length s.parameters) work;
    }
unfolding opening judge
opening-closes hash s m5 key work e = rw e
