-- The prover's calls carried out.
--
-- vector-length, begun-with begin carried out, with x at the front of 255 bytes
-- padded-front              x at the front of 255 bytes, read
-- starting                  what begin's checks say, of that x
-- run-count                 how many runs message 3 has room for
-- held-exchanging           a message can be made from what a session holds
-- begun-made, answered-made, opened-made   a call carried out, from what was made for it
use Rattle.std.specs.Prelude.{◌≡◌, List, ℕ, ◌+◌, ◌≤◌, ◌*◌, ◌/◌, length, replicate, take, drop, Ok}
use Rattle.std.proofs.Common.{ap, ◌∙◌, arith, take_at}
use Rattle.lists.specs.Part.{put_at}
use Rattle.lists.specs.Zeroed.{zeroed}
use Rattle.shake256.specs.Fips.{SHAKE256}
use Rattle.parameters.specs.declared.Parameters.{Parameters}
use Rattle.relation.specs.Key.{vector_of}
use Rattle.relation.proofs.Laws.Key.Vector.{length-vector}
use Rattle.layout.specs.Layout.{work_length}
use Rattle.exchange.specs.Values.{Key}
use Rattle.runs.specs.Messages.{message1, message3, message5}
use Rattle.prover_phase.specs.declared.Phase.TheVariants.{Begun}
use Rattle.calls.specs.Prover.{Prover, padded, held_x, held_message2, begun, answered, opened}
use Rattle.messages.specs.EveryRun.{Exchanging}
use Rattle.prover.specs.Facts.{outcome_of, Ready, Begins, Starting}
use Rattle.prover.specs.Next.{next_begun, next_answered, next_closed, begun_with}

-- ---- begin carried out

-- x at the front of 255 bytes
pub padded-front : (n : ℕ) (x : List ℕ) → length x ≡ n → take n (padded 255 x) ≡ x
unfolding put_at
padded-front n x e = take_at x (drop (0 + length x) (replicate 255 0)) n e

module _ (s : Prover) (p : Parameters) (runs : ℕ) (x_a salt root : List ℕ) (key : Key) (work out : List ℕ) where
  pub vector-length : Begins p runs x_a salt root key.matrix key.y work out → length (vector_of key.matrix key.y x_a) ≡ p.m
  vector-length h =
      length-vector key.matrix key.y x_a ∙ (let a = h.sized.x_a-is in let b = h.sized.lent.y-is in omega (arith, h.limits.within))

  pub begun-with : Begins p runs x_a salt root key.matrix key.y work out
      → begun_with p runs (padded 255 (vector_of key.matrix key.y x_a)) salt root work ≡ begun SHAKE256 s p runs x_a salt root key work out
  unfolding begun_with begun
  begun-with h = rw (padded-front p.m (vector_of key.matrix key.y x_a) (vector-length h))

  pub starting : Begins p runs x_a salt root key.matrix key.y work out
      → (x : List ℕ) → x ≡ padded 255 (vector_of key.matrix key.y x_a) → Starting p runs x salt root work out
  starting h x e =
      let front = ap (take p.m) e ∙ padded-front p.m (vector_of key.matrix key.y x_a) (vector-length h) in
      record {
        limits = h.limits;
        light = rw front h.light;
        salt-is = h.sized.salt-is;
        root_is = h.sized.root_is;
        work-fits = h.sized.lent.work-fits;
        out-is = h.sized.out-is;
      }

-- ---- a call carried out, from what was made for it

pub held-exchanging : (s : Prover) → length s.x ≡ 255 → (n : ℕ) (seeds work : List ℕ) → n ≡ s.runs → length seeds ≡ 48 → Ready s → work_length s.parameters ≤ length work
    → Exchanging s.parameters n s.x seeds work
unfolding held_x
held-exchanging s x-is n seeds work en e h fits = record {
  within = h.limits.within;
  runs = record { least = omega (arith, h.limits.counted); most = omega (arith, h.limits.counted) };
  light = h.light;
  x-is = x-is;
  seeds-are = e;
  work-fits = fits;
}

pub run-count : (n l : ℕ) → l ≡ n * 32 → l / 32 ≡ n
run-count n l e = omega arith

pub begun-made : (p : Parameters) (runs : ℕ) (x salt root work : List ℕ) (next : Prover) (out' work' : List ℕ) → next ≡ next_begun Begun p runs x salt root
    → out' ≡ message1 SHAKE256 p runs (take p.m x) salt root → work' ≡ zeroed (work_length p) work
    → outcome_of (Ok tt) next out' work' ≡ begun_with p runs x salt root work
unfolding begun_with
begun-made p runs x salt root work next out' work' e f g = rw (e, f, g)

module _ (s : Prover) (key : Key) (work out : List ℕ) where
  pub answered-made : (message2 : List ℕ) (next : Prover) (out' work' : List ℕ) → next ≡ next_answered s message2
      → out' ≡ message3 SHAKE256 s.parameters s.runs (held_x s) s.salt s.root key message2 → work' ≡ zeroed (work_length s.parameters) work
      → outcome_of (Ok tt) next out' work' ≡ answered SHAKE256 s message2 key work out
  unfolding answered
  answered-made message2 next out' work' e f g = rw (e, f, g)

  pub opened-made : (is : List ℕ) (next : Prover) (out' work' : List ℕ) → next ≡ next_closed s
      → out' ≡ message5 SHAKE256 s.parameters s.runs (held_x s) s.salt s.root key (held_message2 s) is
      → work' ≡ zeroed (work_length s.parameters) work → outcome_of (Ok tt) next out' work' ≡ opened SHAKE256 s is key work out
  unfolding opened
  opened-made is next out' work' e f g = rw (e, f, g)
