-- A session in a buffer goes on as the session that its bytes are does, call by call.
--
-- Follows r o                 r answers what o answers and gives what o gives, and its bytes are o's session
-- new-follows, new-size       a fresh session's bytes are one
-- begin-follows, points-follows, leaf-follows   each call does
use Rattle.std.specs.Prelude.{◌≡◌, not, ◌&&◌, List, ℕ, ◌≤◌, replicate, Ok, Err}
use Rattle.std.proofs.Math.Path.{refl, ap}
use Rattle.std.proofs.Common.{◌∙◌, arith}
use Rattle.std.proofs.Math.ListN.{length}
use Rattle.std.proofs.lemmas.List.{length-replicate}
use borrow.Author.Tests.{eqb-true}
use Rattle.lists.specs.Checks.{all_true}
use Rattle.lists.specs.Checks.Laws.{all-at, and_left}
use Rattle.lists.specs.Part.{put_at}
use Rattle.lists.specs.Part.Laws.{length_part, length-put_at}
use Rattle.answers.specs.Number.{refusal_number}
use Rattle.answers.specs.Number.Laws.{refused-not-0}
use Rattle.answers.specs.Answer.{Answer}
use Rattle.answers.specs.declared.Refusal.TheVariants.{Parameter, Length, NotDue, Closed as ExchangeClosed}
use Rattle.answers.specs.Checks.Laws.{check-true, check-rest}
use Rattle.parameters.specs.declared.Parameters.{Parameters}
use Rattle.parameters.specs.Limits.{within_limits}
use Rattle.parameters.specs.Limits.Laws.{test-within}
use Rattle.relation.specs.Key.{vector_of}
use Rattle.relation.proofs.Laws.Key.Vector.{length-vector}
use Rattle.shake256.specs.Fips.{SHAKE256}
use Rattle.layout.specs.Layout.{y_length}
use Rattle.layout.specs.Maxima.{most_messages2}
use Rattle.layout.specs.Runs.{runs_within, messages2_length}
use Rattle.layout.specs.Runs.Laws.{messages2-most}
use Rattle.exchange.specs.Values.{Key}
use Rattle.calls.specs.Lengths.{begin_lengths, points_lengths}
use Rattle.calls.specs.Prover.{Prover, Outcome as Called, fresh, settle, closed, points_due, begin, begin_checks, begun, points, points_checks, answered, leaf, leaf_checks, opened}
use Rattle.prover.specs.Checks.{points-ready}
use Rattle.stored.specs.Prover.{prover_size, prover_bytes, prover_from}
use Rattle.stored.proofs.Laws.Prover.{ProverLengths, length-prover_bytes, prover-back}
use Rattle.capi.specs.Session.{prover_new}
use Rattle.stored.proofs.Laws.Buffer.{fits-so, refused-stays}
use Rattle.capi.specs.Prover.{Outcome, prover_after, prover_call, prover_begin, prover_points, prover_leaf}

pub record Follows (r : Outcome) (o : Called) : Type 0 where
  pub number : r.number ≡ o.answer
  pub session : prover_from r.session ≡ o.prover
  pub size : length r.session ≡ prover_size
  pub out : r.out ≡ o.out
  pub work : r.work ≡ o.work

front : (n : ℕ) (v : List ℕ) → length v ≤ n → length (put_at (replicate n 0) 0 v) ≡ n
front n v h =
    let l : length (replicate {A = ℕ} n 0) ≡ n = length-replicate n 0 in
    length-put_at (replicate n 0) 0 v (omega arith) ∙ l

module _ (b : List ℕ) (size : length b ≡ prover_size) where
  abbrev s : Prover
  s = prover_from b

  read-lengths : ProverLengths s
  unfolding prover_from
  read-lengths = record {
    x = length_part b 7 255 (omega arith);
    salt = length_part b 262 32 (omega arith);
    root = length_part b 294 16 (omega arith);
    message2 = length_part b 310 most_messages2 (omega arith);
  }

  pub new-follows : prover_from (prover_new b).session ≡ fresh
  unfolding fresh
  new-follows = rw (← fits-so b prover_size _ _ size) (prover-back fresh (record { x = refl; salt = refl; root = refl; message2 = refl }))

  pub new-size : length (prover_new b).session ≡ prover_size
  unfolding fresh
  new-size = rw (← fits-so b prover_size _ _ size) (length-prover_bytes fresh (record { x = refl; salt = refl; root = refl; message2 = refl }))

  -- ---- any call

  settle-follows : (a : Answer) (out work : List ℕ) (done : Called) → done.answer ≡ 0 → (a ≡ Ok tt → ProverLengths done.prover)
      → Follows (prover_after b (settle a s out work done)) (settle a s out work done)
  unfolding prover_after
  settle-follows (Ok _) out work done d lengths = record {
    number = refl;
    session = rw d (prover-back done.prover (lengths refl));
    size = rw d (length-prover_bytes done.prover (lengths refl));
    out = refl;
    work = refl;
  }
  settle-follows (Err r) out work done d lengths =
      let stays = refused-stays (refusal_number r) b (prover_bytes s) (refused-not-0 r) in
      record { number = refl; session = ap prover_from stays; size = ap length stays ∙ size; out = refl; work = refl }

  call-follows : (n : ℕ) (work out : List ℕ) (call : Prover → Called) → Follows (prover_after b (call s)) (call s) → Follows (prover_call b n work out call) (call s)
  unfolding prover_call
  call-follows n work out call h = rw (← fits-so b prover_size (prover_after b (call s)) _ size) h

  -- ---- begin

  module _ (p : Parameters) (runs : ℕ) (x_a salt root : List ℕ) (key : Key) (work out : List ℕ) where
    begun-lengths : begin_checks SHAKE256 s p runs x_a salt root key work out ≡ Ok tt → ProverLengths (begun SHAKE256 s p runs x_a salt root key work out).prover
    unfolding begin_checks begun
    begun-lengths e =
        let both = check-true (within_limits p && runs_within runs) Parameter _ e in
        let within = test-within p (and_left (within_limits p) (runs_within runs) both) in
        let tests = begin_lengths p runs x_a salt root key work out in
        let so = all-at tests (check-true (all_true tests) Length _ (check-rest (within_limits p && runs_within runs) Parameter _ e)) in
        let k = eqb-true (length x_a) p.k (so 0) in
        let y = eqb-true (length key.y) (y_length p) (so 5) in
        let v = length-vector key.matrix key.y x_a in
        record {
          x = front 255 (vector_of key.matrix key.y x_a) (omega arith);
          salt = eqb-true (length salt) 32 (so 1);
          root = eqb-true (length root) 16 (so 2);
          message2 = refl;
        }

    pub begin-follows : Follows (prover_begin b p runs x_a salt root key work out) (begin SHAKE256 s p runs x_a salt root key work out)
    unfolding begin begun
    begin-follows =
        call-follows _ work out (λ z. begin SHAKE256 z p runs x_a salt root key work out)
        (settle-follows (begin_checks SHAKE256 s p runs x_a salt root key work out) out work (begun SHAKE256 s p runs x_a salt root key work out) refl begun-lengths)

  -- ---- points and leaf

  module _ (m2 : List ℕ) (key : Key) (work out : List ℕ) where
    answered-lengths : points_checks SHAKE256 s m2 key work out ≡ Ok tt → ProverLengths (answered SHAKE256 s m2 key work out).prover
    unfolding points_checks answered
    answered-lengths e =
        let open-still = check-rest (not (closed s)) ExchangeClosed _ e in
        let ready = points-ready s (check-true (points_due s) NotDue _ open-still) in
        let tests = points_lengths s.parameters s.runs m2 key work out in
        let passed = check-true (all_true tests) Length _ (check-rest (points_due s) NotDue _ open-still) in
        let long = eqb-true (length m2) (messages2_length s.parameters s.runs) (all-at tests passed 0) in
        let most = messages2-most s.parameters ready.limits.within s.runs ready.limits.counted.most in
        let held = read-lengths.message2 in
        record {
          x = read-lengths.x;
          salt = read-lengths.salt;
          root = read-lengths.root;
          message2 = length-put_at s.message2 0 m2 (omega arith) ∙ held;
        }

    pub points-follows : Follows (prover_points b m2 key work out) (points SHAKE256 s m2 key work out)
    unfolding points answered
    points-follows =
        call-follows _ work out (λ z. points SHAKE256 z m2 key work out)
        (settle-follows (points_checks SHAKE256 s m2 key work out) out work (answered SHAKE256 s m2 key work out) refl answered-lengths)

  pub leaf-follows : (is : List ℕ) (key : Key) (work out : List ℕ) → Follows (prover_leaf b is key work out) (leaf SHAKE256 s is key work out)
  unfolding leaf opened
  leaf-follows is key work out =
      call-follows _ work out (λ z. leaf SHAKE256 z is key work out)
      (settle-follows (leaf_checks SHAKE256 s is key work out) out work (opened SHAKE256 s is key work out) refl
      (λ e. record { x = read-lengths.x; salt = read-lengths.salt; root = read-lengths.root; message2 = read-lengths.message2 }))
