-- The laws of messages that are made run after run.
--
-- arrays-of             what a run of the exchange asks for
-- Cleared n e w₀ w      the work area w₀ after e runs: they zero its first n bytes
-- cleared-none, -more   run after run
-- Placed s d₀ d at      s was written to the first `at` places of d₀, the rest is as it was
-- placed-none, -front, -behind   no part yet; what stands at the front; no part yet behind it
-- placed-turn, turn-kept         one part more, at its place; the whole keeps its length
-- placed-next                    one part more, where the place behind it is told otherwise
-- prefix-digest         h of run e
-- points-inside, -next  where message 2 of run e stands
-- response e, opening is e       messages 3 and 5 of run e
-- response-turn, opening-turn    so a run gives them
-- message1-made, message3-made, message5-made   the messages when all runs are through
use Rattle.std.specs.Prelude.{◌≡◌, refl, List, [], ◌∷◌, ◌++◌, ℕ, ◌+◌, ◌-◌, ◌*◌, ◌<◌, ◌≤◌, length, take, drop, replicate}
use Rattle.std.proofs.Common.{sym, ap, ap₂, ◌∙◌, append_assoc, append-nil, le_refl, suc-mul, add-one, arith, length-append, length-take, length-drop, drop_of_length-le, take_at, drop_at, drop-drop}
use Rattle.std.proofs.lemmas.List.{length-replicate}
use Rattle.lists.specs.Part.{part, put_at}
use Rattle.lists.specs.Part.Laws.{lent-part, part-fits}
use Rattle.lists.specs.Zeroed.{zeroed}
use Rattle.points.specs.Written.{middle-kept}
use Rattle.shake256.specs.Fips.{SHAKE256}
use Rattle.parameters.specs.declared.Parameters.{Parameters}
use Rattle.layout.specs.Layout.{message2_length, prefix_length}
use Rattle.exchange.specs.Run.{Run}
use Rattle.exchange.specs.Sequences.{joined}
use Rattle.exchange.specs.Values.{Key}
use Rattle.exchange.specs.Messages as run
use Rattle.runs.specs.Run.{run_prefix, run_at}
use Rattle.runs.specs.Messages.{message2_at, leaf_at, digest_of, message1, message3, message5}
use Rattle.messages.specs.Asked.{Arrays}
use Rattle.messages.specs.EveryRun.{Exchanging}
use Rattle.messages.proofs.Laws.Fronts.{front-zeroed}

pub arrays-of : (p : Parameters) (n : ℕ) (x seeds work r w : List ℕ) → Exchanging p n x seeds work → length r ≡ 49 → length w ≡ length work → Arrays p x r w
arrays-of p n x seeds work r w h lr lw =
    record { within = h.within; light = h.light; x-is = h.x-is; run_fits = omega arith; work-fits = let f = h.work-fits in omega arith }

-- ---- the work area

pub record Cleared (n e : ℕ) (w₀ w : List ℕ) : Type 0 where
  pub same : zeroed n w ≡ zeroed n w₀
  pub after : 1 ≤ e → w ≡ zeroed n w₀

pub cleared-none : (n : ℕ) (w : List ℕ) → Cleared n 0 w w
cleared-none n w = record { same = refl; after = λ h. absurd (omega arith) }

zeroed-again : (n : ℕ) (w : List ℕ) → zeroed n (zeroed n w) ≡ zeroed n w
unfolding zeroed
zeroed-again n w = front-zeroed n n (replicate n 0) w (length-replicate n 0) (le_refl n)

pub cleared_more : (n e : ℕ) (w₀ w w' : List ℕ) → Cleared n e w₀ w → w' ≡ zeroed n w → Cleared n (e + 1) w₀ w'
cleared_more n e w₀ w w' h q =
    let now : w' ≡ zeroed n w₀ = q ∙ h.same in record { same = ap (zeroed n) now ∙ zeroed-again n w₀; after = λ _. now }

-- ---- part after part

pub record Placed (s d₀ d : List ℕ) (at : ℕ) : Type 0 where
  pub is : d ≡ s ++ drop at d₀
  pub size : length s ≡ at

pub placed-none : (f : ℕ → List ℕ) (d : List ℕ) → Placed (joined f 0) d d 0
unfolding joined
placed-none f d = record { is = refl; size = refl }

pub placed-front : (s d₀ d : List ℕ) (at : ℕ) → d ≡ put_at d₀ 0 s → length s ≡ at → Placed s d d at
unfolding put_at
placed-front s d₀ d at e l =
    let is : d ≡ s ++ drop (0 + length s) d₀ = e in
    record { is = is ∙ ap (◌++◌ s) (sym (ap (drop at) is ∙ drop_at s (drop (0 + length s) d₀) at l)); size = l }

placed-more : (s d₀ d : List ℕ) (at end : ℕ) → Placed s d₀ d at → (ys : List ℕ) → at ≤ end → end ≤ length d → length ys ≡ length (take (end - at) (drop at d))
    → Placed (s ++ ys) d₀ (take at d ++ (ys ++ drop (end - at) (drop at d))) end
placed-more s d₀ d at end h ys l f k =
    let there : length ys ≡ end - at = k ∙ simp (length-take, length-drop) (omega arith) in
    let z : at + (end - at) ≡ end = omega arith in
    let front : take at d ≡ s = ap (take at) h.is ∙ take_at s (drop at d₀) at h.size in
    let rest : drop (end - at) (drop at d) ≡ drop end d₀
    = ap (drop (end - at)) (ap (drop at) h.is ∙ drop_at s (drop at d₀) at h.size) ∙ drop-drop (end - at) at d₀ ∙ ap (λ (n : ℕ). drop n d₀) z in
    record {
      is = ap₂ (λ (a b : List ℕ). a ++ (ys ++ b)) front rest ∙ sym (append_assoc s ys (drop end d₀));
      size = length-append s ys ∙ ap₂ ◌+◌ h.size there ∙ z;
    }

placed-all : (s d₀ d : List ℕ) (at : ℕ) → Placed s d₀ d at → length d₀ ≤ at → d ≡ s
placed-all s d₀ d at h l = h.is ∙ ap (◌++◌ s) (drop_of_length-le d₀ l) ∙ append-nil s

joined-more : (f : ℕ → List ℕ) (e : ℕ) (ys : List ℕ) → ys ≡ f e → joined f e ++ ys ≡ joined f (e + 1)
unfolding joined
joined-more f e ys q = ap (◌++◌ (joined f e)) q ∙ ap (joined f) (sym (add-one e))

-- the parts of no run, and of one run more, behind what stands at the front
pub placed-behind : (f : ℕ → List ℕ) (s d₀ d : List ℕ) (at : ℕ) → Placed s d₀ d at → Placed (s ++ joined f 0) d₀ d at
unfolding joined
placed-behind f s d₀ d at h = record { is = h.is ∙ ap (λ (z : List ℕ). z ++ drop at d₀) (sym (append-nil s)); size = ap length (append-nil s) ∙ h.size }

pub placed-turn : (f : ℕ → List ℕ) (e : ℕ) (s d₀ d : List ℕ) (at end : ℕ) → Placed (s ++ joined f e) d₀ d at → (ys : List ℕ) → ys ≡ f e → at ≤ end
    → end ≤ length d → length ys ≡ length (take (end - at) (drop at d))
    → Placed (s ++ joined f (e + 1)) d₀ (take at d ++ (ys ++ drop (end - at) (drop at d))) end
placed-turn f e s d₀ d at end h ys q l k m =
    let next = placed-more (s ++ joined f e) d₀ d at end h ys l k m in
    let same : (s ++ joined f e) ++ ys ≡ s ++ joined f (e + 1) = append_assoc s (joined f e) ys ∙ ap (◌++◌ s) (joined-more f e ys q) in
    record { is = next.is ∙ ap (λ (z : List ℕ). z ++ drop end d₀) same; size = ap length (sym same) ∙ next.size }

pub placed-next : (f : ℕ → List ℕ) (e : ℕ) (s d₀ d : List ℕ) (at end next : ℕ) → end ≡ next → Placed (s ++ joined f e) d₀ d at → (ys : List ℕ) → ys ≡ f e → at ≤ end
    → end ≤ length d → length ys ≡ length (take (end - at) (drop at d))
    → Placed (s ++ joined f (e + 1)) d₀ (take at d ++ (ys ++ drop (end - at) (drop at d))) next
placed-next f e s d₀ d at end next z h ys q l k m =
    let p = placed-turn f e s d₀ d at end h ys q l k m in
    record { is = p.is ∙ ap (λ (n : ℕ). (s ++ joined f (e + 1)) ++ drop n d₀) z; size = p.size ∙ z }

-- the whole keeps its length
pub turn-kept : (d ys : List ℕ) (at end : ℕ) → at ≤ end → end ≤ length d → length ys ≡ length (take (end - at) (drop at d))
    → length (take at d ++ (ys ++ drop (end - at) (drop at d))) ≡ length d
turn-kept d ys at end l k m =
    middle-kept at (end - at) ys d (m ∙ simp (length-take, length-drop) (omega arith)) (omega arith)

-- ---- the parts

pub prefix-digest : (p : Parameters) (n : ℕ) (x salt root : List ℕ) (e : ℕ) (r : Run) (h : List ℕ) → length salt ≡ 32 → r ≡ run_at SHAKE256 salt root e
    → h ≡ drop (length r.prefix) (run.message1 SHAKE256 p x r) → h ≡ digest_of SHAKE256 p n x salt root e
unfolding digest_of run_prefix
prefix-digest p n x salt root e r h l er eh =
    let long : length (salt ++ (e ∷ [])) ≡ prefix_length = length-append salt (e ∷ []) ∙ omega arith in
    eh ∙ ap (λ (q : Run). drop (length q.prefix) (run.message1 SHAKE256 p x q)) er
    ∙ ap (λ (k : ℕ). drop k (run.message1 SHAKE256 p x (run_at SHAKE256 salt root e))) long

-- message 2 of a run: where it starts and ends, and what stands there
pub points-inside : (L n e at size len : ℕ) → len ≡ n * L → at ≡ e * L → size ≡ L → e < n → at + size ≤ len
points-inside L n e at size len el ea es h = omega (arith, part-fits e n L h)

pub points-next : (L e at size : ℕ) → at ≡ e * L → size ≡ L → at + size ≡ (e + 1) * L
points-next L e at size ea es = ap₂ ◌+◌ ea es ∙ sym (suc-mul e L) ∙ ap (λ (k : ℕ). k * L) (sym (add-one e))

part2 : (p : Parameters) (m2 : List ℕ) (e at size : ℕ) → at ≡ e * message2_length p → size ≡ message2_length p
    → take (at + size - at) (drop at m2) ≡ message2_at p m2 e
unfolding message2_at
part2 p m2 e at size ea es = lent-part m2 at size ∙ ap₂ (part m2) ea es

-- ---- messages 3 and 5 of a run

module _ (p : Parameters) (x salt root : List ℕ) (key : Key) (m2 : List ℕ) where
  abbrev pub response : ℕ → List ℕ
  response e = run.message3 SHAKE256 p x (run_at SHAKE256 salt root e) key (message2_at p m2 e)

  abbrev pub opening : List ℕ → ℕ → List ℕ
  opening is e = run.message5 SHAKE256 p x (run_at SHAKE256 salt root e) key (message2_at p m2 e) (leaf_at is e)

  module _ (e at size : ℕ) (r : Run) (ea : at ≡ e * message2_length p) (es : size ≡ message2_length p) (er : r ≡ run_at SHAKE256 salt root e) where
    pub response-turn : (h : List ℕ) → h ≡ run.message3 SHAKE256 p x r key (take (at + size - at) (drop at m2)) → h ≡ response e
    response-turn h eh = eh ∙ ap₂ (λ (q : Run) (m : List ℕ). run.message3 SHAKE256 p x q key m) er (part2 p m2 e at size ea es)

    pub opening-turn : (is : List ℕ) (i : ℕ) (h : List ℕ) → i ≡ leaf_at is e
        → h ≡ run.message5 SHAKE256 p x r key (take (at + size - at) (drop at m2)) i → h ≡ opening is e
    opening-turn is i h ei eh =
        eh ∙ ap₂ (λ (q : Run) (m : List ℕ). run.message5 SHAKE256 p x q key m i) er (part2 p m2 e at size ea es)
        ∙ ap (run.message5 SHAKE256 p x (run_at SHAKE256 salt root e) key (message2_at p m2 e)) ei

-- ---- the messages

pub message1-made : (p : Parameters) (n : ℕ) (x salt root : List ℕ) (e : ℕ) (d₀ d : List ℕ) (at : ℕ)
    → Placed (salt ++ joined (digest_of SHAKE256 p n x salt root) e) d₀ d at → e ≡ n → length d₀ ≤ at → d ≡ message1 SHAKE256 p n x salt root
unfolding message1
message1-made p n x salt root e d₀ d at h q l =
    placed-all _ d₀ d at h l ∙ ap (λ (k : ℕ). salt ++ joined (digest_of SHAKE256 p n x salt root) k) q

pub message3-made : (p : Parameters) (n : ℕ) (x salt root : List ℕ) (key : Key) (m2 : List ℕ) (e : ℕ) (d₀ d : List ℕ) (at : ℕ)
    → Placed (joined (response p x salt root key m2) e) d₀ d at → e ≡ n → length d₀ ≤ at → d ≡ message3 SHAKE256 p n x salt root key m2
unfolding message3
message3-made p n x salt root key m2 e d₀ d at h q l = placed-all _ d₀ d at h l ∙ ap (joined (response p x salt root key m2)) q

pub message5-made : (p : Parameters) (n : ℕ) (x salt root : List ℕ) (key : Key) (m2 is : List ℕ) (e : ℕ) (d₀ d : List ℕ) (at : ℕ)
    → Placed (joined (opening p x salt root key m2 is) e) d₀ d at → e ≡ n → length d₀ ≤ at → d ≡ message5 SHAKE256 p n x salt root key m2 is
unfolding message5
message5-made p n x salt root key m2 is e d₀ d at h q l = placed-all _ d₀ d at h l ∙ ap (joined (opening p x salt root key m2 is)) q
