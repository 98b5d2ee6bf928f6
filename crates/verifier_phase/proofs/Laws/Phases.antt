-- The phases as bytes are code words: a byte that is damaged in up to three bits reads as `Closed`.
--
-- every t, every-at   a test at every phase, and so at each
-- phase-back          a phase's byte reads as the phase
-- phase-read          a byte reads as closed, or is the byte of the phase that it reads as
-- phases-clear        the test of all pairs, computed
-- phases-apart        the bytes of two phases differ in at least four bits
-- damaged-closed      a byte that differs from a phase's in one, two or three bits reads as closed
use Rattle.std.specs.Prelude.{◌≡◌, refl, Bool, true, false, cond, List, [], ◌∷◌, ◌⊎◌, ℕ, ◌≤◌, eqb}
use Rattle.std.proofs.Common.{inl, inr, eqb-true}
use Rattle.lists.specs.Checks.{all_true}
use Rattle.lists.specs.Checks.Laws.{all-at}
use Rattle.lists.specs.Xor.{◌⊕◌}
use Rattle.prover_phase.proofs.Laws.Distance.{ones, distance, clear}
use Rattle.prover_phase.proofs.Laws.Distance.Laws.{words-apart, near-shut}
use Rattle.verifier_phase.specs.declared.Phase.{Phase}
use Rattle.verifier_phase.specs.declared.Phase.TheVariants.{Fresh, Begun, Pointed, Responded, Chosen, Closed}
use Rattle.verifier_phase.specs.Phases.{verifier_phase_byte, verifier_phase_from}

abbrev every : (Phase → Bool) → List Bool
every t = t Fresh ∷ t Begun ∷ t Pointed ∷ t Responded ∷ t Chosen ∷ t Closed ∷ []

every-at : (t : Phase → Bool) → all_true (every t) ≡ true → (f : Phase) → t f ≡ true
every-at t e Fresh = all-at (every t) e 0
every-at t e Begun = all-at (every t) e 1
every-at t e Pointed = all-at (every t) e 2
every-at t e Responded = all-at (every t) e 3
every-at t e Chosen = all-at (every t) e 4
every-at t e Closed = all-at (every t) e 5

pub phase-back : (f : Phase) → verifier_phase_from (verifier_phase_byte f) ≡ f
phase-back Fresh = refl
phase-back Begun = refl
phase-back Pointed = refl
phase-back Responded = refl
phase-back Chosen = refl
phase-back Closed = refl

phase-read : (b : ℕ) → (verifier_phase_from b ≡ Closed) ⊎ (b ≡ verifier_phase_byte (verifier_phase_from b))
phase-read b = go (eqb b 0x0f) refl (eqb b 0x33) refl (eqb b 0x3c) refl (eqb b 0x55) refl (eqb b 0x5a) refl
  where
    is : Bool → Bool → Bool → Bool → Bool → Phase
    is p q r s t = cond p Fresh (cond q Begun (cond r Pointed (cond s Responded (cond t Chosen Closed))))

    go : (p : Bool) → eqb b 0x0f ≡ p → (q : Bool) → eqb b 0x33 ≡ q → (r : Bool) → eqb b 0x3c ≡ r → (s : Bool) → eqb b 0x55 ≡ s → (t : Bool) → eqb b 0x5a ≡ t
        → (is p q r s t ≡ Closed) ⊎ (b ≡ verifier_phase_byte (is p q r s t))
    go true e q f r g s h t i = inr (eqb-true b 0x0f e)
    go false e true f r g s h t i = inr (eqb-true b 0x33 f)
    go false e false f true g s h t i = inr (eqb-true b 0x3c g)
    go false e false f false g true h t i = inr (eqb-true b 0x55 h)
    go false e false f false g false h true i = inr (eqb-true b 0x5a i)
    go false e false f false g false h false i = inl refl

phases-clear : all_true (every (λ f. all_true (every (λ g. clear (verifier_phase_byte f) (verifier_phase_byte g))))) ≡ true
unfolding clear distance ones ◌⊕◌
phases-clear = refl

clear_at : (f g : Phase) → clear (verifier_phase_byte f) (verifier_phase_byte g) ≡ true
clear_at f =
    every-at (λ g. clear (verifier_phase_byte f) (verifier_phase_byte g))
    (every-at (λ f. all_true (every (λ g. clear (verifier_phase_byte f) (verifier_phase_byte g)))) phases-clear f)

pub phases-apart : (f g : Phase) → (f ≡ g → ⊥) → 4 ≤ distance (verifier_phase_byte f) (verifier_phase_byte g)
phases-apart = words-apart verifier_phase_byte verifier_phase_from Closed phase-back clear_at

pub damaged-closed : (f : Phase) (b : ℕ) → 1 ≤ distance (verifier_phase_byte f) b → distance (verifier_phase_byte f) b ≤ 3 → verifier_phase_from b ≡ Closed
damaged-closed = near-shut verifier_phase_byte verifier_phase_from Closed phase-back clear_at phase-read
