-- The laws of message 1.
--
-- commitment-made    the digest of all commitments, from the prover's states and aux: what stands behind the prefix in message 1
use Rattle.std.specs.Prelude.{◌≡◌, refl, List, [], ℕ, length, drop}
use Rattle.std.proofs.Common.{sym, ap, ap₂, ◌∙◌, le_refl, drop_at}
use Rattle.shake256.specs.Fips.{SHAKE256}
use Rattle.parameters.specs.declared.Parameters.{Parameters}
use Rattle.layout.specs.Layout.{leaves}
use Rattle.exchange.specs.Run.{Run}
use Rattle.exchange.specs.Strings.{string5}
use Rattle.exchange.specs.Messages.{own_aux, message1}
use Rattle.leaves.specs.States.{state_at}
use Rattle.leaves.specs.Commitments.{commitments_of}
use Rattle.leaves.specs.Commitments.Laws.{commitments-message1}
use Rattle.messages.specs.Own.{own_states}
use Rattle.messages.proofs.Laws.Own.{own_states-at}

pub commitment-made : (p : Parameters) (x : List ℕ) (run : Run) → length run.root ≡ 16 → (prefix states aux : List ℕ) (n l : ℕ)
    → prefix ≡ run.prefix → states ≡ own_states p run → n ≡ leaves p → aux ≡ own_aux SHAKE256 p x run → l ≡ 32
    → SHAKE256 (string5 prefix (commitments_of p prefix states n [] aux) (leaves p)) l ≡ drop (length run.prefix) (message1 SHAKE256 p x run)
commitment-made p x run sixteen prefix states aux n l ep es en ea el =
    let digest : List ℕ → ℕ → List ℕ = λ q k. SHAKE256 (string5 q (commitments_of p q states k [] aux) (leaves p)) 32 in
    ap (SHAKE256 (string5 prefix (commitments_of p prefix states n [] aux) (leaves p))) el ∙ ap₂ digest ep en
    ∙ sym (drop_at run.prefix (digest run.prefix (leaves p)) (length run.prefix) refl)
    ∙ ap (drop (length run.prefix))
    (commitments-message1 p x run states (leaves p) [] aux (λ i h. ap (λ (st : List ℕ). state_at st i) es ∙ own_states-at p x run sixteen i h) ea
    (le_refl (leaves p)))
