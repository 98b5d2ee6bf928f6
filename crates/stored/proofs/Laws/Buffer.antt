-- The laws of a buffer.
--
-- fits_not, fits-so        what a buffer of another length gives, and one of the length
-- refused-stays            a refused call leaves the bytes as they are
-- refused-kept, done-kept  what is kept, from what a call answered
use Rattle.std.specs.Prelude.{◌≡◌, List, ℕ, length, Ok, Err}
use Rattle.std.proofs.Common.{sym, ap, ◌∙◌, eq-eqb, ne_eqb}
use Rattle.answers.specs.Number.{answer_number}
use Rattle.answers.specs.Number.Laws.{refused-not-0}
use Rattle.answers.specs.Answer.{Answer}
use Rattle.answers.specs.declared.Refusal.{Refusal}
use Rattle.stored.specs.Buffer.{fits, after, kept}

module _ {A : Type 0} (b : List ℕ) (n : ℕ) (call other : A) where
  pub fits_not : (length b ≡ n → ⊥) → other ≡ fits b n call other
  unfolding fits
  fits_not h = rw (ne_eqb (length b) n h)

  pub fits-so : length b ≡ n → call ≡ fits b n call other
  unfolding fits
  fits-so e = rw (eq-eqb (length b) n e)

pub refused-stays : (n : ℕ) (old new : List ℕ) → (n ≡ 0 → ⊥) → after n old new ≡ old
refused-stays n old new h = rw (ne_eqb n 0 h)

module _ (a : Answer) (b new : List ℕ) where
  pub refused-kept : (n : ℕ) (r : Refusal) → n ≡ answer_number a → a ≡ Err r → kept n b ≡ kept (answer_number a) (after (answer_number a) b new)
  refused-kept n r e g =
      ap (λ (z : ℕ). kept z b) e ∙ ap (kept (answer_number a)) (sym (refused-stays (answer_number a) b new (λ z. refused-not-0 r (sym (ap answer_number g) ∙ z))))

  pub done-kept : (b' : List ℕ) → a ≡ Ok tt → b' ≡ new → kept 0 b' ≡ kept (answer_number a) (after (answer_number a) b new)
  done-kept b' e g = rw (e, g)
