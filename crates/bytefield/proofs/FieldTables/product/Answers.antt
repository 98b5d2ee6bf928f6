-- Where neither byte is 0, the product is the power at the sum of the logarithms.
use Rattle.std.proofs.Common.{ap, inl, inr, sym, ℕ, ◌∙◌}
use Rattle.bytefield.specs.Product.{◌⊗◌}
use Rattle.bytefield.specs.Product.Laws.{⊗-zero, zero-⊗}
use Rattle.bytefield.proofs.Laws.Powers.{log-sum}
use Rattle.bytefield.proofs.FieldTables.product.Goals as goal

pub returns-then-b-eq0 : goal.returns-then-b-eq0
returns-then-b-eq0 c =
    let a = c.args in
    elim c.if-b-eq0.either [
      | inl e ↦ sym (ap (λ (x : ℕ). x ⊗ a.b) e ∙ zero-⊗ a.b)
      | inr e ↦ sym (ap (λ (x : ℕ). a.a ⊗ x) e.1 ∙ ⊗-zero a.a)
    ]

pub returns-else-b-eq0 : goal.returns-else-b-eq0
returns-else-b-eq0 c =
    c.power_of.ensures ∙ c.wrapped.ensures.1
    ∙ log-sum _ _ _ _ c.log_of.ensures.1 c.log_of-else-b-eq0.ensures.1
