-- What differs stays apart: nonzero factors of bytes cancel, and no nonzero byte is two of the first 255 powers of 03.
--
--   ⊗-cancel        a factor that is not zero cancels
--   ⊗-some          a product of nonzero bytes is not zero
--   power-once      two of the first 255 powers of 03 are equal only if their exponents are
use Rattle.std.specs.Prelude.{◌≡◌, ℕ, ◌<◌, T, eqb, get_or}
use Rattle.std.proofs.Common.{sym, ap, ◌∙◌, arith, eqb→eq, lit<}
use Rattle.lists.specs.Xor.Laws.{positive}
use Rattle.lists.specs.Computed.{all, below}
use Rattle.bytefield.specs.Product.{◌⊗◌}
use Rattle.bytefield.specs.Product.Laws.{⊗-comm, ⊗-assoc, ⊗-zero, one-⊗}
use Rattle.bytefield.specs.Inverse.{inverse}
use Rattle.bytefield.proofs.Laws.Inverse.{⊗-inverse}
use Rattle.bytefield.specs.Tables.{powers, logs}
use Rattle.bytefield.specs.Powers.{power}
use Rattle.bytefield.proofs.Laws.Powers.{powers-at}

undo : (a b : ℕ) → 0 < a → a < 256 → b < 256 → inverse a ⊗ (a ⊗ b) ≡ b
undo a b z h k = sym (⊗-assoc (inverse a) a b) ∙ ap (λ (x : ℕ). x ⊗ b) (⊗-comm (inverse a) a ∙ ⊗-inverse a z h) ∙ one-⊗ b k

pub ⊗-cancel : (a b c : ℕ) → 0 < a → a < 256 → b < 256 → c < 256 → a ⊗ b ≡ a ⊗ c → b ≡ c
⊗-cancel a b c z ha hb hc e = sym (undo a b z ha hb) ∙ ap (◌⊗◌ (inverse a)) e ∙ undo a c z ha hc

pub ⊗-some : (a b : ℕ) → 0 < a → a < 256 → 0 < b → b < 256 → 0 < a ⊗ b
⊗-some a b z ha y hb = positive (a ⊗ b) (λ e. let n : b ≡ 0 = ⊗-cancel a b 0 z ha hb (lit< tt) (e ∙ sym (⊗-zero a)) in omega arith)

-- ---- powers of 03

log-test : T (all 255 (λ n. eqb (get_or logs (get_or powers n 0) 0) n))
unfolding powers logs
log-test = tt

log-power : (n : ℕ) → n < 255 → get_or logs (power n) 0 ≡ n
log-power n h =
    ap (λ (a : ℕ). get_or logs a 0) (sym (powers-at n (omega arith)))
    ∙ eqb→eq (get_or logs (get_or powers n 0) 0) n (below 255 (λ n. eqb (get_or logs (get_or powers n 0) 0) n) log-test n h)

pub power-once : (n k : ℕ) → n < 255 → k < 255 → power n ≡ power k → n ≡ k
power-once n k h l e = sym (log-power n h) ∙ ap (λ (a : ℕ). get_or logs a 0) e ∙ log-power k l
