-- What the lent middle part leaves, `lent_back`, is the write of the sum, which `xor_at` is by definition.
use Rattle.std.proofs.Common.{ap, arith, length, ℕ, ◌+◌, ◌-◌, ◌∙◌, ◌≡◌}
use Rattle.lists.specs.Part.{part, put_at}
use Rattle.lists.specs.Part.Laws.{lent_back}
use Rattle.lists.specs.Sum.{xor_list, xor_at}
use Rattle.lists.proofs.xor_at.Goals as goal

pub returns : goal.returns
unfolding part xor_at
returns c =
    let f = c.xor_into in
    let a = c.args in
    let n : ℕ = length a.s.now in
    let k : (a.at + n) - a.at ≡ n = omega arith in
    let l : length f.new.s ≡ (a.at + n) - a.at = omega arith in
    lent_back a.d.now f.new.s a.at (a.at + n) (omega arith) l
    ∙ ap (put_at a.d.now a.at) (f.ensures ∙ ap (λ (m : ℕ). xor_list (part a.d.now a.at m) a.s.now) k)
