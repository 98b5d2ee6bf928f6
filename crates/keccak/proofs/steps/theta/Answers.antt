-- The columns are what `columns` promises and the rotated ones what `rotated` promises; with these the 25 entries are the same on both sides.
-- θ, where the columns are cs and the rotated ones, from the second on, rs
use Rattle.std.proofs.Common.{List, [], ap, get_or, ℕ, ◌%◌, ◌+◌, ◌/◌, ◌∙◌, ◌∷◌}
use Rattle.fips.specs.Steps.{θ, tab, lane, rotl, ◌⊕◌}
use Rattle.keccak.proofs.steps.theta.Goals as goal

abbrev by : List ℕ → List ℕ → List ℕ → List ℕ
by a cs rs = tab 25 (λ i. lane a i (i / 5) ⊕ (get_or cs ((i + 4) % 5) 0 ⊕ get_or rs (i % 5) 0))

abbrev turned : List ℕ → List ℕ
turned cs = tab 5 (λ i. rotl (get_or cs ((i + 1) % 5) 0) 1)

pub returns : goal.returns
unfolding θ
returns c =
    let a = c.args.a in
    let cs = c.columns-c.result in
    (λ i. by a cs (c.rotated.ensures i ∷ c.rotated-2.ensures i ∷ c.rotated-3.ensures i ∷
    c.rotated-4.ensures i ∷ c.rotated-5.ensures i ∷ [])) ∙ ap (λ (l : List ℕ). by a l (turned l)) c.columns-c.ensures
