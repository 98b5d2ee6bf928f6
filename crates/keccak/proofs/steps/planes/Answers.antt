-- Each plane is what `rotated` promises of its lanes and offsets, and what `chi_iota` promises of these; with them the 25 entries are the same on
-- both sides.
-- plane y after ρ and π
use Rattle.std.proofs.Common.{List, [], ap, get_or, set, ℕ, ◌%◌, ◌*◌, ◌++◌, ◌+◌, ◌∙◌, ◌∷◌, ◌≡◌}
use lib.Bits.{xor_zero_r}
use Rattle.fips.specs.Tables.{offsets}
use Rattle.fips.specs.Steps.{ρ, π, χ, ι, tab, lane, rotl}
use Rattle.keccak.specs.Planes.{chi_plane, chi_iota}
use Rattle.keccak.proofs.steps.planes.Goals as goal

abbrev turned : List ℕ → ℕ → List ℕ
turned a y = tab 5 (λ x. rotl (lane a (x + 3 * y) x) (get_or offsets ((x + 3 * y) % 5 + 5 * x) 0))

abbrev five : List ℕ → List ℕ
five p = tab 5 (λ x. get_or p x 0)

-- five planes one after another
abbrev all : List ℕ → List ℕ → List ℕ → List ℕ → List ℕ → List ℕ
all p q r s t = five p ++ (five q ++ (five r ++ (five s ++ five t)))

-- with 0 added, χ alone
plain : {p b b' : List ℕ} → p ≡ chi_iota b 0 → b ≡ b' → p ≡ chi_plane b'
plain {b' = b'} made is = made ∙ ap (λ (b : List ℕ). chi_iota b 0) is ∙ ap (set (chi_plane b') 0) (xor_zero_r (get_or (chi_plane b') 0 0))

pub returns : goal.returns
unfolding ρ π χ ι
returns c =
    let a = c.args.a in
    let e4 : c.chi_iota-p4.result ≡ chi_plane (turned a 4) = plain c.chi_iota-p4.ensures
    (λ i. c.rotated-b20.ensures i ∷ c.rotated-b21.ensures i ∷ c.rotated-b22.ensures i ∷ c.rotated-b23.ensures i ∷ c.rotated-b24.ensures i ∷ []) in
    let e3 : c.chi_iota-p3.result ≡ chi_plane (turned a 3) = plain c.chi_iota-p3.ensures
    (λ i. c.rotated-b15.ensures i ∷ c.rotated-b16.ensures i ∷ c.rotated-b17.ensures i ∷ c.rotated-b18.ensures i ∷ c.rotated-b19.ensures i ∷ []) in
    let e2 : c.chi_iota-p2.result ≡ chi_plane (turned a 2) = plain c.chi_iota-p2.ensures
    (λ i. c.rotated-b10.ensures i ∷ c.rotated-b11.ensures i ∷ c.rotated-b12.ensures i ∷ c.rotated-b13.ensures i ∷ c.rotated-b14.ensures i ∷ []) in
    let e1 : c.chi_iota-p1.result ≡ chi_plane (turned a 1) = plain c.chi_iota-p1.ensures
    (λ i. c.rotated-b5.ensures i ∷ c.rotated-b6.ensures i ∷ c.rotated-b7.ensures i ∷ c.rotated-b8.ensures i ∷ c.rotated-b9.ensures i ∷ []) in
    let e0 : c.chi_iota-p0.result ≡ chi_iota (turned a 0) c.args.c = c.chi_iota-p0.ensures ∙ ap (λ (b : List ℕ). chi_iota b c.args.c)
    (λ i. c.rotated-b0.ensures i ∷ c.rotated-b1.ensures i ∷ c.rotated-b2.ensures i ∷ c.rotated-b3.ensures i ∷ c.rotated-b4.ensures i ∷ []) in
    λ i. all (e0 i) (e1 i) (e2 i) (e3 i) (e4 i)
