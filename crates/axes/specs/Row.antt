-- What the code makes of an axis, in bytes. A block is α, β and γ of a share (crate values).
--
-- front_by p block                   α and β of a block
-- v_at p first s block hats l        v of the share s at position l, with the constant α̂·β̂ where `first`; `hats` is α̂ and β̂
-- v_by p first s block hats          the same at all positions
-- row_by p first s block hats        α, β and v of the share s
-- with_hidden p leaf hidden hats     the hidden leaf's α and β are added, where one is hidden
-- hats_by p leaf block hidden        α̂ and β̂: from the block of the sum of all disclosed leaves, and the hidden leaf's α and β
-- hiding_by p hidden total           what the party that holds the hidden leaf adds to its row: that leaf's α and β, and v of the row `total`
-- hidden_party p leaf j              the party that holds the hidden leaf on axis j
-- with_hiding p party hiding row     the rows of an axis with `hiding` added to that of a party
-- axis_by p total r party hiding     the rows of all parties of an axis, of which `party` holds the hidden leaf: r c by the formula, and of
--                                   the last one what these leave of the row `total`
use Rattle.std.specs.Prelude.{Bool, cond, List, ◌++◌, ℕ, ◌+◌, ◌*◌, eqb, ltb, take, drop}
use Rattle.lists.specs.Sum.{xor_list, xor_at}
use Rattle.tower.specs.Field.{Point}
use Rattle.parameters.specs.declared.Parameters.{Parameters}
use Rattle.layout.specs.Layout.{side, leaves, digit, factor_length, values_length, row_length, at_v}
use Rattle.exchange.specs.Sequences.{joined}
use Rattle.exchange.specs.Reading.{point_at, encode}
use Rattle.values.specs.Announced.{v_of}
use Rattle.parties.specs.Sums.{with_last}

unfoldable pub front_by : Parameters → List ℕ → List ℕ
front_by p block = take (values_length p) block

unfoldable pub v_at : Parameters → Bool → List ℕ → List ℕ → List ℕ → ℕ → Point
v_at p first s block hats l = v_of p s first (point_at block (at_v p + 4 * l)) (point_at hats (4 * l)) (point_at hats (factor_length p + 4 * l)) l

unfoldable pub v_by : Parameters → Bool → List ℕ → List ℕ → List ℕ → List ℕ
v_by p first s block hats = encode (v_at p first s block hats) p.t

unfoldable pub row_by : Parameters → Bool → List ℕ → List ℕ → List ℕ → List ℕ
row_by p first s block hats = front_by p block ++ v_by p first s block hats

-- ---- the hidden leaf

unfoldable pub with_hidden : Parameters → ℕ → List ℕ → List ℕ → List ℕ
with_hidden p leaf hidden hats = cond (ltb leaf (leaves p)) (xor_list hats hidden) hats

unfoldable pub hats_by : Parameters → ℕ → List ℕ → List ℕ → List ℕ
hats_by p leaf block hidden = with_hidden p leaf hidden (front_by p block)

unfoldable pub hiding_by : Parameters → List ℕ → List ℕ → List ℕ
hiding_by p hidden total = hidden ++ drop (at_v p) total

unfoldable pub hidden_party : Parameters → ℕ → ℕ → ℕ
hidden_party p leaf j = cond (ltb leaf (leaves p)) (digit p j leaf) (side p)

abbrev pub with_hiding : Parameters → ℕ → List ℕ → List ℕ → List ℕ
with_hiding p party hiding row = cond (ltb party (side p)) (xor_at row (party * row_length p) hiding) row

-- ---- an axis

unfoldable pub axis_by : Parameters → List ℕ → (ℕ → List ℕ) → ℕ → List ℕ → List ℕ
axis_by p total r party hiding = joined (λ c. cond (eqb c party) (xor_list (with_last p total r c) hiding) (with_last p total r c)) (side p)
