-- The bytes are those that `bytes` has.
use Rattle.std.proofs.Common.{arith, ap₂, [], ◌∷◌, ℕ, ◌/◌, ◌%◌, ◌≡◌}
use Rattle.packed.specs.Word.{bytes}
use Rattle.points.proofs.point_of.Goals as goal

pub returns : goal.returns
unfolding bytes
returns c =
    let w = c.args.w in
    let e : w / 65536 ≡ w / 256 / 256 = omega arith in
    let f : w / 16777216 ≡ w / 256 / 256 / 256 = omega arith in
    rw c.to_le_bytes.ensures (ap₂ (λ (x y : ℕ). w % 256 ∷ w / 256 % 256 ∷ x % 256 ∷ y % 256 ∷ []) e f)
