-- Announcements one after another.
--
-- block_of p out i             the part of out for share i: α, β and γ, 4t bytes each
-- Announcements p key message2 first shares n out   these parts are what each of n shares announces
use Rattle.std.specs.Prelude.{◌≡◌, Bool, List, ℕ, ◌*◌, ◌<◌}
use Rattle.lists.specs.Part.{part}
use Rattle.parameters.specs.declared.Parameters.{Parameters}
use Rattle.layout.specs.Layout.{row_length}
use Rattle.exchange.specs.Values.{Key}
use Rattle.coefficients.specs.Shares.{share_of}
use Rattle.values.specs.Announced.{announced_of}

abbrev pub block_of : Parameters → List ℕ → ℕ → List ℕ
block_of p out i = part out (i * row_length p) (row_length p)

abbrev pub Announcements : Parameters → Key → List ℕ → Bool → List ℕ → ℕ → List ℕ → Type 0
Announcements p key message2 first shares n out = (i : ℕ) → i < n → block_of p out i ≡ announced_of p key message2 first (share_of p shares i)
